use Rattle.std.proofs.Common.{rules}
use Rattle.door.specs.declared.request.Kind.TheVariants.{EnterToRead, EnterToWrite, Leave, Add, Show}
use Rattle.door.proofs.requests.understand.Goals as goal

-- no kind has the number
pub returns-in_err-try_from : goal.returns-in_err-try_from
returns-in_err-try_from c =
    let none = c.in_err-try_from.ensures.1 in
    let one = none EnterToRead in
    let two = none EnterToWrite in
    let three = none Leave in
    let four = none Add in
    let five = none Show in
    search rules
