use Rattle.std.proofs.Common.{◌≡◌, length, vec_items}
use Rattle.schedule.proofs.Progress.{Progress}
use Rattle.formtext.proofs.reading.read.Given as goal

abbrev pub invariant-loop-index : goal.invariant-loop-index
invariant-loop-index l =
    (length (vec_items l.events) ≡ l.index)
    × Progress l.text l.sizes l.count (vec_items l.events) l.rest
