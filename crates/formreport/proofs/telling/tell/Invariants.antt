use Rattle.std.proofs.Common.{string_bytes}
use Rattle.formreport.proofs.Told.{Telling}
use Rattle.formreport.proofs.telling.tell.Given as goal

abbrev pub invariant-loop-index : goal.invariant-loop-index
invariant-loop-index l =
    Telling l.text (string_bytes l.initial.out) (string_bytes l.out) l.count l.index l.rest
