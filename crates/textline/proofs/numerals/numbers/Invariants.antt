use Rattle.std.proofs.Common.{◌≡◌, length}
use Rattle.textline.proofs.Fields.{Got}
use Rattle.textline.proofs.numerals.numbers.Given as goal

abbrev pub invariant-loop-slot : goal.invariant-loop-slot
invariant-loop-slot g l = (length l.slot-items ≡ g.row.N) × Got l.s l.slot-index l.slot-items l.rest
