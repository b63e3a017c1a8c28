use Rattle.std.proofs.Common.{arith, length-set}
use Rattle.textline.proofs.Fields.{got_more, got_next}
use Rattle.textline.proofs.numerals.numbers.Goals as goal

pub returns-in_err-slot : goal.returns-in_err-slot
returns-in_err-slot g c =
    rw c.from_residual.ensures
    (λ ns h.
    c.in_err-slot.ensures _ _
    (got_next _ _ _ ns g.row.N c.loop-slot.slot-index c.loop-slot.invariant.1 (omega arith) h))

pub loop-slot-preserved : goal.loop-slot-preserved
loop-slot-preserved g c = (
  simp length-set c.loop-slot.invariant.0,
  got_more _ _ _ _ _ _ (omega arith) c.loop-slot.invariant.1 c.in_ok-slot.ensures,
)
