use Rattle.inplace.proofs.Dooms.{Done}
use Rattle.inplace.proofs.undo.doom.Given as goal

abbrev pub invariant-loop-i : goal.invariant-loop-i
invariant-loop-i l = Done l.how l.place.card l.place.cell l.initial.cells l.initial.txs l.i l.cells l.txs
