use Rattle.std.proofs.Common.{◌≡◌, drop}
use Rattle.memory.specs.Meaning.{value_in}
use Rattle.inplace.specs.Undo.{undoes}
use Rattle.inplace.proofs.inplace.InPlace.standing.Given as goal

-- no record before tx-index keeps an old value of the cell
abbrev pub invariant-loop-tx : goal.invariant-loop-tx
invariant-loop-tx l =
    value_in (undoes l.self.txs) l.place.cell ≡ value_in (undoes (drop l.tx-index l.self.txs)) l.place.cell
