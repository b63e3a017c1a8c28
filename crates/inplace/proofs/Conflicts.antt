-- What a transaction has touched goes by the cells of its records alone, and not by their values.
use Rattle.std.proofs.Common.{◌≡◌, ℕ, true, cond, ◌||◌, eqb, List, [], ◌∷◌, map, refl, ap}
use Rattle.memory.specs.declared.write.Write.{Write}
use Rattle.memory.specs.declared.access.Access.{Access}
use Rattle.memory.specs.declared.access.Access.TheVariants.{Reads, Writes}
use Rattle.memory.specs.Meaning.{conflicts, wrote, marked}
use Rattle.memory.specs.declared.log.Transaction.{Transaction}
use Rattle.memory.specs.declared.log.Transaction.TheVariants.{Closed, Open, Doomed}
use Rattle.memory.specs.Logs.{marks_of, tx_kept}
use Rattle.inplace.specs.Undo.{undo_log, written, tx_in}

-- the cells that are written
pub wrote_written : (cs : List ℕ) (us : List Write) (cell : ℕ) → wrote (map (written cs) us) cell ≡ wrote us cell
wrote_written cs [] cell = refl
wrote_written cs (u ∷ us) cell = ap (cond (eqb u.cell cell) true) (wrote_written cs us cell)

-- what an access dooms
pub conflicts_in : (cs : List ℕ) (a : Access) (cell : ℕ) (t : Transaction)
    → conflicts a cell (tx_in cs t) ≡ conflicts a cell (tx_kept t)
conflicts_in cs a cell Closed = refl
conflicts_in cs Reads cell (Open l) = wrote_written cs (undo_log l) cell
conflicts_in cs Writes cell (Open l) =
    ap (λ b. b || marked (marks_of l) cell) (wrote_written cs (undo_log l) cell)
conflicts_in cs a cell Doomed = refl
