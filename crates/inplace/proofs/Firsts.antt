-- The first write of a cell: its old value goes into the log, and the new one into the cell.
use Rattle.std.proofs.Common.{◌≡◌, ℕ, ◌<◌, true, false, List, [], ◌∷◌, ◌++◌, map, length, get_or, set}
use Rattle.std.proofs.Common.{Ok, Result, ap, ◌∙◌}
use Rattle.std.proofs.lemmas.Bool.{cond-true, cond-false, lt-ltb}
use Rattle.std.proofs.lemmas.List.{length-map}
use Rattle.memory.specs.declared.write.Write.{Write}
use Rattle.memory.specs.declared.access.Access.TheVariants.{Writes}
use Rattle.memory.specs.declared.log.Log.{Log}
use Rattle.memory.specs.declared.log.Transaction.TheVariants.{Closed, Open}
use Rattle.memory.specs.declared.place.Place.{Place}
use Rattle.memory.specs.Logs.{marks_of}
use Rattle.memory.specs.Meaning.{Meaning, live, served, with_tx, wrote, recording}
use Rattle.memory.specs.Few.{fitted}
use Rattle.memory.specs.declared.fault.Refusal.{Refusal}
use Rattle.inplace.specs.declared.inplace.InPlace.{InPlace}
use Rattle.inplace.specs.Undo.{undo_log, distinct, undoes, written, tx_in}
use Rattle.inplace.specs.Standing.{meant, meaning_of}
use Rattle.inplace.proofs.Assigns.{added_apart, added_cells, added_txs, free_after, served_again}
use Rattle.inplace.proofs.Conflicts.{wrote_written}
use Rattle.inplace.proofs.Means.{both}
use Rattle.inplace.proofs.Opens.{write_new, write_full}
use Rattle.inplace.proofs.Own.{own_at}

-- n is the memory before the access and e the one after it, l the log of the card's transaction, r and g what its
-- record answered and left of the old value
module _ (n e : InPlace) (p : Place) (l g : Log) (r : Result (Unit {0}) Refusal) (fits : p.cell < length e.cells)
    (after : meaning_of e ≡ served Writes p.card p.cell (tx_in n.cells (Open l)) (meaning_of n))
    (kept : get_or e.txs p.card Closed ≡ Open l)
    (same : map (written e.cells) (undo_log l) ≡ map (written n.cells) (undo_log l))
    (fresh : wrote (undo_log l) p.cell ≡ false) (roomy : length (undo_log l) < 4) (marks : marks_of g ≡ marks_of l)
    (recorded : (r, undo_log g)
    ≡ fitted (undo_log l) (recording (undo_log l) p.cell (get_or e.cells p.cell 0))) where
  -- the card's place, and its log there
  own : (p.card < length e.txs) × (Open l ≡ get_or e.txs p.card (Open l))
  own = own_at e p.card (Open l) p.within.0 kept

  -- no other card has written the cell
  free : wrote (undoes (set e.txs p.card Closed)) p.cell ≡ false
  free = free_after e Writes p.card p.cell (tx_in n.cells (Open l)) (meaning_of n) after

  -- the log with the old value, which is in the cell, at its end
  abbrev longer : List Write
  longer = undo_log l ++ record { cell = p.cell; value = get_or e.cells p.cell 0 } ∷ []

  -- there was room for it
  put : ◌≡◌ {A = Result (Unit {0}) Refusal × List Write} (r, undo_log g) (Ok tt, longer)
  put =
      recorded
      ∙ ap (fitted (undo_log l)) (cond-false _ _ _ fresh ∙ cond-true _ _ _ (lt-ltb _ _ roomy))

  -- so it was not refused
  pub first_fits : r ≡ Ok tt
  first_fits = ap (λ q. q.0) put

  -- and is kept
  more : undo_log g ≡ longer
  more = ap (λ q. q.1) put

  -- no old value is kept twice
  pub first_apart : distinct (undoes (set e.txs p.card (Open g))) ≡ true
  first_apart =
      added_apart e.cells e.txs p.card l p.cell 0 own.0 own.1 e.apart free g fresh fits marks more

  -- the standing values are as they were, and the card's transaction has one write more
  pub first_after : (v : ℕ) → meant (set e.cells p.cell v) (set e.txs p.card (Open g))
      ≡ served Writes p.card p.cell
      (live (marks_of l) (map (written n.cells) (undo_log l) ++ record { cell = p.cell; value = v } ∷ []))
      (meaning_of n)
  first_after v =
      let tx = λ (ws : List Write). live (marks_of l) (ws ++ record { cell = p.cell; value = v } ∷ []) in
      let ws = map (written n.cells) (undo_log l) in
      both _ _ (added_cells e.cells e.txs p.card l p.cell v own.0 own.1 e.apart free g fresh fits marks more)
      (added_txs e.cells e.txs p.card l p.cell v own.0 own.1 e.apart free g fresh fits marks more)
      ∙ (ap (λ us. with_tx (meaning_of e) p.card (tx us)) same
      ∙ (ap (λ (m : Meaning). with_tx m p.card (tx ws)) after
      ∙ served_again Writes p.card p.cell (tx_in n.cells (Open l)) (tx ws) (meaning_of n)))

-- the first write by its parts, for the tactics
pub ruleset firsts = (write_new, write_full, first_fits, wrote_written, length-map)
