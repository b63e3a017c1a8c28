-- A call that wants a transaction, by the log of the open one.
use Rattle.std.proofs.Common.{◌≡◌, ℕ, ◌<◌, ◌≤◌, true, false, List, [], ◌∷◌, ◌++◌, map, length, set, Some, None, Ok}
use Rattle.std.proofs.Common.{sym, ap, ◌∙◌}
use Rattle.std.proofs.lemmas.Bool.{cond-true, cond-false, lt-ltb, le-ltb}
use Rattle.memory.specs.declared.write.Write.{Write}
use Rattle.memory.specs.declared.fault.Refusal.TheVariants.{Full}
use Rattle.memory.specs.declared.access.Access.TheVariants.{Reads, Writes}
use Rattle.memory.specs.declared.log.Log.{Log}
use Rattle.memory.specs.declared.place.Place.{Place}
use Rattle.memory.specs.Logs.{marks_of}
use Rattle.memory.specs.Meaning.{Meaning, Tx, Outcome, none, live, tx_of, in_range, standing, served, with_tx, landed}
use Rattle.memory.specs.Meaning.{accepted, refused, marking, replaced, value_in, wrote}
use Rattle.memory.specs.Meaning.{reading, writing, committing, read_at, read_open, read_marking, write_at, write_open}
use Rattle.memory.specs.Meaning.{commit_at, guarded, store_at, storing, with_cell}
use Rattle.memory.proofs.Rooms.{fitted_ok, fitted_err}
use Rattle.inplace.specs.declared.inplace.InPlace.{InPlace}
use Rattle.inplace.specs.Undo.{undo_log, written}
use Rattle.inplace.specs.Standing.{meaning_of, Opened}
use Rattle.inplace.proofs.Restores.{written_value, unwritten_value}

module _ (e n : InPlace) (p : Place) (card cell : ℕ) (l : Log)
    (at : (in_range card cell ≡ true) × (p.card ≡ card) × (p.cell ≡ cell)) (o : Opened e n p (Ok l)) where
  -- the meaning after the log was looked up, which is the one before
  abbrev m : Meaning
  m = meaning_of n

  -- what the transaction has written
  abbrev ws : List Write
  ws = map (written n.cells) (undo_log l)

  -- any such call goes by that transaction
  by_log : {X : Type 0} (k : Meaning → ℕ → ℕ → Tx → Outcome X)
      → guarded (meaning_of e) card cell (k (meaning_of e) card cell) ≡ k m p.card p.cell (live (marks_of l) ws)
  by_log k =
      cond-true _ _ _ at.0
      ∙ (ap (λ (x : Meaning). k x card cell (tx_of x card)) (sym o.0)
      ∙ (ap (λ x. k m x cell (tx_of m x)) (sym at.1)
      ∙ (ap (λ x. k m p.card x (tx_of m p.card)) (sym at.2) ∙ ap (k m p.card p.cell) o.1.0)))

  -- a read of an own write
  pub read_own : (v : ℕ) → value_in ws p.cell ≡ Some v
      → reading (meaning_of e) card cell ≡ accepted v (served Reads p.card p.cell (live (marks_of l) ws) m)
  read_own v h = by_log read_at ∙ ap (read_open m p.card p.cell (marks_of l) ws) h

  -- a read of a standing value, by the marks with the cell among them
  pub read_standing : (ms : List ℕ) → value_in ws p.cell ≡ None → marking (marks_of l) p.cell ≡ Some ms
      → reading (meaning_of e) card cell
      ≡ accepted (standing m p.cell) (served Reads p.card p.cell (live ms ws) m)
  read_standing ms h k =
      by_log read_at
      ∙ (ap (read_open m p.card p.cell (marks_of l) ws) h ∙ ap (read_marking m p.card p.cell ws) k)

  -- a fifth mark
  pub read_full : value_in ws p.cell ≡ None → marking (marks_of l) p.cell ≡ None
      → reading (meaning_of e) card cell ≡ refused Full p.card p.cell (with_tx m p.card none)
  read_full h k =
      by_log read_at
      ∙ (ap (read_open m p.card p.cell (marks_of l) ws) h ∙ ap (read_marking m p.card p.cell ws) k)

  -- a write of a written cell
  pub write_again : (v : ℕ) → wrote ws p.cell ≡ true
      → writing (meaning_of e) card cell v
      ≡ accepted tt (served Writes p.card p.cell (live (marks_of l) (replaced ws p.cell v)) m)
  write_again v h =
      by_log (λ m c x t. write_at m c x v t)
      ∙ ap (write_open m p.card p.cell (marks_of l)) (cond-true _ _ _ h)

  -- the first write of a cell
  pub write_new : (v : ℕ) → wrote ws p.cell ≡ false → length ws < 4
      → writing (meaning_of e) card cell v
      ≡ accepted tt (served Writes p.card p.cell
      (live (marks_of l) (ws ++ record { cell = p.cell; value = v } ∷ [])) m)
  write_new v h k =
      by_log (λ m c x t. write_at m c x v t)
      ∙ ap (write_open m p.card p.cell (marks_of l)) (cond-false _ _ _ h ∙ cond-true _ _ _ (lt-ltb _ _ k))

  -- a fifth write
  pub write_full : (v : ℕ) → wrote ws p.cell ≡ false → 4 ≤ length ws
      → writing (meaning_of e) card cell v ≡ refused Full p.card p.cell (with_tx m p.card none)
  write_full v h k =
      by_log (λ m c x t. write_at m c x v t)
      ∙ ap (write_open m p.card p.cell (marks_of l)) (cond-false _ _ _ h ∙ cond-false _ _ _ (le-ltb _ _ k))

  -- a commit
  pub commit_open : cell ≡ 0
      → committing (meaning_of e) card
      ≡ accepted tt (record { cells = landed m.cells ws; txs = set m.txs p.card none })
  commit_open z =
      ap (λ x. guarded (meaning_of e) card x (commit_at (meaning_of e) card)) (sym z)
      ∙ by_log (λ m c x t. commit_at m c t)

-- a store by a card without a transaction
pub store_free : (m : Meaning) (p : Place) (card cell value : ℕ)
    → (in_range card cell ≡ true) × (p.card ≡ card) × (p.cell ≡ cell) × (tx_of m card ≡ none)
    → storing m card cell value
    ≡ accepted tt (with_cell (served Writes p.card p.cell none m) p.cell value)
store_free m p card cell value at =
    cond-true _ _ _ at.0
    ∙ (ap (store_at m card cell value) at.3
    ∙ (ap (λ x. store_at m x cell value none) (sym at.1) ∙ ap (λ x. store_at m p.card x value none) (sym at.2)))

-- a read by its parts, for the tactics
pub ruleset reads = (read_own, read_standing, read_full, written_value, unwritten_value, fitted_ok, fitted_err)
