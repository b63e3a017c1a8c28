-- What an open transaction holds at each stage: the cells it has read with the values read, and its writes, each in the
-- order in which they came.
use Rattle.std.proofs.Common.{◌≡◌, ℕ, zero, suc, Bool, true, false, cond, List, [], ◌∷◌}
use Rattle.memory.specs.declared.write.Write.{Write}
use Rattle.memory.specs.Meaning.{Tx, none, live, doomed, wrote, marked}
use Rattle.stages.specs.declared.stage.Mode.TheVariants as mode
use Rattle.stages.specs.declared.stage.WriterEntry.TheVariants.{W1, W2, W3, W4, W5, W6}
use Rattle.stages.specs.declared.stage.ReaderEntry.TheVariants.{R1, R2, R3, R4, R5, R6, R7, R8, R9, R10, R11, R12}
use Rattle.stages.specs.declared.stage.ReaderEntry.TheVariants.{R13, R14}
use Rattle.stages.specs.declared.stage.Addition.TheVariants.{A1, A2}
use Rattle.stages.specs.declared.stage.WriterExit.TheVariants.{X1, X2, X3, X4, X5}
use Rattle.stages.specs.declared.stage.ReaderExit.TheVariants.{Y1, Y2, Y3, Y4, Y5, Y6, Y7, Y8}
use Rattle.stages.specs.declared.stage.Stage.{Stage}
use Rattle.stages.specs.declared.stage.Stage.TheVariants.{Idle, WriterEnters, ReaderEnters, Inside, Adds}
use Rattle.stages.specs.declared.stage.Stage.TheVariants.{WriterLeaves, ReaderLeaves}
use Rattle.board.proofs.Cells.{next, prev, state}

-- a cell with a value
abbrev pub mk : ℕ → ℕ → Write
mk a v = record { cell = a; value = v }

-- the cells of a list of them
abbrev pub cells : List Write → List ℕ
cells [] = []
cells (e ∷ l) = e.cell ∷ cells l

-- the cells read, with what was read
abbrev pub reads : Stage → List Write
reads Idle = []
reads (WriterEnters n W1) = []
reads (WriterEnters n W2) = []
reads (WriterEnters n (W3 p)) = mk 0 p ∷ []
reads (WriterEnters n (W4 p)) = mk 0 p ∷ []
reads (WriterEnters n (W5 p)) = mk 0 p ∷ []
reads (WriterEnters n W6) = []
reads (ReaderEnters n R1) = []
reads (ReaderEnters n R2) = []
reads (ReaderEnters n (R3 p)) = mk 0 p ∷ []
reads (ReaderEnters n (R4 p)) = mk 0 p ∷ []
reads (ReaderEnters n (R5 p)) = mk 0 p ∷ []
reads (ReaderEnters n (R6 p)) = mk 0 p ∷ []
reads (ReaderEnters n (R7 zero s)) = mk 0 0 ∷ []
reads (ReaderEnters n (R7 (suc m) s)) = mk 0 (suc m) ∷ mk (state m) s ∷ []
reads (ReaderEnters n R8) = []
reads (ReaderEnters n R9) = []
reads (ReaderEnters n R10) = []
reads (ReaderEnters n R11) = []
reads (ReaderEnters n (R12 q)) = mk (next n) q ∷ []
reads (ReaderEnters n (R13 q)) = []
reads (ReaderEnters n (R14 q)) = []
reads (Inside n mode.Write) = []
reads (Inside n mode.Read) = []
reads (WriterLeaves n X1) = []
reads (WriterLeaves n X2) = []
reads (WriterLeaves n (X3 q)) = mk (next n) q ∷ []
reads (WriterLeaves n (X4 q)) = mk (next n) q ∷ []
reads (WriterLeaves n (X5 q)) = []
reads (ReaderLeaves n Y1) = []
reads (ReaderLeaves n Y2) = []
reads (ReaderLeaves n (Y3 p)) = mk (prev n) p ∷ []
reads (ReaderLeaves n (Y4 p q)) = mk (prev n) p ∷ mk (next n) q ∷ []
reads (ReaderLeaves n (Y5 p q)) = mk (prev n) p ∷ mk (next n) q ∷ []
reads (ReaderLeaves n (Y6 p q)) = mk (prev n) p ∷ mk (next n) q ∷ []
reads (ReaderLeaves n (Y7 p zero s)) = mk (prev n) p ∷ mk (next n) 0 ∷ []
reads (ReaderLeaves n (Y7 zero (suc k) s)) = mk (prev n) 0 ∷ mk (next n) (suc k) ∷ mk (state k) s ∷ []
reads (ReaderLeaves n (Y7 (suc m) (suc k) s)) = mk (prev n) (suc m) ∷ mk (next n) (suc k) ∷ []
reads (ReaderLeaves n (Y8 q)) = []
reads (Adds n (A1 k x)) = []
reads (Adds n (A2 k x v)) = []

-- the writes
abbrev pub writes : Stage → List Write
writes Idle = []
writes (WriterEnters n W1) = []
writes (WriterEnters n W2) = []
writes (WriterEnters n (W3 p)) = []
writes (WriterEnters n (W4 p)) = mk 0 (suc n) ∷ []
writes (WriterEnters n (W5 zero)) = mk 0 (suc n) ∷ []
writes (WriterEnters n (W5 (suc m))) = mk 0 (suc n) ∷ mk (next m) (suc n) ∷ []
writes (WriterEnters n W6) = []
writes (ReaderEnters n R1) = []
writes (ReaderEnters n R2) = []
writes (ReaderEnters n (R3 p)) = []
writes (ReaderEnters n (R4 p)) = mk 0 (suc n) ∷ []
writes (ReaderEnters n (R5 p)) = mk 0 (suc n) ∷ mk (prev n) p ∷ []
writes (ReaderEnters n (R6 zero)) = []
writes (ReaderEnters n (R6 (suc m))) = mk 0 (suc n) ∷ mk (prev n) (suc m) ∷ mk (next m) (suc n) ∷ []
writes (ReaderEnters n (R7 zero s)) = mk 0 (suc n) ∷ []
writes (ReaderEnters n (R7 (suc m) s)) = mk 0 (suc n) ∷ mk (prev n) (suc m) ∷ mk (next m) (suc n) ∷ []
writes (ReaderEnters n R8) = []
writes (ReaderEnters n R9) = []
writes (ReaderEnters n R10) = []
writes (ReaderEnters n R11) = mk (state n) 3 ∷ []
writes (ReaderEnters n (R12 q)) = mk (state n) 3 ∷ []
writes (ReaderEnters n (R13 q)) = []
writes (ReaderEnters n (R14 q)) = []
writes (Inside n mode.Write) = []
writes (Inside n mode.Read) = []
writes (WriterLeaves n X1) = []
writes (WriterLeaves n X2) = []
writes (WriterLeaves n (X3 q)) = []
writes (WriterLeaves n (X4 zero)) = mk 0 0 ∷ []
writes (WriterLeaves n (X4 (suc m))) = mk (prev m) 0 ∷ []
writes (WriterLeaves n (X5 q)) = []
writes (ReaderLeaves n Y1) = []
writes (ReaderLeaves n Y2) = []
writes (ReaderLeaves n (Y3 p)) = []
writes (ReaderLeaves n (Y4 p q)) = []
writes (ReaderLeaves n (Y5 zero q)) = []
writes (ReaderLeaves n (Y5 (suc m) q)) = mk (next m) q ∷ []
writes (ReaderLeaves n (Y6 p zero)) = []
writes (ReaderLeaves n (Y6 p (suc k))) = mk (prev k) p ∷ []
writes (ReaderLeaves n (Y7 zero zero s)) = mk 0 0 ∷ []
writes (ReaderLeaves n (Y7 zero (suc k) s)) = mk (prev k) 0 ∷ []
writes (ReaderLeaves n (Y7 (suc m) zero s)) = mk (next m) 0 ∷ mk 0 (suc m) ∷ []
writes (ReaderLeaves n (Y7 (suc m) (suc k) s)) = mk (next m) (suc k) ∷ mk (prev k) (suc m) ∷ []
writes (ReaderLeaves n (Y8 q)) = []
writes (Adds n (A1 k x)) = []
writes (Adds n (A2 k x v)) = []

-- whether the stage is inside a transaction
abbrev pub in_tx : Stage → Bool
in_tx Idle = false
in_tx (WriterEnters n W1) = false
in_tx (WriterEnters n W2) = true
in_tx (WriterEnters n (W3 p)) = true
in_tx (WriterEnters n (W4 p)) = true
in_tx (WriterEnters n (W5 p)) = true
in_tx (WriterEnters n W6) = false
in_tx (ReaderEnters n R1) = false
in_tx (ReaderEnters n R2) = true
in_tx (ReaderEnters n (R3 p)) = true
in_tx (ReaderEnters n (R4 p)) = true
in_tx (ReaderEnters n (R5 p)) = true
in_tx (ReaderEnters n (R6 p)) = true
in_tx (ReaderEnters n (R7 p s)) = true
in_tx (ReaderEnters n R8) = false
in_tx (ReaderEnters n R9) = false
in_tx (ReaderEnters n R10) = true
in_tx (ReaderEnters n R11) = true
in_tx (ReaderEnters n (R12 q)) = true
in_tx (ReaderEnters n (R13 q)) = false
in_tx (ReaderEnters n (R14 q)) = false
in_tx (Inside n mode.Write) = false
in_tx (Inside n mode.Read) = false
in_tx (WriterLeaves n X1) = false
in_tx (WriterLeaves n X2) = true
in_tx (WriterLeaves n (X3 q)) = true
in_tx (WriterLeaves n (X4 q)) = true
in_tx (WriterLeaves n (X5 q)) = false
in_tx (ReaderLeaves n Y1) = false
in_tx (ReaderLeaves n Y2) = true
in_tx (ReaderLeaves n (Y3 p)) = true
in_tx (ReaderLeaves n (Y4 p q)) = true
in_tx (ReaderLeaves n (Y5 p q)) = true
in_tx (ReaderLeaves n (Y6 p q)) = true
in_tx (ReaderLeaves n (Y7 p q s)) = true
in_tx (ReaderLeaves n (Y8 q)) = false
in_tx (Adds n (A1 k x)) = false
in_tx (Adds n (A2 k x v)) = false

-- every value read still stands
abbrev pub Valid : (ℕ → ℕ) → List Write → Type 0
Valid f [] = Unit {0}
Valid f (e ∷ l) = (f e.cell ≡ e.value) × Valid f l

-- a card's transaction is what its stage says: none outside of one; inside, doomed or open with the stage's marks and
-- writes, each marked cell still standing at the value read
abbrev pub Agrees : (ℕ → ℕ) → Stage → Tx → Type 0
Agrees f s none = in_tx s ≡ false
Agrees f s doomed = in_tx s ≡ true
Agrees f s (live r w) = (in_tx s ≡ true) × (r ≡ cells (reads s)) × (w ≡ writes s) × Valid f (reads s)

-- whether a transaction has written a cell, or has touched it at all
abbrev pub has_written : ℕ → Tx → Bool
has_written a none = false
has_written a (live r w) = wrote w a
has_written a doomed = false

-- whether it has marked or written a cell
abbrev pub has_touched : ℕ → Tx → Bool
has_touched a none = false
has_touched a (live r w) = cond (wrote w a) true (marked r a)
has_touched a doomed = false

-- what one open transaction has written, no other has marked or written
abbrev pub Apart : (ℕ → Tx) → Type 0
Apart t = (c d a : ℕ) → (c ≡ d → ⊥) → has_written a (t c) ≡ true → has_touched a (t d) ≡ false

pub record Isolated (f : ℕ → ℕ) (t : ℕ → Tx) (S : ℕ → Stage) : Type 0 where
  pub agrees : (c : ℕ) → Agrees f (S c) (t c)
  pub apart : Apart t
