-- The table of steps against what an open transaction holds: each row adds just its own cell, and stays in range.
use Rattle.std.proofs.Common.{◌≡◌, ℕ, zero, suc, ◌+◌, ◌*◌, ◌≤◌, true, false, List, [], ◌∷◌, ◌++◌, Some, None, Option}
use Rattle.std.proofs.Common.{sym, refl, subst, arith}
use Rattle.std.proofs.lemmas.Bool.Decides.{nat_tests}
use Rattle.memory.specs.declared.write.Write.{Write}
use Rattle.memory.specs.declared.call.MemoryCall.{MemoryCall}
use Rattle.memory.specs.declared.call.MemoryCall.TheVariants as call
use Rattle.memory.specs.Meaning.{Tx, none, live, doomed, value_in, marking, recording}
use Rattle.stages.specs.declared.stage.Mode.TheVariants as mode
use Rattle.stages.specs.declared.stage.WriterEntry.TheVariants.{W1, W2, W3, W4, W5, W6}
use Rattle.stages.specs.declared.stage.ReaderEntry.TheVariants.{R1, R2, R3, R4, R5, R6, R7}
use Rattle.stages.specs.declared.stage.ReaderEntry.TheVariants.{R8, R9, R10, R11, R12, R13, R14}
use Rattle.stages.specs.declared.stage.Addition.TheVariants.{A1, A2}
use Rattle.stages.specs.declared.stage.WriterExit.TheVariants.{X1, X2, X3, X4, X5}
use Rattle.stages.specs.declared.stage.ReaderExit.TheVariants.{Y1, Y2, Y3, Y4, Y5, Y6, Y7, Y8}
use Rattle.stages.specs.declared.stage.Stage.{Stage}
use Rattle.stages.specs.declared.stage.Stage.TheVariants.{Idle, WriterEnters, ReaderEnters, Inside, Adds}
use Rattle.stages.specs.declared.stage.Stage.TheVariants.{WriterLeaves, ReaderLeaves}
use Rattle.stages.specs.Rows.{call_of, begin_of, in_transaction}
use Rattle.lock.specs.Lock.{goes}
use Rattle.board.proofs.Held.{mk, cells, reads, writes, in_tx, Agrees}
use Rattle.board.proofs.Sound.{Sound}
use Rattle.board.proofs.Bridge.{Below, Recorded, Ranged}

-- inside a transaction with these reads and writes
abbrev pub Holds : Stage → List Write → List Write → Type 0
Holds s r w = (in_tx s ≡ true) × (reads s ≡ r) × (writes s ≡ w)

-- the call of a row of card c: what it finds of the card's transaction, and what the stage after it holds
abbrev pub Row : ℕ → Stage → MemoryCall → Type 0
Row c s call.Clear = ⊥
Row c s (call.Look a) = ⊥
Row c s (call.Load d a) = (d ≡ c) × (in_tx s ≡ false) × ((v : ℕ) → in_tx (goes s v).0 ≡ false)
Row c s (call.Store d a x) = (d ≡ c) × (in_tx s ≡ false) × ((v : ℕ) → in_tx (goes s v).0 ≡ false)
Row c s (call.Begin d) = (d ≡ c) × (in_tx s ≡ false) × ((v : ℕ) → Holds (goes s v).0 [] [])
Row c s (call.Read d a) =
    (d ≡ c) × (in_tx s ≡ true) × (value_in (writes s) a ≡ None)
    × (marking (cells (reads s)) a ≡ Some (cells (reads s) ++ a ∷ []))
    × ((v : ℕ) → Holds (goes s v).0 (reads s ++ mk a v ∷ []) (writes s))
Row c s (call.Write d a x) =
    (d ≡ c) × (in_tx s ≡ true) × (recording (writes s) a x ≡ Some (writes s ++ mk a x ∷ []))
    × ((v : ℕ) → Holds (goes s v).0 (reads s) (writes s ++ mk a x ∷ []))
Row c s (call.Commit d) = (d ≡ c) × (in_tx s ≡ true) × ((v : ℕ) → in_tx (goes s v).0 ≡ false)
Row c s (call.Drop d) = ⊥

-- the same of a stage's row, if it has one; a stage without a call is outside of a transaction
abbrev RowOf : ℕ → Stage → Option MemoryCall → Type 0
RowOf c s None = in_tx s ≡ false
RowOf c s (Some k) = Row c s k

-- the rows, one by one; a stage that is not sound has none
row_of : (N K c : ℕ) (s : Stage) → Sound N K s → RowOf c s (call_of N c s)
row_of N K c Idle h = refl
row_of N K c (WriterEnters n W1) h = (refl, refl, λ v. (refl, refl, refl))
row_of N K c (WriterEnters n W2) h = (refl, refl, refl, refl, λ v. (refl, refl, refl))
row_of N K c (WriterEnters n (W3 zero)) h = (refl, refl, refl, λ v. (refl, refl, refl))
row_of N K c (WriterEnters n (W3 (suc m))) h = (refl, refl, refl, λ v. (refl, refl, refl))
row_of N K c (WriterEnters n (W4 zero)) h = absurd h.1
row_of N K c (WriterEnters n (W4 (suc m))) h = (refl, refl, grind (arith, nat_tests), λ v. (refl, refl, refl))
row_of N K c (WriterEnters n (W5 zero)) h = (refl, refl, λ v. refl)
row_of N K c (WriterEnters n (W5 (suc m))) h = (refl, refl, λ v. refl)
row_of N K c (WriterEnters n W6) h = (refl, refl, elim [ zero ↦ refl | suc v ↦ refl ])
row_of N K c (ReaderEnters n R1) h = (refl, refl, λ v. (refl, refl, refl))
row_of N K c (ReaderEnters n R2) h = (refl, refl, refl, refl, λ v. (refl, refl, refl))
row_of N K c (ReaderEnters n (R3 zero)) h = (refl, refl, refl, λ v. (refl, refl, refl))
row_of N K c (ReaderEnters n (R3 (suc m))) h = (refl, refl, refl, λ v. (refl, refl, refl))
row_of N K c (ReaderEnters n (R4 p)) h = (refl, refl, grind (arith, nat_tests), λ v. (refl, refl, refl))
row_of N K c (ReaderEnters n (R5 zero)) h = absurd h.1
row_of N K c (ReaderEnters n (R5 (suc m))) h = (refl, refl, grind (arith, nat_tests), λ v. (refl, refl, refl))
row_of N K c (ReaderEnters n (R6 zero)) h = absurd h.1
row_of N K c (ReaderEnters n (R6 (suc m))) h =
    (refl, refl, grind (arith, nat_tests), grind (arith, nat_tests), λ v. (refl, refl, refl))
row_of N K c (ReaderEnters n (R7 zero s)) h = (refl, refl, λ v. refl)
row_of N K c (ReaderEnters n (R7 (suc m) s)) h = (refl, refl, λ v. grind (arith, nat_tests))
row_of N K c (ReaderEnters n R8) h = (refl, refl, elim [ zero ↦ refl | suc v ↦ refl ])
row_of N K c (ReaderEnters n R9) h = (refl, refl, λ v. (refl, refl, refl))
row_of N K c (ReaderEnters n R10) h = (refl, refl, refl, λ v. (refl, refl, refl))
row_of N K c (ReaderEnters n R11) h = (refl, refl, grind (arith, nat_tests), refl, λ v. (refl, refl, refl))
row_of N K c (ReaderEnters n (R12 zero)) h = (refl, refl, λ v. refl)
row_of N K c (ReaderEnters n (R12 (suc m))) h = (refl, refl, λ v. refl)
row_of N K c (ReaderEnters n (R13 zero)) h = absurd h.1
row_of N K c (ReaderEnters n (R13 (suc m))) h = (refl, refl, λ v. grind (arith, nat_tests))
row_of N K c (ReaderEnters n (R14 zero)) h = absurd h.1
row_of N K c (ReaderEnters n (R14 (suc m))) h = (refl, refl, λ v. refl)
row_of N K c (Inside n mode.Write) h = refl
row_of N K c (Inside n mode.Read) h = refl
row_of N K c (WriterLeaves n X1) h = (refl, refl, λ v. (refl, refl, refl))
row_of N K c (WriterLeaves n X2) h = (refl, refl, refl, refl, λ v. (refl, refl, refl))
row_of N K c (WriterLeaves n (X3 zero)) h = (refl, refl, refl, λ v. (refl, refl, refl))
row_of N K c (WriterLeaves n (X3 (suc m))) h = (refl, refl, refl, λ v. (refl, refl, refl))
row_of N K c (WriterLeaves n (X4 zero)) h = (refl, refl, λ v. refl)
row_of N K c (WriterLeaves n (X4 (suc m))) h = (refl, refl, λ v. refl)
row_of N K c (WriterLeaves n (X5 zero)) h = absurd h.1
row_of N K c (WriterLeaves n (X5 (suc m))) h = (refl, refl, λ v. refl)
row_of N K c (ReaderLeaves n Y1) h = (refl, refl, λ v. (refl, refl, refl))
row_of N K c (ReaderLeaves n Y2) h = (refl, refl, refl, refl, λ v. (refl, refl, refl))
row_of N K c (ReaderLeaves n (Y3 zero)) h = (refl, refl, refl, grind (arith, nat_tests), λ v. (refl, refl, refl))
row_of N K c (ReaderLeaves n (Y3 (suc m))) h = (refl, refl, refl, grind (arith, nat_tests), λ v. (refl, refl, refl))
row_of N K c (ReaderLeaves n (Y4 zero q)) h = absurd h.1
row_of N K c (ReaderLeaves n (Y4 (suc m) q)) h = (refl, refl, refl, λ v. (refl, refl, refl))
row_of N K c (ReaderLeaves n (Y5 zero zero)) h = (refl, refl, refl, λ v. (refl, refl, refl))
row_of N K c (ReaderLeaves n (Y5 (suc m) zero)) h = (refl, refl, grind (arith, nat_tests), λ v. (refl, refl, refl))
row_of N K c (ReaderLeaves n (Y5 zero (suc k))) h = (refl, refl, refl, λ v. (refl, refl, refl))
row_of N K c (ReaderLeaves n (Y5 (suc m) (suc k))) h = (refl, refl, grind (arith, nat_tests), λ v. (refl, refl, refl))
row_of N K c (ReaderLeaves n (Y6 zero zero)) h = absurd h.2
row_of N K c (ReaderLeaves n (Y6 zero (suc k))) h =
    (refl, refl, grind (arith, nat_tests), grind (arith, nat_tests), λ v. (refl, refl, refl))
row_of N K c (ReaderLeaves n (Y6 (suc m) q)) h = let e = h.1 in absurd (omega arith)
row_of N K c (ReaderLeaves n (Y7 p zero s)) h = (refl, refl, λ v. refl)
row_of N K c (ReaderLeaves n (Y7 zero (suc k) s)) h = (refl, refl, λ v. grind (arith, nat_tests))
row_of N K c (ReaderLeaves n (Y7 (suc m) (suc k) s)) h = (refl, refl, λ v. refl)
row_of N K c (ReaderLeaves n (Y8 zero)) h = absurd h.1
row_of N K c (ReaderLeaves n (Y8 (suc m))) h = (refl, refl, λ v. refl)
row_of N K c (Adds n (A1 k x)) h = (refl, refl, λ v. refl)
row_of N K c (Adds n (A2 k x u)) h = (refl, refl, λ v. refl)

-- each row of the table
pub row : (N K c : ℕ) (s : Stage) → Sound N K s → (k : MemoryCall) → call_of N c s ≡ Some k → Row c s k
row N K c s h k e = subst (RowOf c s) e (row_of N K c s h)

-- a stage without a call is outside of a transaction
pub silent : (N K c : ℕ) (s : Stage) → Sound N K s → call_of N c s ≡ None → in_tx s ≡ false
silent N K c s h e = subst (RowOf c s) e (row_of N K c s h)

-- a row's call goes by a transaction just where its stage is inside of one
pub row_inside : (c : ℕ) (s : Stage) (k : MemoryCall) → Row c s k → in_transaction k ≡ in_tx s
row_inside c s call.Clear r = absurd r
row_inside c s (call.Look a) r = absurd r
row_inside c s (call.Load d a) r = sym r.1
row_inside c s (call.Store d a x) r = sym r.1
row_inside c s (call.Begin d) r = sym r.1
row_inside c s (call.Read d a) r = sym r.1
row_inside c s (call.Write d a x) r = sym r.1
row_inside c s (call.Commit d) r = sym r.1
row_inside c s (call.Drop d) r = absurd r

-- the begin of a transaction is outside of it
pub begin_outside : (s : Stage) → in_tx (begin_of s) ≡ false
begin_outside Idle = refl
begin_outside (WriterEnters n W1) = refl
begin_outside (WriterEnters n W2) = refl
begin_outside (WriterEnters n (W3 p)) = refl
begin_outside (WriterEnters n (W4 p)) = refl
begin_outside (WriterEnters n (W5 p)) = refl
begin_outside (WriterEnters n W6) = refl
begin_outside (ReaderEnters n R1) = refl
begin_outside (ReaderEnters n R2) = refl
begin_outside (ReaderEnters n (R3 p)) = refl
begin_outside (ReaderEnters n (R4 p)) = refl
begin_outside (ReaderEnters n (R5 p)) = refl
begin_outside (ReaderEnters n (R6 p)) = refl
begin_outside (ReaderEnters n (R7 p s)) = refl
begin_outside (ReaderEnters n R8) = refl
begin_outside (ReaderEnters n R9) = refl
begin_outside (ReaderEnters n R10) = refl
begin_outside (ReaderEnters n R11) = refl
begin_outside (ReaderEnters n (R12 q)) = refl
begin_outside (ReaderEnters n (R13 q)) = refl
begin_outside (ReaderEnters n (R14 q)) = refl
begin_outside (Inside n mode.Write) = refl
begin_outside (Inside n mode.Read) = refl
begin_outside (WriterLeaves n X1) = refl
begin_outside (WriterLeaves n X2) = refl
begin_outside (WriterLeaves n (X3 q)) = refl
begin_outside (WriterLeaves n (X4 q)) = refl
begin_outside (WriterLeaves n (X5 q)) = refl
begin_outside (ReaderLeaves n Y1) = refl
begin_outside (ReaderLeaves n Y2) = refl
begin_outside (ReaderLeaves n (Y3 p)) = refl
begin_outside (ReaderLeaves n (Y4 p q)) = refl
begin_outside (ReaderLeaves n (Y5 p q)) = refl
begin_outside (ReaderLeaves n (Y6 p q)) = refl
begin_outside (ReaderLeaves n (Y7 p q s)) = refl
begin_outside (ReaderLeaves n (Y8 q)) = refl
begin_outside (Adds n (A1 k x)) = refl
begin_outside (Adds n (A2 k x v)) = refl

-- the cells that a stage's transaction writes are the tail and cells of nodes
pub writes_below : (N K : ℕ) (s : Stage) → Sound N K s → Below (1 + 4 * N) (writes s)
writes_below N K Idle h = tt
writes_below N K (WriterEnters n W1) h = tt
writes_below N K (WriterEnters n W2) h = tt
writes_below N K (WriterEnters n (W3 p)) h = tt
writes_below N K (WriterEnters n (W4 p)) h = (omega arith, tt)
writes_below N K (WriterEnters n (W5 zero)) h = (omega arith, tt)
writes_below N K (WriterEnters n (W5 (suc m))) h = let m-in = h.1 in (omega arith, (omega arith, tt))
writes_below N K (WriterEnters n W6) h = tt
writes_below N K (ReaderEnters n R1) h = tt
writes_below N K (ReaderEnters n R2) h = tt
writes_below N K (ReaderEnters n (R3 p)) h = tt
writes_below N K (ReaderEnters n (R4 p)) h = (omega arith, tt)
writes_below N K (ReaderEnters n (R5 p)) h = let n-in = h.0 in (omega arith, (omega arith, tt))
writes_below N K (ReaderEnters n (R6 zero)) h = tt
writes_below N K (ReaderEnters n (R6 (suc m))) h =
    let n-in = h.0 in let m-in = h.1 in (omega arith, (omega arith, (omega arith, tt)))
writes_below N K (ReaderEnters n (R7 zero s)) h = (omega arith, tt)
writes_below N K (ReaderEnters n (R7 (suc m) s)) h =
    let n-in = h.0 in let m-in = h.1 in (omega arith, (omega arith, (omega arith, tt)))
writes_below N K (ReaderEnters n R8) h = tt
writes_below N K (ReaderEnters n R9) h = tt
writes_below N K (ReaderEnters n R10) h = tt
writes_below N K (ReaderEnters n R11) h = (omega arith, tt)
writes_below N K (ReaderEnters n (R12 q)) h = let n-in = h.0 in (omega arith, tt)
writes_below N K (ReaderEnters n (R13 q)) h = tt
writes_below N K (ReaderEnters n (R14 q)) h = tt
writes_below N K (Inside n mode.Write) h = tt
writes_below N K (Inside n mode.Read) h = tt
writes_below N K (WriterLeaves n X1) h = tt
writes_below N K (WriterLeaves n X2) h = tt
writes_below N K (WriterLeaves n (X3 q)) h = tt
writes_below N K (WriterLeaves n (X4 zero)) h = (omega arith, tt)
writes_below N K (WriterLeaves n (X4 (suc m))) h = let m-in = h.1 in (omega arith, tt)
writes_below N K (WriterLeaves n (X5 q)) h = tt
writes_below N K (ReaderLeaves n Y1) h = tt
writes_below N K (ReaderLeaves n Y2) h = tt
writes_below N K (ReaderLeaves n (Y3 p)) h = tt
writes_below N K (ReaderLeaves n (Y4 p q)) h = tt
writes_below N K (ReaderLeaves n (Y5 zero q)) h = tt
writes_below N K (ReaderLeaves n (Y5 (suc m) q)) h = let m-in = h.1 in (omega arith, tt)
writes_below N K (ReaderLeaves n (Y6 p zero)) h = tt
writes_below N K (ReaderLeaves n (Y6 p (suc k))) h = let k-in = h.2 in (omega arith, tt)
writes_below N K (ReaderLeaves n (Y7 zero zero s)) h = (omega arith, tt)
writes_below N K (ReaderLeaves n (Y7 zero (suc k) s)) h = let k-in = h.2 in (omega arith, tt)
writes_below N K (ReaderLeaves n (Y7 (suc m) zero s)) h = let m-in = h.1 in (omega arith, (omega arith, tt))
writes_below N K (ReaderLeaves n (Y7 (suc m) (suc k) s)) h =
    let m-in = h.1 in let k-in = h.2 in (omega arith, (omega arith, tt))
writes_below N K (ReaderLeaves n (Y8 q)) h = tt
writes_below N K (Adds n (A1 k x)) h = tt
writes_below N K (Adds n (A2 k x v)) h = tt

-- what lies below a lies below more
below_more : (a b : ℕ) → a ≤ b → (ws : List Write) → Below a ws → Below b ws
below_more a b l [] h = tt
below_more a b l (w ∷ ws) h = let i = h.0 in (omega arith, below_more a b l ws h.1)

-- a transaction that agrees with its stage writes only cells that there are
pub recorded : (N K : ℕ) (f : ℕ → ℕ) (s : Stage) (x : Tx) → N ≤ 32 → Sound N K s → Agrees f s x → Recorded x
recorded N K f s none l h k = tt
recorded N K f s doomed l h k = tt
recorded N K f s (live r w) l h k =
    rw k.2 (below_more (1 + 4 * N) 137 (omega arith) (writes s) (writes_below N K s h))

-- a stage's call, if it has one, is one of card c on a cell that there is
abbrev RangedOf : ℕ → Option MemoryCall → Type 0
RangedOf c None = Unit {0}
RangedOf c (Some k) = Ranged c k

-- by the call, if there is one
ranged_of : (N K c : ℕ) (s : Stage) → N ≤ 32 → K ≤ 8 → Sound N K s → RangedOf c (call_of N c s)
ranged_of N K c Idle a b h = tt
ranged_of N K c (WriterEnters n W1) a b h = refl
ranged_of N K c (WriterEnters n W2) a b h = (refl, omega arith)
ranged_of N K c (WriterEnters n (W3 p)) a b h = (refl, omega arith)
ranged_of N K c (WriterEnters n (W4 zero)) a b h = absurd h.1
ranged_of N K c (WriterEnters n (W4 (suc m))) a b h = let i = h.1 in (refl, omega arith)
ranged_of N K c (WriterEnters n (W5 p)) a b h = refl
ranged_of N K c (WriterEnters n W6) a b h = (refl, omega arith)
ranged_of N K c (ReaderEnters n R1) a b h = refl
ranged_of N K c (ReaderEnters n R2) a b h = (refl, omega arith)
ranged_of N K c (ReaderEnters n (R3 p)) a b h = (refl, omega arith)
ranged_of N K c (ReaderEnters n (R4 p)) a b h = let i = h.0 in (refl, omega arith)
ranged_of N K c (ReaderEnters n (R5 zero)) a b h = absurd h.1
ranged_of N K c (ReaderEnters n (R5 (suc m))) a b h = let i = h.1 in (refl, omega arith)
ranged_of N K c (ReaderEnters n (R6 zero)) a b h = absurd h.1
ranged_of N K c (ReaderEnters n (R6 (suc m))) a b h = let i = h.1 in (refl, omega arith)
ranged_of N K c (ReaderEnters n (R7 p s)) a b h = refl
ranged_of N K c (ReaderEnters n R8) a b h = (refl, omega arith)
ranged_of N K c (ReaderEnters n R9) a b h = refl
ranged_of N K c (ReaderEnters n R10) a b h = (refl, omega arith)
ranged_of N K c (ReaderEnters n R11) a b h = (refl, omega arith)
ranged_of N K c (ReaderEnters n (R12 q)) a b h = refl
ranged_of N K c (ReaderEnters n (R13 zero)) a b h = absurd h.1
ranged_of N K c (ReaderEnters n (R13 (suc m))) a b h = let i = h.1 in (refl, omega arith)
ranged_of N K c (ReaderEnters n (R14 zero)) a b h = absurd h.1
ranged_of N K c (ReaderEnters n (R14 (suc m))) a b h = let i = h.1 in (refl, omega arith)
ranged_of N K c (Inside n mode.Write) a b h = tt
ranged_of N K c (Inside n mode.Read) a b h = tt
ranged_of N K c (WriterLeaves n X1) a b h = refl
ranged_of N K c (WriterLeaves n X2) a b h = (refl, omega arith)
ranged_of N K c (WriterLeaves n (X3 zero)) a b h = (refl, omega arith)
ranged_of N K c (WriterLeaves n (X3 (suc m))) a b h = let i = h.1 in (refl, omega arith)
ranged_of N K c (WriterLeaves n (X4 q)) a b h = refl
ranged_of N K c (WriterLeaves n (X5 zero)) a b h = absurd h.1
ranged_of N K c (WriterLeaves n (X5 (suc m))) a b h = let i = h.1 in (refl, omega arith)
ranged_of N K c (ReaderLeaves n Y1) a b h = refl
ranged_of N K c (ReaderLeaves n Y2) a b h = (refl, omega arith)
ranged_of N K c (ReaderLeaves n (Y3 p)) a b h = let i = h.0 in (refl, omega arith)
ranged_of N K c (ReaderLeaves n (Y4 zero q)) a b h = absurd h.1
ranged_of N K c (ReaderLeaves n (Y4 (suc m) q)) a b h = let i = h.1 in (refl, omega arith)
ranged_of N K c (ReaderLeaves n (Y5 p zero)) a b h = (refl, omega arith)
ranged_of N K c (ReaderLeaves n (Y5 p (suc k))) a b h = let i = h.2 in (refl, omega arith)
ranged_of N K c (ReaderLeaves n (Y6 p zero)) a b h = absurd h.2
ranged_of N K c (ReaderLeaves n (Y6 p (suc k))) a b h = let i = h.2 in (refl, omega arith)
ranged_of N K c (ReaderLeaves n (Y7 p q s)) a b h = refl
ranged_of N K c (ReaderLeaves n (Y8 zero)) a b h = absurd h.1
ranged_of N K c (ReaderLeaves n (Y8 (suc m))) a b h = let i = h.1 in (refl, omega arith)
ranged_of N K c (Adds n (A1 k x)) a b h = let i = h.1 in (refl, omega arith)
ranged_of N K c (Adds n (A2 k x v)) a b h = let i = h.1 in (refl, omega arith)

-- the call of every stage is one of its card, on a cell that there is
pub ranged : (N K c : ℕ) (s : Stage) → N ≤ 32 → K ≤ 8 → Sound N K s
    → (k : MemoryCall) → call_of N c s ≡ Some k → Ranged c k
ranged N K c s a b h k e = subst (RangedOf c) e (ranged_of N K c s a b h)

-- a stage has one call
pub one_call : (x y : MemoryCall) (o : Option MemoryCall) → o ≡ Some x → o ≡ Some y → x ≡ y
one_call x y o p q = cc
