-- No lost wake: where a turn has come, some card is about to store 0 into the spin, and only its own steps move it.
use Rattle.std.proofs.Common.{◌≡◌, ℕ, zero, suc, ◌<◌, Bool, true, false, ◌⊎◌, List, [], ◌∷◌, ◌++◌, length, Some, None}
use Rattle.std.proofs.Common.{Ok, Option, Result, sym, refl, ap, ◌∙◌, subst, inl, inr, ⊎_elim, arith}
use Rattle.std.proofs.lemmas.Bool.{cases_eq, cases_lt, eqb-true, eq-eqb}
use Rattle.memory.specs.declared.fault.MemoryFault.{MemoryFault}
use Rattle.memory.specs.declared.call.MemoryCall.{MemoryCall}
use Rattle.memory.specs.declared.call.MemoryCall.TheVariants as memory-call
use Rattle.memory.specs.Meaning.{Tx, none, standing, tx_of}
use Rattle.memory.specs.Calls.{performed}
use Rattle.stages.specs.declared.stage.Mode.{Mode}
use Rattle.stages.specs.declared.stage.Mode.TheVariants.{Read, Write}
use Rattle.stages.specs.declared.stage.WriterEntry.TheVariants.{W1, W2, W3, W4, W5, W6}
use Rattle.stages.specs.declared.stage.ReaderEntry.TheVariants.{R1, R2, R3, R4, R5, R6, R7, R8, R9, R10, R11, R12}
use Rattle.stages.specs.declared.stage.ReaderEntry.TheVariants.{R13, R14}
use Rattle.stages.specs.declared.stage.Addition.TheVariants.{A1, A2}
use Rattle.stages.specs.declared.stage.WriterExit.TheVariants.{X1, X2, X3, X4, X5}
use Rattle.stages.specs.declared.stage.ReaderExit.TheVariants.{Y1, Y2, Y3, Y4, Y5, Y6, Y7, Y8}
use Rattle.stages.specs.declared.stage.Stage.{Stage}
use Rattle.stages.specs.declared.stage.Stage.TheVariants.{Idle, WriterEnters, ReaderEnters, Inside, Adds}
use Rattle.stages.specs.declared.stage.Stage.TheVariants.{WriterLeaves, ReaderLeaves}
use Rattle.stages.specs.Rows.{call_of, in_transaction}
use Rattle.lock.specs.Lock.{Size, LockState, stage_of, advanced}
use Rattle.door.specs.declared.request.Request.{Request}
use Rattle.door.specs.declared.request.Request.TheVariants.{Enter, Leave, Add, Show}
use Rattle.door.specs.declared.call.Call.{Call}
use Rattle.door.specs.declared.call.Call.TheVariants as call
use Rattle.door.specs.Door.{called, served}
use Rattle.board.specs.Book.{Book, Place, after, fed_from}
use Rattle.board.specs.Promise as promise
use Rattle.board.specs.Promise.{cells_of, stage, NoStep, WakesNext, Wakes, Waits, WakesStand}
use Rattle.board.proofs.Ranges.{Within}
use Rattle.board.proofs.Cells.{at_same, clash, state, spin}
use Rattle.board.proofs.Views.{link_node, View, view, node, link, joined, reader, active, target, hand, granted, Cells}
use Rattle.board.proofs.Chain.{Chain, Baton, chain_behind}
use Rattle.board.proofs.Held.{in_tx}
use Rattle.board.proofs.Model.{seen, seen_on}
use Rattle.board.proofs.Inv.{cards_of, reads_mode, Seated, Inv}
use Rattle.board.proofs.Bridge.{Same, bridge}
use Rattle.board.proofs.Rows.{recorded, ranged}
use Rattle.board.proofs.Isolation.{outside}
use Rattle.board.proofs.Join.{active_state}
use Rattle.board.proofs.Moves.{aimed}
use Rattle.board.proofs.Turns.{moved_same, moved_other, same_stage, Taken, Served, served_moves, request_cases}
use Rattle.board.proofs.Turns.{step_cases, step_is, abort_cases, reuse_cards}
use Rattle.board.proofs.Stands.{place, chain_from, seat_in, in_place}

-- Tables: who is about to wake the node m.

-- a card that has left the line
hands_is : (s : Stage) (m : ℕ) → hand (view s) ≡ suc m
    → ((n : ℕ) × (s ≡ WriterLeaves n (X5 (suc m)))) ⊎ ((n : ℕ) × (s ≡ ReaderLeaves n (Y8 (suc m))))
hands_is Idle m h = absurd (omega arith)
hands_is (WriterEnters n W1) m h = absurd (omega arith)
hands_is (WriterEnters n W2) m h = absurd (omega arith)
hands_is (WriterEnters n (W3 p)) m h = absurd (omega arith)
hands_is (WriterEnters n (W4 p)) m h = absurd (omega arith)
hands_is (WriterEnters n (W5 p)) m h = absurd (omega arith)
hands_is (WriterEnters n W6) m h = absurd (omega arith)
hands_is (ReaderEnters n R1) m h = absurd (omega arith)
hands_is (ReaderEnters n R2) m h = absurd (omega arith)
hands_is (ReaderEnters n (R3 p)) m h = absurd (omega arith)
hands_is (ReaderEnters n (R4 p)) m h = absurd (omega arith)
hands_is (ReaderEnters n (R5 p)) m h = absurd (omega arith)
hands_is (ReaderEnters n (R6 p)) m h = absurd (omega arith)
hands_is (ReaderEnters n (R7 p s)) m h = absurd (omega arith)
hands_is (ReaderEnters n R8) m h = absurd (omega arith)
hands_is (ReaderEnters n R9) m h = absurd (omega arith)
hands_is (ReaderEnters n R10) m h = absurd (omega arith)
hands_is (ReaderEnters n R11) m h = absurd (omega arith)
hands_is (ReaderEnters n (R12 t)) m h = absurd (omega arith)
hands_is (ReaderEnters n (R13 t)) m h = absurd (omega arith)
hands_is (ReaderEnters n (R14 t)) m h = absurd (omega arith)
hands_is (Inside n Write) m h = absurd (omega arith)
hands_is (Inside n Read) m h = absurd (omega arith)
hands_is (Adds n (A1 k a)) m h = absurd (omega arith)
hands_is (Adds n (A2 k a v)) m h = absurd (omega arith)
hands_is (WriterLeaves n X1) m h = absurd (omega arith)
hands_is (WriterLeaves n X2) m h = absurd (omega arith)
hands_is (WriterLeaves n (X3 t)) m h = absurd (omega arith)
hands_is (WriterLeaves n (X4 t)) m h = absurd (omega arith)
hands_is (WriterLeaves n (X5 t)) m h = inl (n, ap (λ (q : ℕ). WriterLeaves n (X5 q)) h)
hands_is (ReaderLeaves n Y1) m h = absurd (omega arith)
hands_is (ReaderLeaves n Y2) m h = absurd (omega arith)
hands_is (ReaderLeaves n (Y3 p)) m h = absurd (omega arith)
hands_is (ReaderLeaves n (Y4 p t)) m h = absurd (omega arith)
hands_is (ReaderLeaves n (Y5 p t)) m h = absurd (omega arith)
hands_is (ReaderLeaves n (Y6 p t)) m h = absurd (omega arith)
hands_is (ReaderLeaves n (Y7 p t s)) m h = absurd (omega arith)
hands_is (ReaderLeaves n (Y8 t)) m h = inr (n, ap (λ (q : ℕ). ReaderLeaves n (Y8 q)) h)

-- an active reader right ahead
target_is : (s : Stage) (m : ℕ) → target (view s) ≡ suc m
    → ((n : ℕ) × (s ≡ ReaderEnters n (R13 (suc m)))) ⊎ ((n : ℕ) × (s ≡ ReaderEnters n (R14 (suc m))))
target_is Idle m h = absurd (omega arith)
target_is (WriterEnters n W1) m h = absurd (omega arith)
target_is (WriterEnters n W2) m h = absurd (omega arith)
target_is (WriterEnters n (W3 p)) m h = absurd (omega arith)
target_is (WriterEnters n (W4 p)) m h = absurd (omega arith)
target_is (WriterEnters n (W5 p)) m h = absurd (omega arith)
target_is (WriterEnters n W6) m h = absurd (omega arith)
target_is (ReaderEnters n R1) m h = absurd (omega arith)
target_is (ReaderEnters n R2) m h = absurd (omega arith)
target_is (ReaderEnters n (R3 p)) m h = absurd (omega arith)
target_is (ReaderEnters n (R4 p)) m h = absurd (omega arith)
target_is (ReaderEnters n (R5 p)) m h = absurd (omega arith)
target_is (ReaderEnters n (R6 p)) m h = absurd (omega arith)
target_is (ReaderEnters n (R7 p s)) m h = absurd (omega arith)
target_is (ReaderEnters n R8) m h = absurd (omega arith)
target_is (ReaderEnters n R9) m h = absurd (omega arith)
target_is (ReaderEnters n R10) m h = absurd (omega arith)
target_is (ReaderEnters n R11) m h = absurd (omega arith)
target_is (ReaderEnters n (R12 t)) m h = absurd (omega arith)
target_is (ReaderEnters n (R13 t)) m h = inl (n, ap (λ (q : ℕ). ReaderEnters n (R13 q)) h)
target_is (ReaderEnters n (R14 t)) m h = inr (n, ap (λ (q : ℕ). ReaderEnters n (R14 q)) h)
target_is (Inside n Write) m h = absurd (omega arith)
target_is (Inside n Read) m h = absurd (omega arith)
target_is (Adds n (A1 k a)) m h = absurd (omega arith)
target_is (Adds n (A2 k a v)) m h = absurd (omega arith)
target_is (WriterLeaves n X1) m h = absurd (omega arith)
target_is (WriterLeaves n X2) m h = absurd (omega arith)
target_is (WriterLeaves n (X3 t)) m h = absurd (omega arith)
target_is (WriterLeaves n (X4 t)) m h = absurd (omega arith)
target_is (WriterLeaves n (X5 t)) m h = absurd (omega arith)
target_is (ReaderLeaves n Y1) m h = absurd (omega arith)
target_is (ReaderLeaves n Y2) m h = absurd (omega arith)
target_is (ReaderLeaves n (Y3 p)) m h = absurd (omega arith)
target_is (ReaderLeaves n (Y4 p t)) m h = absurd (omega arith)
target_is (ReaderLeaves n (Y5 p t)) m h = absurd (omega arith)
target_is (ReaderLeaves n (Y6 p t)) m h = absurd (omega arith)
target_is (ReaderLeaves n (Y7 p t s)) m h = absurd (omega arith)
target_is (ReaderLeaves n (Y8 t)) m h = absurd (omega arith)

-- Stages that only a step of their card leaves.

-- whether a row's call goes by a transaction
abbrev by_transaction : Option MemoryCall → Bool
by_transaction None = false
by_transaction (Some k) = in_transaction k

-- no request is taken at the stage, and no abort
pub record Firm (g : Stage) : Type 0 where
  -- the card is not idle, and not inside
  pub busy : g ≡ Idle → ⊥
  pub apart : (n : ℕ) (m : Mode) → g ≡ Inside n m → ⊥
  -- and it has no transaction
  pub alone : (N c : ℕ) → by_transaction (call_of N c g) ≡ false

-- a card about to wake another, and a reader that waits, are at firm stages
firm_x5 : (n q : ℕ) → Firm (WriterLeaves n (X5 q))
firm_x5 n q = record {
  busy = λ e. cc;
  apart = λ a m e. cc;
  alone = λ N c. refl;
}

-- a leaving reader about to wake
firm_y8 : (n q : ℕ) → Firm (ReaderLeaves n (Y8 q))
firm_y8 n q = record {
  busy = λ e. cc;
  apart = λ a m e. cc;
  alone = λ N c. refl;
}

-- a reader about to look behind
firm_r13 : (n q : ℕ) → Firm (ReaderEnters n (R13 q))
firm_r13 n q = record {
  busy = λ e. cc;
  apart = λ a m e. cc;
  alone = λ N c. refl;
}

-- a reader about to wake
firm_r14 : (n q : ℕ) → Firm (ReaderEnters n (R14 q))
firm_r14 n q = record {
  busy = λ e. cc;
  apart = λ a m e. cc;
  alone = λ N c. refl;
}

-- a waiting reader
firm_r8 : (n : ℕ) → Firm (ReaderEnters n R8)
firm_r8 n = record {
  busy = λ e. cc;
  apart = λ a m e. cc;
  alone = λ N c. refl;
}

-- a request takes no card from a firm stage
firm_untaken : (w : Request) (g h : Stage) → Firm g → Taken w g h → ⊥
firm_untaken (Enter m n) g h F t = F.busy t.0
firm_untaken Leave g h F (n, inl t) = F.apart n Read t.0
firm_untaken Leave g h F (n, inr t) = F.apart n Write t.0
firm_untaken (Add k a) g h F t = F.apart t.0 Write t.1
firm_untaken (Show k) g h F t = t

-- a list of calls without a step of card d begins with a call that is none
one_call : (d : ℕ) (k : Call) (cs : List Call) → NoStep d (k ∷ cs) → NoStep d (k ∷ []) × NoStep d cs
one_call d (call.Request c t k x y) cs h = (tt, h)
one_call d (call.Step c) cs h = ((h.0, tt), h.1)
one_call d (call.Abort c) cs h = (tt, h)
one_call d (call.Reuse c n v) cs h = (tt, h)

-- no other call than a step of card d takes it from a firm stage
pub firm_stays : (z : Size) (b : Book) (d : ℕ) (g : Stage) → Firm g → stage b d ≡ g → (k : Call) → NoStep d (k ∷ [])
    → stage (after z b k) d ≡ g
firm_stays z b d g F e (call.Request c t k x y) h =
    request_cases z b.board c t k x y (λ (u : LockState) (o : Option Request). stage_of u d ≡ g) e
    (λ w lt a. judged w (served_moves z b.board.lock c w))
    (λ w lt a. judged w (served_moves z b.board.lock c w))
  where
    judged : (w : Request) → Served b.board.lock c w (served z b.board.lock c w)
        → stage_of (served z b.board.lock c w).1 d ≡ g
    judged w (inl q) = same_stage b.board.lock (served z b.board.lock c w).1 d q.0 ∙ e
    judged w (inr q) = ⊎_elim
        (λ p. absurd (firm_untaken w g q.0 F
        (subst (λ (x : Stage). Taken w x q.0) (ap (stage_of b.board.lock) (sym p) ∙ e) q.3)))
        (λ n. moved_other b.board.lock (served z b.board.lock c w).1 c d q.0 n q.1 ∙ e) (cases_eq d c)
firm_stays z b d g F e (call.Step c) h = ⊎_elim
    (λ q. ap (λ (u : LockState). stage_of u d) q.0 ∙ e)
    (λ q. moved_other b.board.lock (called z b.board (call.Step c)).1.lock c d
    (advanced (stage b c) (performed b.board.lock.meaning q.0).answer).0
    (λ p. h.0 (sym p)) (ap (λ (u : LockState). u.cards) q.3) ∙ e)
    (step_cases z b.board c)
firm_stays z b d g F e (call.Abort c) h = ⊎_elim
    (λ q. same_stage b.board.lock (called z b.board (call.Abort c)).1.lock d q ∙ e)
    (λ q. ⊎_elim
    (λ p. let same : stage b c ≡ g = ap (stage b) (sym p) ∙ e in
    clash (in_transaction q.0) q.3
    (sym (ap by_transaction q.2) ∙ ap (λ (x : Stage). by_transaction (call_of z.nodes c x)) same
    ∙ F.alone z.nodes c))
    (λ n. moved_other b.board.lock (called z b.board (call.Abort c)).1.lock c d _ n q.4 ∙ e)
    (cases_eq d c))
    (abort_cases z b.board c)
firm_stays z b d g F e (call.Reuse c n v) h =
    same_stage b.board.lock (called z b.board (call.Reuse c n v)).1.lock d
    (reuse_cards z b.board c n v) ∙ e

-- nor does a list of such calls
pub firm_fed : (z : Size) (b : Book) (d : ℕ) (g : Stage) → Firm g → stage b d ≡ g → (cs : List Call) → NoStep d cs
    → stage (fed_from z b cs) d ≡ g
firm_fed z b d g F e [] h = e
firm_fed z b d g F e (k ∷ cs) h = let q = one_call d k cs h in
    firm_fed z (after z b k) d g F (firm_stays z b d g F e k q.0) cs q.1

-- Steps that wake.

module _ (z : Size) (W : Within z) (b : Book) (I : Inv z b) where
  -- the standing values, the transactions, and the cards as the line sees them
  abbrev F : ℕ → ℕ
  F = standing b.board.lock.meaning

  abbrev T : ℕ → Tx
  T = tx_of b.board.lock.meaning

  abbrev V : ℕ → View
  V d = view (stage b d)

  -- a card that is not idle is on the board
  pub there : (d : ℕ) → (stage b d ≡ Idle → ⊥) → d < z.cards
  there d n = ⊎_elim (λ lt. lt) (λ le. absurd (n (I.kept.absent d le))) (cases_lt d z.cards)

  -- the call of a card's row, seen through the standing values and the transactions
  pub row_seen : (d : ℕ) (k : MemoryCall) → d < z.cards → call_of z.nodes d (stage b d) ≡ Some k
      → Same (performed b.board.lock.meaning k) (seen d k F T)
  row_seen d k lt e = let w = W.cards in
      bridge b.board.lock.meaning I.kept.cells I.kept.txs d (omega arith) k
      (ranged z.nodes z.counters d (stage b d) W.nodes W.counters (I.kept.sound d) k e)
      (recorded z.nodes z.counters F (stage b d) (T d) W.nodes (I.kept.sound d)
      (I.kept.isolated.agrees d))

  -- the same of a stage without a transaction
  row_alone : (d : ℕ) (g : Stage) (k : MemoryCall) → d < z.cards → stage b d ≡ g → in_tx g ≡ false
      → call_of z.nodes d g ≡ Some k → Same (performed b.board.lock.meaning k) (seen_on k F T none)
  row_alone d g k lt e i q =
      subst (λ (x : Tx). Same (performed b.board.lock.meaning k) (seen_on k F T x))
      (outside F (stage b d) (T d) (ap in_tx e ∙ i) (I.kept.isolated.agrees d))
      (row_seen d k lt (ap (call_of z.nodes d) e ∙ q))

  -- a step at a stage that stores 0 into a cell
  pub step_stores : (d a : ℕ) (g : Stage) → d < z.cards → stage b d ≡ g → in_tx g ≡ false
      → call_of z.nodes d g ≡ Some (memory-call.Store d a 0)
      → standing (after z b (call.Step d)).board.lock.meaning a ≡ 0
  step_stores d a g lt e i q =
      ap (λ (u : LockState). standing u.meaning a)
      (step_is z b.board d (memory-call.Store d a 0) lt (ap (call_of z.nodes d) e ∙ q))
      ∙ ap (λ (f : ℕ → ℕ). f a) (row_alone d g (memory-call.Store d a 0) lt e i q).cell
      ∙ at_same F a 0

  -- a step at a stage that loads a cell
  pub step_loads : (d a : ℕ) (g : Stage) → d < z.cards → stage b d ≡ g → in_tx g ≡ false
      → call_of z.nodes d g ≡ Some (memory-call.Load d a)
      → stage (after z b (call.Step d)) d ≡ (advanced g (Ok (F a))).0
  step_loads d a g lt e i q =
      moved_same b.board.lock (called z b.board (call.Step d)).1.lock d
      (advanced (stage b d) (performed b.board.lock.meaning (memory-call.Load d a)).answer).0 long
      (ap (λ (u : LockState). u.cards)
      (step_is z b.board d (memory-call.Load d a) lt (ap (call_of z.nodes d) e ∙ q)))
      ∙ ap (λ (r : Result ℕ MemoryFault). (advanced (stage b d) r).0)
      (row_alone d g (memory-call.Load d a) lt e i q).answer
      ∙ ap (λ (x : Stage). (advanced x (Ok (F a))).0) e
    where
      long : d < length b.board.lock.cards
      long = let w = W.cards in let k = I.kept.cards in omega arith

-- a reader that does not see its spin at 0 goes on waiting
r8_waits : (m v : ℕ) → (v ≡ 0 → ⊥) → (advanced (ReaderEnters m R8) (Ok v)).0 ≡ ReaderEnters m R8
r8_waits m zero h = absurd (h refl)
r8_waits m (suc v) h = refl

-- a card that waits is in line with its node and its mode
waits_view : (b : Book) (c n : ℕ) (m : Mode) → Waits b c n m
    → (joined (view (stage b c)) ≡ true) × (link (view (stage b c)) ≡ suc n)
    × (reader (view (stage b c)) ≡ reads_mode m)
waits_view b c n Write e = let v = ap view e in (ap joined v, ap link v, ap reader v)
waits_view b c n Read e = let v = ap view e in (ap joined v, ap link v, ap reader v)

-- it is let in where its spin stands at 0
waits_granted : (f : ℕ → ℕ) (b : Book) (c n : ℕ) (m : Mode) → Waits b c n m
    → granted f (view (stage b c)) ≡ true → f (spin n) ≡ 0
waits_granted f b c n Write e g = eqb-true (f (spin n)) 0 (sym (ap (granted f) (ap view e)) ∙ g)
waits_granted f b c n Read e g = eqb-true (f (spin n)) 0 (sym (ap (granted f) (ap view e)) ∙ g)

-- it wakes nobody itself
waits_hand : (b : Book) (c n : ℕ) (m : Mode) → Waits b c n m
    → (hand (view (stage b c)) ≡ 0) × (target (view (stage b c)) ≡ 0)
waits_hand b c n Write e = let v = ap view e in (ap hand v, ap target v)
waits_hand b c n Read e = let v = ap view e in (ap hand v, ap target v)

-- Whatever is called: by the invariant after each call.

module _ (z : Size) (W : Within z) (keep : (b : Book) (k : Call) → Inv z b → Inv z (after z b k)) where
  -- the invariant after a list of calls
  inv_fed : (b : Book) → Inv z b → (cs : List Call) → Inv z (fed_from z b cs)
  inv_fed b I [] = I
  inv_fed b I (k ∷ cs) = inv_fed (after z b k) (keep b k I) cs

  -- a card about to store 0 into the spin of the node m
  store_next : (b : Book) → Inv z b → (d m : ℕ) (g : Stage) → Firm g → stage b d ≡ g → in_tx g ≡ false
      → call_of z.nodes d g ≡ Some (memory-call.Store d (spin m) 0) → WakesNext z b d m
  store_next b I d m g H e i q cs h =
      step_stores z W (fed_from z b cs) (inv_fed b I cs) d (spin m) g
      (there z W b I d (λ p. H.busy (sym e ∙ p))) (firm_fed z b d g H e cs h) i q

  -- the spin of a reader that is about to be seen is not 0 yet
  seen_waits : (b : Book) → Inv z b → (d c n m : ℕ) → stage b d ≡ ReaderEnters n (R13 (suc m))
      → stage b c ≡ ReaderEnters m R8 → standing b.board.lock.meaning (spin m) ≡ 0 → ⊥
  seen_waits b I d c n m e w o = ⊎_elim
      (λ E. let a = ap (λ (g : Stage). target (view g)) e in let t = E.aimless in omega arith)
      (λ q. let A = aimed F (V d) (V q.0) m q.2 (ap (λ (g : Stage). target (view g)) e) in
      let lc : link (V c) ≡ suc m = ap (λ (g : Stage). link (view g)) w in
      ⊎_elim
      (λ p. clash (granted F (V c)) (ap (λ (g : Stage). granted F (view g)) w ∙ eq-eqb (F (spin m)) 0 o)
      (ap (λ (x : ℕ). granted F (V x)) (sym p) ∙ A.1))
      (λ p. let a = A.0 in omega arith)
      (I.kept.line.nodes q.0 c (A.0 ∙ sym lc)))
      (chain_behind F V (cards_of b.line) 0 I.kept.line.chain d
      (I.kept.line.members d (ap (λ (g : Stage). joined (view g)) e)))
    where
      F : ℕ → ℕ
      F = standing b.board.lock.meaning

      V : ℕ → View
      V x = view (stage b x)

  -- so it goes on waiting, whatever else is called
  seen_stays : (b : Book) → Inv z b → (d c n m : ℕ) → stage b d ≡ ReaderEnters n (R13 (suc m))
      → stage b c ≡ ReaderEnters m R8 → (k : Call) → stage (after z b k) c ≡ ReaderEnters m R8
  seen_stays b I d c n m e w (call.Request a t k x y) =
      firm_stays z b c (ReaderEnters m R8) (firm_r8 m) w (call.Request a t k x y) tt
  seen_stays b I d c n m e w (call.Abort a) = firm_stays z b c (ReaderEnters m R8) (firm_r8 m) w (call.Abort a) tt
  seen_stays b I d c n m e w (call.Reuse a i v) =
      firm_stays z b c (ReaderEnters m R8) (firm_r8 m) w (call.Reuse a i v) tt
  seen_stays b I d c n m e w (call.Step a) = ⊎_elim
      (λ p. subst (λ (x : ℕ). stage (after z b (call.Step x)) c ≡ ReaderEnters m R8) (sym p)
      (step_loads z W b I c (spin m) (ReaderEnters m R8) (there z W b I c (λ q. (firm_r8 m).busy (sym w ∙ q)))
      w refl refl
      ∙ r8_waits m (standing b.board.lock.meaning (spin m)) (seen_waits b I d c n m e w)))
      (λ p. firm_stays z b c (ReaderEnters m R8) (firm_r8 m) w (call.Step a) (p, tt))
      (cases_eq a c)

  -- through a list of calls
  seen_fed : (b : Book) → Inv z b → (d c n m : ℕ) → stage b d ≡ ReaderEnters n (R13 (suc m))
      → stage b c ≡ ReaderEnters m R8 → (cs : List Call) → NoStep d cs → stage (fed_from z b cs) c ≡ ReaderEnters m R8
  seen_fed b I d c n m e w [] h = w
  seen_fed b I d c n m e w (k ∷ cs) h = let q = one_call d k cs h in
      seen_fed (after z b k) (keep b k I) d c n m
      (firm_stays z b d (ReaderEnters n (R13 (suc m))) (firm_r13 n (suc m)) e k q.0)
      (seen_stays b I d c n m e w k) cs q.1

  -- an active reader that looks at a reader right behind it wakes it with the step after
  sees_then_wakes : (b : Book) → Inv z b → (d c n m : ℕ) → stage b d ≡ ReaderEnters n (R13 (suc m))
      → stage b c ≡ ReaderEnters m R8 → Wakes z b d m
  sees_then_wakes b I d c n m e w = inr soon
    where
      soon : (cs : List Call) → NoStep d cs → WakesNext z (after z (fed_from z b cs) (call.Step d)) d m
      soon cs h =
          let J = inv_fed b I cs in
          let now = firm_fed z b d (ReaderEnters n (R13 (suc m))) (firm_r13 n (suc m)) e cs h in
          let waits = seen_fed b I d c n m e w cs h in
          let one : standing (fed_from z b cs).board.lock.meaning (state m) ≡ 1
          = subst (λ (g : Stage). Cells (standing (fed_from z b cs).board.lock.meaning) (view g)) waits
          (J.kept.line.cells c) in
          store_next (after z (fed_from z b cs) (call.Step d)) (keep (fed_from z b cs) (call.Step d) J) d m
          (ReaderEnters n (R14 (suc m))) (firm_r14 n (suc m))
          (step_loads z W (fed_from z b cs) J d (state m) (ReaderEnters n (R13 (suc m)))
          (there z W b I d (λ p. (firm_r13 n (suc m)).busy (sym e ∙ p))) now refl refl
          ∙ ap (λ (v : ℕ). (advanced (ReaderEnters n (R13 (suc m))) (Ok v)).0) one)
          refl refl

  module _ (b : Book) (I : Inv z b) where
    -- the spin of the node m is about to be set, by another card than c
    abbrev Soon : ℕ → ℕ → Type 0
    Soon c m = (d : ℕ) × (d < z.cards) × (d ≡ c → ⊥) × Wakes z b d m

    -- by a card that has left the line
    hand_soon : (c d m : ℕ) → (d ≡ c → ⊥) → hand (view (stage b d)) ≡ suc m → Soon c m
    hand_soon c d m n h = (
      d,
      lt,
      n,
      inl (⊎_elim
          (λ w. store_next b I d m (WriterLeaves w.0 (X5 (suc m))) (firm_x5 w.0 (suc m)) w.1 refl refl)
          (λ w. store_next b I d m (ReaderLeaves w.0 (Y8 (suc m))) (firm_y8 w.0 (suc m)) w.1 refl refl)
          (hands_is (stage b d) m h)),
    )
      where
        lt : d < z.cards
        lt = there z W b I d (λ e. let o = ap (λ (g : Stage). hand (view g)) e in omega arith)

    -- by the active reader right ahead
    target_soon : (c d m : ℕ) → (d ≡ c → ⊥) → stage b c ≡ ReaderEnters m R8 → target (view (stage b d)) ≡ suc m
        → Soon c m
    target_soon c d m n w h = (
      d,
      lt,
      n,
      ⊎_elim
          (λ q. sees_then_wakes b I d c q.0 m q.1 w)
          (λ q. inl (store_next b I d m (ReaderEnters q.0 (R14 (suc m))) (firm_r14 q.0 (suc m))
          q.1 refl refl))
          (target_is (stage b d) m h),
    )
      where
        lt : d < z.cards
        lt = there z W b I d (λ e. let o = ap (λ (g : Stage). target (view g)) e in omega arith)

    -- the first in line
    first_woken : (c n : ℕ) (m : Mode) → Waits b c n m → (y : List Place)
        → b.line ≡ place c n m ∷ y
        → (standing b.board.lock.meaning (spin n) ≡ 0) ⊎ Soon c n
    first_woken c n m w y e = by_baton
        (subst (λ (l : List Place). Baton (standing b.board.lock.meaning) (λ d. view (stage b d)) (cards_of l)) e
        I.kept.line.baton)
      where
        by_baton : Baton (standing b.board.lock.meaning) (λ d. view (stage b d)) (c ∷ cards_of y)
            → (standing b.board.lock.meaning (spin n) ≡ 0) ⊎ Soon c n
        by_baton (inl B) = inl (waits_granted (standing b.board.lock.meaning) b c n m w B.1)
        by_baton (inr B) = inr (hand_soon c B.0 n
            (λ p. B.1 (ap (λ (x : ℕ). hand (view (stage b x))) p ∙ (waits_hand b c n m w).0))
            (B.3.0 ∙ (waits_view b c n m w).1))

    -- a reader behind an active one
    reader_woken : (c n : ℕ) → stage b c ≡ ReaderEnters n R8 → (a : Place)
        → promise.RightAhead b.line a (place c n Read) → promise.Active (cells_of b) a
        → (standing b.board.lock.meaning (spin n) ≡ 0) ⊎ Soon c n
    reader_woken c n w a r o = by_grant (granted F (V c)) refl
      where
        F : ℕ → ℕ
        F = standing b.board.lock.meaning

        V : ℕ → View
        V d = view (stage b d)

        split : b.line ≡ r.0 ++ a ∷ place c n Read ∷ r.1
        split = r.2

        chain : (joined (V a.card) ≡ true) × Chain F V (suc a.card) (c ∷ cards_of r.1)
        chain = chain_from F V r.0 a (place c n Read ∷ r.1) 0
            (subst (λ (l : List Place). Chain F V 0 (cards_of l)) split I.kept.line.chain)

        node_of : node (V a.card) ≡ a.node
        node_of = link_node (V a.card) a.node (seat_in (stage b) r.0 a
            (place c n Read ∷ r.1) (subst (Seated (stage b)) split I.seated)).0

        act : active (V a.card) ≡ true
        act = (active_state F (V a.card) chain.0 (I.kept.line.cells a.card)).1
            (ap (λ (x : ℕ). F (state x)) node_of ∙ o)

        by_grant : (t : Bool) → granted F (V c) ≡ t → (F (spin n) ≡ 0) ⊎ Soon c n
        by_grant true g = inl (waits_granted F b c n Read w g)
        by_grant false g = inr (target_soon c a.card n
            (λ p. clash (active (V c)) (ap (λ (x : ℕ). active (V x)) (sym p) ∙ act) (ap active (ap view w)))
            w (chain.1.0.owed act (ap reader (ap view w)) g ∙ ap link (ap view w)))

    -- no lost wake
    pub wakes_stand : WakesStand z (cells_of b) b
    wakes_stand = record {
      waiting = λ c n m w. let v = waits_view b c n m w in in_place z b I c n m v.0 v.1 v.2;
      woken = woken;
    }
      where
        woken : (c n : ℕ) (m : Mode) → Waits b c n m
            → promise.TurnCome (cells_of b) b.line (place c n m)
            → (standing b.board.lock.meaning (spin n) ≡ 0) ⊎ Soon c n
        woken c n m w (inl t) = first_woken c n m w t.0 t.1
        woken c n Read w (inr t) = reader_woken c n w t.1.0 t.1.1 t.1.2
        woken c n Write w (inr t) = clash (reads_mode Write) (ap reads_mode t.0) refl
