-- What the answer to a step says is so.
use Rattle.std.proofs.Common.{◌≡◌, ℕ, zero, suc, Bool, true, false, eqb, ◌⊎◌, List, Some, None, Ok, Err, Option}
use Rattle.std.proofs.Common.{Result, sym, refl, ap, ◌∙◌, subst, inl, inr, arith}
use Rattle.memory.specs.declared.fault.MemoryFault.{MemoryFault}
use Rattle.memory.specs.declared.fault.Refusal.{Refusal}
use Rattle.memory.specs.declared.fault.Refusal.TheVariants.{Already, NoTransaction, Doomed, Full}
use Rattle.memory.specs.declared.write.Write.{Write}
use Rattle.memory.specs.declared.call.MemoryCall.{MemoryCall}
use Rattle.memory.specs.declared.call.MemoryCall.TheVariants as memory-call
use Rattle.memory.specs.Meaning.{Tx, none, live, doomed, value_in, marking, recording}
use Rattle.stages.specs.declared.answer.Answer.{Answer}
use Rattle.stages.specs.declared.answer.Answer.TheVariants.{Step, Wait, Lost, In, Out, Added}
use Rattle.stages.specs.declared.stage.Mode.TheVariants as mode
use Rattle.stages.specs.declared.stage.WriterEntry.TheVariants.{W1, W2, W3, W4, W5, W6}
use Rattle.stages.specs.declared.stage.ReaderEntry.{ReaderEntry}
use Rattle.stages.specs.declared.stage.ReaderEntry.TheVariants.{R1, R2, R3, R4, R5, R6, R7, R8, R9, R10, R11, R12}
use Rattle.stages.specs.declared.stage.ReaderEntry.TheVariants.{R13, R14}
use Rattle.stages.specs.declared.stage.Addition.TheVariants.{A1, A2}
use Rattle.stages.specs.declared.stage.WriterExit.TheVariants.{X1, X2, X3, X4, X5}
use Rattle.stages.specs.declared.stage.ReaderExit.TheVariants.{Y1, Y2, Y3, Y4, Y5, Y6, Y7, Y8}
use Rattle.stages.specs.declared.stage.Stage.{Stage}
use Rattle.stages.specs.declared.stage.Stage.TheVariants.{Idle, WriterEnters, ReaderEnters, Inside, Adds}
use Rattle.stages.specs.declared.stage.Stage.TheVariants.{WriterLeaves, ReaderLeaves}
use Rattle.stages.specs.Layout.{counter_cell, reader, writer, active}
use Rattle.stages.specs.Rows.{call_of, begin_of, capped}
use Rattle.lock.specs.declared.fault.LockFault.{LockFault}
use Rattle.lock.specs.Lock.{goes}
use Rattle.board.specs.Book.{Sum, deed, summed}
use Rattle.board.specs.Answers.{idle, entering, inside, leaving, phase_of, UnderWay, Goes}
use Rattle.board.proofs.Lists.{by_test}
use Rattle.board.proofs.Cells.{spin, at, at_same}
use Rattle.board.proofs.Model as model
use Rattle.board.proofs.Model.{seen_on, value_seen, mark_seen, record_seen}
use Rattle.board.proofs.Rows.{Row, one_call}

-- whether a card at a stage waits
abbrev pub waiting : Stage → Bool
waiting Idle = false
waiting (WriterEnters n W1) = false
waiting (WriterEnters n W2) = false
waiting (WriterEnters n (W3 p)) = false
waiting (WriterEnters n (W4 p)) = false
waiting (WriterEnters n (W5 p)) = false
waiting (WriterEnters n W6) = true
waiting (ReaderEnters n R1) = false
waiting (ReaderEnters n R2) = false
waiting (ReaderEnters n (R3 p)) = false
waiting (ReaderEnters n (R4 p)) = false
waiting (ReaderEnters n (R5 p)) = false
waiting (ReaderEnters n (R6 p)) = false
waiting (ReaderEnters n (R7 p s)) = false
waiting (ReaderEnters n R8) = true
waiting (ReaderEnters n R9) = false
waiting (ReaderEnters n R10) = false
waiting (ReaderEnters n R11) = false
waiting (ReaderEnters n (R12 t)) = false
waiting (ReaderEnters n (R13 t)) = false
waiting (ReaderEnters n (R14 t)) = false
waiting (Inside n m) = false
waiting (Adds n p) = false
waiting (WriterLeaves n p) = false
waiting (ReaderLeaves n p) = false

-- what a row answers that was accepted and answered v, for a card c that goes from stage g to stage h
pub record RowSays (c : ℕ) (g h : Stage) (v : ℕ) (a : Answer) : Type 0 where
  pub goes : Goes a (phase_of g) (phase_of h)
  pub added : (x : ℕ) → a ≡ Added x
      → (n : ℕ) × (k : ℕ) × (e : ℕ) × (u : ℕ) × (g ≡ Adds n (A2 k e u)) × (x ≡ capped u e)
  pub no_add : ((x : ℕ) → a ≡ Added x → ⊥) → (l : List Sum) → summed c (deed g) l ≡ l
  pub waits : a ≡ Wait → (waiting g ≡ true) × (v ≡ 0 → ⊥)
  pub let_go : (a ≡ Wait → ⊥) → waiting g ≡ true → v ≡ 0
  pub not_lost : a ≡ Lost → ⊥

-- a row whose answer is neither added nor wait nor lost
tells_plainly : (c : ℕ) (g h : Stage) (v : ℕ) (a : Answer) → ((x : ℕ) → a ≡ Added x → ⊥) → (a ≡ Wait → ⊥)
    → (a ≡ Lost → ⊥) → Goes a (phase_of g) (phase_of h) → ((l : List Sum) → summed c (deed g) l ≡ l)
    → (waiting g ≡ true → v ≡ 0) → RowSays c g h v a
tells_plainly c g h v a no_add no-wait no-loss p s w = record {
  goes = p;
  added = λ x e. absurd (no_add x e);
  no_add = λ _. s;
  waits = λ e. absurd (no-wait e);
  let_go = λ _. w;
  not_lost = no-loss;
}

-- a row that answers step
steps : (c : ℕ) (g h : Stage) (v : ℕ) → phase_of h ≡ phase_of g → UnderWay (phase_of g)
    → ((l : List Sum) → summed c (deed g) l ≡ l) → (waiting g ≡ true → v ≡ 0) → RowSays c g h v Step
steps c g h v p u = tells_plainly c g h v Step (λ x e. cc) (λ e. cc) (λ e. cc) (p, u)

-- a row that lets its card in
enters : (c : ℕ) (g h : Stage) (v : ℕ) → phase_of g ≡ entering → phase_of h ≡ inside
    → ((l : List Sum) → summed c (deed g) l ≡ l) → (waiting g ≡ true → v ≡ 0) → RowSays c g h v In
enters c g h v p q = tells_plainly c g h v In (λ x e. cc) (λ e. cc) (λ e. cc) (p, q)

-- a row that makes its card idle
leaves : (c : ℕ) (g h : Stage) (v : ℕ) → phase_of g ≡ leaving → phase_of h ≡ idle
    → ((l : List Sum) → summed c (deed g) l ≡ l) → (waiting g ≡ true → v ≡ 0) → RowSays c g h v Out
leaves c g h v p q = tells_plainly c g h v Out (λ x e. cc) (λ e. cc) (λ e. cc) (p, q)

-- a row that keeps its card waiting
keeps : (c : ℕ) (g h : Stage) (v : ℕ) → phase_of g ≡ entering → phase_of h ≡ entering
    → ((l : List Sum) → summed c (deed g) l ≡ l) → waiting g ≡ true → (v ≡ 0 → ⊥) → RowSays c g h v Wait
keeps c g h v p q s w o = record {
  goes = (p, q);
  added = λ x e. cc;
  no_add = λ _. s;
  waits = λ _. (w, o);
  let_go = λ n. absurd (n refl);
  not_lost = λ e. cc;
}

-- what an answer says; a refusal says nothing here
abbrev OfAnswer : (Answer → Type 0) → Result Answer LockFault → Type 0
OfAnswer P (Ok a) = P a
OfAnswer P (Err f) = Unit {0}

-- the rows, one by one
row_says : (c : ℕ) (g : Stage) (v : ℕ) → OfAnswer (RowSays c g (goes g v).0 v) (goes g v).1
row_says c Idle v = tt
row_says c (WriterEnters n W1) v = steps c _ _ v refl tt (λ _. refl) (λ e. cc)
row_says c (WriterEnters n W2) v = steps c _ _ v refl tt (λ _. refl) (λ e. cc)
row_says c (WriterEnters n (W3 zero)) v = steps c _ _ v refl tt (λ _. refl) (λ e. cc)
row_says c (WriterEnters n (W3 (suc p))) v = steps c _ _ v refl tt (λ _. refl) (λ e. cc)
row_says c (WriterEnters n (W4 p)) v = steps c _ _ v refl tt (λ _. refl) (λ e. cc)
row_says c (WriterEnters n (W5 zero)) v = enters c _ _ v refl refl (λ _. refl) (λ e. cc)
row_says c (WriterEnters n (W5 (suc p))) v = steps c _ _ v refl tt (λ _. refl) (λ e. cc)
row_says c (WriterEnters n W6) zero = enters c _ _ 0 refl refl (λ _. refl) (λ _. refl)
row_says c (WriterEnters n W6) (suc v) = keeps c _ _ (suc v) refl refl (λ _. refl) refl (λ e. omega arith)
row_says c (ReaderEnters n R1) v = steps c _ _ v refl tt (λ _. refl) (λ e. cc)
row_says c (ReaderEnters n R2) v = steps c _ _ v refl tt (λ _. refl) (λ e. cc)
row_says c (ReaderEnters n (R3 zero)) v = steps c _ _ v refl tt (λ _. refl) (λ e. cc)
row_says c (ReaderEnters n (R3 (suc p))) v = steps c _ _ v refl tt (λ _. refl) (λ e. cc)
row_says c (ReaderEnters n (R4 p)) v = steps c _ _ v refl tt (λ _. refl) (λ e. cc)
row_says c (ReaderEnters n (R5 p)) v = steps c _ _ v refl tt (λ _. refl) (λ e. cc)
row_says c (ReaderEnters n (R6 p)) v = steps c _ _ v refl tt (λ _. refl) (λ e. cc)
row_says c (ReaderEnters n (R7 zero s)) v = steps c _ _ v refl tt (λ _. refl) (λ e. cc)
row_says c (ReaderEnters n (R7 (suc p) s)) v =
    by_test (λ (x : ReaderEntry). RowSays c (ReaderEnters n (R7 (suc p) s)) (ReaderEnters n x) v Step)
    (eqb s active) R9 R8 (steps c _ _ v refl tt (λ _. refl) (λ e. cc)) (steps c _ _ v refl tt (λ _. refl) (λ e. cc))
row_says c (ReaderEnters n R8) zero = steps c _ _ 0 refl tt (λ _. refl) (λ _. refl)
row_says c (ReaderEnters n R8) (suc v) = keeps c _ _ (suc v) refl refl (λ _. refl) refl (λ e. omega arith)
row_says c (ReaderEnters n R9) v = steps c _ _ v refl tt (λ _. refl) (λ e. cc)
row_says c (ReaderEnters n R10) v = steps c _ _ v refl tt (λ _. refl) (λ e. cc)
row_says c (ReaderEnters n R11) v = steps c _ _ v refl tt (λ _. refl) (λ e. cc)
row_says c (ReaderEnters n (R12 zero)) v = enters c _ _ v refl refl (λ _. refl) (λ e. cc)
row_says c (ReaderEnters n (R12 (suc t))) v = steps c _ _ v refl tt (λ _. refl) (λ e. cc)
row_says c (ReaderEnters n (R13 t)) v =
    by_test (λ (x : Stage × Answer). RowSays c (ReaderEnters n (R13 t)) x.0 v x.1) (eqb v reader)
    (ReaderEnters n (R14 t), Step) (Inside n mode.Read, In)
    (steps c _ _ v refl tt (λ _. refl) (λ e. cc)) (enters c _ _ v refl refl (λ _. refl) (λ e. cc))
row_says c (ReaderEnters n (R14 t)) v = enters c _ _ v refl refl (λ _. refl) (λ e. cc)
row_says c (Inside n m) v = tt
row_says c (Adds n (A1 k a)) v = steps c _ _ v refl tt (λ _. refl) (λ e. cc)
row_says c (Adds n (A2 k a u)) v = record {
  goes = (refl, refl);
  added = λ x e. (n, k, a, u, refl, cc);
  no_add = λ h. absurd (h (capped u a) refl);
  waits = λ e. cc;
  let_go = λ _ e. cc;
  not_lost = λ e. cc;
}
row_says c (WriterLeaves n X1) v = steps c _ _ v refl tt (λ _. refl) (λ e. cc)
row_says c (WriterLeaves n X2) v = steps c _ _ v refl tt (λ _. refl) (λ e. cc)
row_says c (WriterLeaves n (X3 t)) v = steps c _ _ v refl tt (λ _. refl) (λ e. cc)
row_says c (WriterLeaves n (X4 zero)) v = leaves c _ _ v refl refl (λ _. refl) (λ e. cc)
row_says c (WriterLeaves n (X4 (suc t))) v = steps c _ _ v refl tt (λ _. refl) (λ e. cc)
row_says c (WriterLeaves n (X5 t)) v = leaves c _ _ v refl refl (λ _. refl) (λ e. cc)
row_says c (ReaderLeaves n Y1) v = steps c _ _ v refl tt (λ _. refl) (λ e. cc)
row_says c (ReaderLeaves n Y2) v = steps c _ _ v refl tt (λ _. refl) (λ e. cc)
row_says c (ReaderLeaves n (Y3 zero)) v = steps c _ _ v refl tt (λ _. refl) (λ e. cc)
row_says c (ReaderLeaves n (Y3 (suc p))) v = steps c _ _ v refl tt (λ _. refl) (λ e. cc)
row_says c (ReaderLeaves n (Y4 p t)) v = steps c _ _ v refl tt (λ _. refl) (λ e. cc)
row_says c (ReaderLeaves n (Y5 p zero)) v = steps c _ _ v refl tt (λ _. refl) (λ e. cc)
row_says c (ReaderLeaves n (Y5 zero (suc t))) v = steps c _ _ v refl tt (λ _. refl) (λ e. cc)
row_says c (ReaderLeaves n (Y5 (suc p) (suc t))) v = steps c _ _ v refl tt (λ _. refl) (λ e. cc)
row_says c (ReaderLeaves n (Y6 p t)) v = steps c _ _ v refl tt (λ _. refl) (λ e. cc)
row_says c (ReaderLeaves n (Y7 p zero s)) v = leaves c _ _ v refl refl (λ _. refl) (λ e. cc)
row_says c (ReaderLeaves n (Y7 zero (suc t) s)) v =
    by_test (λ (x : Stage × Answer). RowSays c (ReaderLeaves n (Y7 zero (suc t) s)) x.0 v x.1) (eqb s writer)
    (ReaderLeaves n (Y8 (suc t)), Step) (Idle, Out)
    (steps c _ _ v refl tt (λ _. refl) (λ e. cc)) (leaves c _ _ v refl refl (λ _. refl) (λ e. cc))
row_says c (ReaderLeaves n (Y7 (suc p) (suc t) s)) v = leaves c _ _ v refl refl (λ _. refl) (λ e. cc)
row_says c (ReaderLeaves n (Y8 t)) v = leaves c _ _ v refl refl (λ _. refl) (λ e. cc)

-- a row that was accepted is answered
pub row_answers : (N c : ℕ) (g : Stage) (k : MemoryCall) (v : ℕ) → call_of N c g ≡ Some k
    → (a : Answer) × ((goes g v).1 ≡ Ok a) × RowSays c g (goes g v).0 v a
row_answers N c g k v e = go g (row_says c g v) e
  where
    go : (g : Stage) → OfAnswer (RowSays c g (goes g v).0 v) (goes g v).1 → call_of N c g ≡ Some k
        → (a : Answer) × ((goes g v).1 ≡ Ok a) × RowSays c g (goes g v).0 v a
    go Idle r e = cc
    go (WriterEnters n p) r e = (_, refl, r)
    go (ReaderEnters n p) r e = (_, refl, r)
    go (Inside n m) r e = cc
    go (Adds n p) r e = (_, refl, r)
    go (WriterLeaves n p) r e = (_, refl, r)
    go (ReaderLeaves n p) r e = (_, refl, r)

-- a card with a row is not idle
pub row_under_way : (N c : ℕ) (g : Stage) (k : MemoryCall) → call_of N c g ≡ Some k → UnderWay (phase_of g)
row_under_way N c Idle k e = cc
row_under_way N c (WriterEnters n p) k e = tt
row_under_way N c (ReaderEnters n p) k e = tt
row_under_way N c (Inside n m) k e = tt
row_under_way N c (Adds n p) k e = tt
row_under_way N c (WriterLeaves n p) k e = tt
row_under_way N c (ReaderLeaves n p) k e = tt

-- a transaction that starts again leaves its card where it is
pub begin_phase : (g : Stage) → phase_of (begin_of g) ≡ phase_of g
begin_phase Idle = refl
begin_phase (WriterEnters n p) = refl
begin_phase (ReaderEnters n p) = refl
begin_phase (Inside n m) = refl
begin_phase (Adds n p) = refl
begin_phase (WriterLeaves n p) = refl
begin_phase (ReaderLeaves n p) = refl

-- a card whose transaction is doomed gets no answer of a row
pub doomed_refused : (c : ℕ) (g : Stage) (k : MemoryCall) (f : ℕ → ℕ) (t : ℕ → Tx) (v : ℕ) → Row c g k
    → (seen_on k f t doomed).answer ≡ Ok v → ⊥
doomed_refused c g memory-call.Clear f t v r e = r
doomed_refused c g (memory-call.Look a) f t v r e = r
doomed_refused c g (memory-call.Load d a) f t v r e = cc
doomed_refused c g (memory-call.Store d a x) f t v r e = cc
doomed_refused c g (memory-call.Begin d) f t v r e = cc
doomed_refused c g (memory-call.Read d a) f t v r e = cc
doomed_refused c g (memory-call.Write d a x) f t v r e = cc
doomed_refused c g (memory-call.Commit d) f t v r e = cc
doomed_refused c g (memory-call.Drop d) f t v r e = r

-- a card that waits waits on a node
pub waits_on : (g : Stage) → waiting g ≡ true
    → (n : ℕ) × ((g ≡ WriterEnters n W6) ⊎ (g ≡ ReaderEnters n R8))
waits_on Idle e = cc
waits_on (WriterEnters n W1) e = cc
waits_on (WriterEnters n W2) e = cc
waits_on (WriterEnters n (W3 p)) e = cc
waits_on (WriterEnters n (W4 p)) e = cc
waits_on (WriterEnters n (W5 p)) e = cc
waits_on (WriterEnters n W6) e = (n, inl refl)
waits_on (ReaderEnters n R1) e = cc
waits_on (ReaderEnters n R2) e = cc
waits_on (ReaderEnters n (R3 p)) e = cc
waits_on (ReaderEnters n (R4 p)) e = cc
waits_on (ReaderEnters n (R5 p)) e = cc
waits_on (ReaderEnters n (R6 p)) e = cc
waits_on (ReaderEnters n (R7 p s)) e = cc
waits_on (ReaderEnters n R8) e = (n, inr refl)
waits_on (ReaderEnters n R9) e = cc
waits_on (ReaderEnters n R10) e = cc
waits_on (ReaderEnters n R11) e = cc
waits_on (ReaderEnters n (R12 t)) e = cc
waits_on (ReaderEnters n (R13 t)) e = cc
waits_on (ReaderEnters n (R14 t)) e = cc
waits_on (Inside n m) e = cc
waits_on (Adds n p) e = cc
waits_on (WriterLeaves n p) e = cc
waits_on (ReaderLeaves n p) e = cc

-- a card that waits is answered its spin
pub spin_answered : (N c n : ℕ) (g : Stage) (k : MemoryCall) (f : ℕ → ℕ) (t : ℕ → Tx)
    → (g ≡ WriterEnters n W6) ⊎ (g ≡ ReaderEnters n R8) → call_of N c g ≡ Some k
    → (seen_on k f t none).answer ≡ Ok (f (spin n))
spin_answered N c n g k f t (inl e) q =
    subst (λ (k : MemoryCall). (seen_on k f t none).answer ≡ Ok (f (spin n)))
    (one_call (memory-call.Load c (spin n)) k (call_of N c g) (ap (call_of N c) e) q) refl
spin_answered N c n g k f t (inr e) q =
    subst (λ (k : MemoryCall). (seen_on k f t none).answer ≡ Ok (f (spin n)))
    (one_call (memory-call.Load c (spin n)) k (call_of N c g) (ap (call_of N c) e) q) refl

-- the last step of an add leaves its sum in the counter
pub sum_stored : (N c n i a u : ℕ) (g : Stage) (k : MemoryCall) (f : ℕ → ℕ) (t : ℕ → Tx)
    → g ≡ Adds n (A2 i a u) → call_of N c g ≡ Some k
    → (seen_on k f t none).cell (counter_cell N i) ≡ capped u a
sum_stored N c n i a u g k f t e q =
    subst (λ (k : MemoryCall). (seen_on k f t none).cell (counter_cell N i) ≡ capped u a)
    (one_call (memory-call.Store c (counter_cell N i) (capped u a)) k (call_of N c g) (ap (call_of N c) e) q)
    (at_same f (counter_cell N i) (capped u a))

-- the refusal of an answer
abbrev why : Result ℕ MemoryFault → Refusal
why (Ok v) = Full
why (Err e) = e.refusal

-- what is left of a transaction x of card c that was lost
abbrev pub LostOf : ℕ → (ℕ → ℕ) → Tx → model.Out → Type 0
LostOf c f x o = (x ≡ doomed) × (o.cell ≡ f) × (o.tx c ≡ none)

-- a refusal for another reason is no loss
not_so : {A : Type 0} (w : Refusal) (r : Result ℕ MemoryFault) (e : MemoryFault) → why r ≡ w → (w ≡ Doomed → ⊥)
    → r ≡ Err e → e.refusal ≡ Doomed → A
not_so w r e y n q h = absurd (n (sym y ∙ ap why q ∙ h))

-- the transaction is closed where it was doomed
gone : (c d : ℕ) (f : ℕ → ℕ) (t : ℕ → Tx) → d ≡ c → (doomed ≡ doomed) × (f ≡ f) × (at t d none c ≡ none)
gone c d f t e = (refl, refl, subst (λ (x : ℕ). at t d none x ≡ none) e (at_same t d none))

-- a row is lost only where its card's transaction was doomed, which is gone then
pub lost_by : (c : ℕ) (g : Stage) (k : MemoryCall) (f : ℕ → ℕ) (t : ℕ → Tx) (x : Tx) (e : MemoryFault) → Row c g k
    → e.refusal ≡ Doomed → (seen_on k f t x).answer ≡ Err e → LostOf c f x (seen_on k f t x)
lost_by c g memory-call.Clear f t x e r h q = absurd r
lost_by c g (memory-call.Look a) f t x e r h q = absurd r
lost_by c g (memory-call.Load d a) f t none e r h q = cc
lost_by c g (memory-call.Load d a) f t (live i w) e r h q = not_so Already _ e refl (λ z. cc) q h
lost_by c g (memory-call.Load d a) f t doomed e r h q = not_so Already _ e refl (λ z. cc) q h
lost_by c g (memory-call.Store d a v) f t none e r h q = cc
lost_by c g (memory-call.Store d a v) f t (live i w) e r h q = not_so Already _ e refl (λ z. cc) q h
lost_by c g (memory-call.Store d a v) f t doomed e r h q = not_so Already _ e refl (λ z. cc) q h
lost_by c g (memory-call.Begin d) f t none e r h q = cc
lost_by c g (memory-call.Begin d) f t (live i w) e r h q = not_so Already _ e refl (λ z. cc) q h
lost_by c g (memory-call.Begin d) f t doomed e r h q = not_so Already _ e refl (λ z. cc) q h
lost_by c g (memory-call.Read d a) f t none e r h q = not_so NoTransaction _ e refl (λ z. cc) q h
lost_by c g (memory-call.Read d a) f t (live i w) e r h q = by_value (value_in w a) q
  where
    by_mark : (o : Option (List ℕ)) → (mark_seen d a f t w o).answer ≡ Err e
        → LostOf c f (live i w) (mark_seen d a f t w o)
    by_mark (Some l) q = cc
    by_mark None q = not_so Full _ e refl (λ z. cc) q h

    by_value : (o : Option ℕ) → (value_seen d a f t i w o).answer ≡ Err e
        → LostOf c f (live i w) (value_seen d a f t i w o)
    by_value (Some v) q = cc
    by_value None q = by_mark (marking i a) q
lost_by c g (memory-call.Read d a) f t doomed e r h q = gone c d f t r.0
lost_by c g (memory-call.Write d a v) f t none e r h q = not_so NoTransaction _ e refl (λ z. cc) q h
lost_by c g (memory-call.Write d a v) f t (live i w) e r h q = by_record (recording w a v) q
  where
    by_record : (o : Option (List Write)) → (record_seen d a f t i o).answer ≡ Err e
        → LostOf c f (live i w) (record_seen d a f t i o)
    by_record (Some l) q = cc
    by_record None q = not_so Full _ e refl (λ z. cc) q h
lost_by c g (memory-call.Write d a v) f t doomed e r h q = gone c d f t r.0
lost_by c g (memory-call.Commit d) f t none e r h q = not_so NoTransaction _ e refl (λ z. cc) q h
lost_by c g (memory-call.Commit d) f t (live i w) e r h q = cc
lost_by c g (memory-call.Commit d) f t doomed e r h q = gone c d f t r.0
lost_by c g (memory-call.Drop d) f t x e r h q = absurd r
