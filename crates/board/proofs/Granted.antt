-- Nothing is refused without cause.
use Rattle.std.proofs.Common.{◌≡◌, ℕ, ◌<◌, Bool, true, false, cond, ltb, Some, None, Ok, Err, Option, Result, sym}
use Rattle.std.proofs.Common.{refl, ap, ◌∙◌, arith}
use Rattle.std.proofs.lemmas.Bool.{lt-ltb, ne_eqb}
use Rattle.memory.specs.declared.fault.MemoryFault.{MemoryFault}
use Rattle.memory.specs.declared.call.MemoryCall.{MemoryCall}
use Rattle.memory.specs.declared.call.MemoryCall.TheVariants as memory-call
use Rattle.memory.specs.Meaning.{Meaning, Outcome, none, standing, tx_of}
use Rattle.memory.specs.Calls.{performed}
use Rattle.stages.specs.declared.answer.Answer.{Answer}
use Rattle.stages.specs.declared.answer.Answer.TheVariants.{Done}
use Rattle.stages.specs.declared.stage.Mode.{Mode}
use Rattle.stages.specs.declared.stage.Mode.TheVariants.{Read, Write}
use Rattle.stages.specs.declared.stage.Addition.TheVariants.{A1}
use Rattle.stages.specs.declared.stage.Stage.{Stage}
use Rattle.stages.specs.declared.stage.Stage.TheVariants.{Idle, WriterEnters, ReaderEnters, Inside, Adds}
use Rattle.stages.specs.declared.stage.Stage.TheVariants.{WriterLeaves, ReaderLeaves}
use Rattle.stages.specs.Layout.{counter_cell}
use Rattle.stages.specs.Rows.{call_of, in_transaction}
use Rattle.lock.specs.declared.fault.LockFault.{LockFault}
use Rattle.lock.specs.declared.fault.LockFault.TheVariants.{NoCard, NotAllowed, NoPlace, NotFree}
use Rattle.lock.specs.declared.values.NodeValues.{NodeValues}
use Rattle.lock.specs.Lock.{Size, LockState, Turn, staged, refuses, free, stores, entry_stores, advanced}
use Rattle.lock.specs.Lock.{first_stage, enter_by, enter_at, inside_by, leave_at, add_at, count_by, show_at, drop_by}
use Rattle.lock.specs.Lock.{step_by, abort_by, reuse_stores, reuse_by, reuse_at}
use Rattle.door.specs.declared.fault.DoorFault.TheVariants.{Malformed}
use Rattle.door.specs.declared.request.Request.{Request}
use Rattle.door.specs.declared.request.Request.TheVariants.{Enter, Leave, Add, Show}
use Rattle.door.specs.declared.call.Call.{Call}
use Rattle.door.specs.declared.call.Call.TheVariants as call
use Rattle.door.specs.Door.{called, told, served, worded, understood, memo_of}
use Rattle.board.specs.Book.{Book, accepted, deed, plain, lined, summed, new_request, taken_request}
use Rattle.board.specs.Promise.{stage, Free}
use Rattle.board.specs.Answers.{kind_of, first_of, second_of, Fits, Grants}
use Rattle.board.proofs.Ranges.{Within}
use Rattle.board.proofs.Held.{in_tx}
use Rattle.board.proofs.Inv.{Inv}
use Rattle.board.proofs.Model.{Out}
use Rattle.board.proofs.Bridge.{bridge}
use Rattle.board.proofs.Rows.{row, row_inside, recorded}
use Rattle.board.proofs.Isolation.{outside, load_accepted, drop_accepted}
use Rattle.board.proofs.Frames.{entry_within, reuse_within}
use Rattle.board.proofs.Told.{row_told}
use Rattle.board.proofs.Untouched.{node_stores}

-- the numbers of a request make it
understood_is : (t : ℕ) (w : Request) → t < 2 → understood t (kind_of w) (first_of w) (second_of w) ≡ Ok w
understood_is t w lt =
    ap (λ (q : Bool). cond q (worded (kind_of w) (first_of w) (second_of w)) (Err Malformed)) (lt-ltb t 2 lt) ∙ is w
  where
    is : (w : Request) → worded (kind_of w) (first_of w) (second_of w) ≡ Ok w
    is (Enter Read n) = refl
    is (Enter Write n) = refl
    is Leave = refl
    is (Add k a) = refl
    is (Show k) = refl

-- the door's answer is the lock's
accepted_told : (r : Result Answer LockFault) → accepted (told r) ≡ accepted r
accepted_told (Ok a) = refl
accepted_told (Err f) = refl

-- a card that is neither idle nor inside has a row
has_row : (N c : ℕ) (g : Stage) → (g ≡ Idle → ⊥) → ((i : ℕ) (o : Mode) → g ≡ Inside i o → ⊥)
    → (k : MemoryCall) × (call_of N c g ≡ Some k)
has_row N c Idle n h = absurd (n refl)
has_row N c (WriterEnters i p) n h = (_, refl)
has_row N c (ReaderEnters i p) n h = (_, refl)
has_row N c (Inside i o) n h = absurd (h i o refl)
has_row N c (Adds i p) n h = (_, refl)
has_row N c (WriterLeaves i p) n h = (_, refl)
has_row N c (ReaderLeaves i p) n h = (_, refl)

-- A card c that there is, on a book that keeps the invariant.
module _ (z : Size) (W : Within z) (b : Book) (I : Inv z b) (c : ℕ) (lt : c < z.cards) where
  abbrev s : LockState
  s = b.board.lock

  abbrev F : ℕ → ℕ
  F = standing s.meaning

  -- a turn of the card is not refused for want of the card
  there : (p : Turn) → accepted (cond (ltb c z.cards) p (refuses s NoCard)).0 ≡ accepted p.0
  there p = ap (λ (q : Bool). accepted (cond q p (refuses s NoCard)).0) (lt-ltb c z.cards lt)

  -- a turn on a node that is there and free
  on_node : (k : ℕ) (p : Turn) → k < z.nodes → Free b k
      → accepted (cond (ltb k z.nodes) (cond (free s.cards k) p (refuses s NotFree)) (refuses s NoPlace)).0
      ≡ accepted p.0
  on_node k p lk fr =
      ap (λ (q : Bool). accepted (cond q (cond (free s.cards k) p (refuses s NotFree)) (refuses s NoPlace)).0)
      (lt-ltb k z.nodes lk)
      ∙ ap (λ (q : Bool). accepted (cond q p (refuses s NotFree)).0) fr

  -- a turn on a counter that is there
  on_counter : (k : ℕ) (p : Turn) → k < z.counters
      → accepted (cond (ltb k z.counters) p (refuses s NoPlace)).0 ≡ accepted p.0
  on_counter k p lk = ap (λ (q : Bool). accepted (cond q p (refuses s NoPlace)).0) (lt-ltb k z.counters lk)

  -- a leave is accepted
  leaves : (i : ℕ) (o : Mode) → accepted (leave_at s c i o).0 ≡ true
  leaves i Read = refl
  leaves i Write = refl

  -- a card inside is outside of a transaction
  inside_out : (i : ℕ) (o : Mode) → stage b c ≡ Inside i o → in_tx (stage b c) ≡ false
  inside_out i Read e = ap in_tx e
  inside_out i Write e = ap in_tx e

  -- a show is one load, which is accepted
  loads : (k i : ℕ) (o : Mode) → k < z.counters → stage b c ≡ Inside i o
      → (performed s.meaning (memory-call.Load c (counter_cell z.nodes k))).answer
      ≡ Ok (F (counter_cell z.nodes k))
  loads k i o lk e =
      let x = counter_cell z.nodes k in
      let u = W.cards in let v = W.nodes in let w = W.counters in
      let B = bridge s.meaning I.kept.cells I.kept.txs c (omega arith) (memory-call.Load c x)
      (refl, omega arith) (recorded z.nodes z.counters F (stage b c) (tx_of s.meaning c) v
      (I.kept.sound c) (I.kept.isolated.agrees c)) in
      B.answer ∙ ap (λ (o : Out). o.answer)
      (load_accepted F (tx_of s.meaning) (stage b) I.kept.isolated c x (inside_out i o e))

  -- a request that has what it needs is accepted
  accepts : (w : Request) → Fits z b c w → accepted (served z s c w).0 ≡ true
  accepts (Enter o k) h =
      let D = node_stores z W b I c k lt h.1 h.0 (entry_stores k o) (entry_within k o) in
      there (enter_at z s c o k (stage b c))
      ∙ ap (λ (g : Stage). accepted (enter_at z s c o k g).0) h.0
      ∙ on_node k (enter_by s c (first_stage k o) (stores c (entry_stores k o) s.meaning)) h.1 h.2
      ∙ ap (λ (p : Result (Unit {0}) LockFault × Meaning). accepted (enter_by s c (first_stage k o) p).0) D.1.done
  accepts Leave h =
      there (inside_by s (leave_at s c) (stage b c))
      ∙ ap (λ (g : Stage). accepted (inside_by s (leave_at s c) g).0) h.2 ∙ leaves h.0 h.1
  accepts (Add k a) h =
      there (inside_by s (add_at z s c k a) (stage b c))
      ∙ ap (λ (g : Stage). accepted (inside_by s (add_at z s c k a) g).0) h.1.1
      ∙ on_counter k (Ok Done, staged s s.meaning c (Adds h.1.0 (A1 k a))) h.0
  accepts (Show k) h =
      let O : Outcome ℕ = performed s.meaning (memory-call.Load c (counter_cell z.nodes k)) in
      there (inside_by s (show_at z s c k) (stage b c))
      ∙ ap (λ (g : Stage). accepted (inside_by s (show_at z s c k) g).0) h.1.2
      ∙ on_counter k (count_by s O.answer O.after) h.0
      ∙ ap (λ (r : Result ℕ MemoryFault). accepted (count_by s r O.after).0)
      (loads k h.1.0 h.1.1 h.0 h.1.2)

  -- it is taken
  request_granted : (t k x y : ℕ) (w : Request) → t < 2 → ((memo_of b.board c).toggle ≡ t → ⊥) → k ≡ kind_of w
      → x ≡ first_of w → y ≡ second_of w → Fits z b c w → taken_request z b.board c t k x y ≡ Some w
  request_granted t k x y w l n p q r h =
      ap (λ (k : ℕ). taken_request z b.board c t k x y) p
      ∙ ap (λ (x : ℕ). taken_request z b.board c t (kind_of w) x y) q
      ∙ ap (λ (y : ℕ). taken_request z b.board c t (kind_of w) (first_of w) y) r
      ∙ ap (λ (a : Bool). cond a
      (new_request z b.board c t (understood t (kind_of w) (first_of w) (second_of w))) None)
      (lt-ltb c z.cards lt)
      ∙ ap (new_request z b.board c t) (understood_is t w l)
      ∙ ap (λ (a : Bool). cond a None (cond (accepted (served z s c w).0) (Some w) None)) (ne_eqb _ _ n)
      ∙ ap (λ (a : Bool). cond a (Some w) None) (accepts w h)

  -- a step
  step_granted : (stage b c ≡ Idle → ⊥) → ((i : ℕ) (o : Mode) → stage b c ≡ Inside i o → ⊥)
      → accepted (called z b.board (call.Step c)).0 ≡ true
  unfolding called
  step_granted n h =
      let R = has_row z.nodes c (stage b c) n h in
      accepted_told _ ∙ there (step_by s c (call_of z.nodes c (stage b c)))
      ∙ ap (λ (o : Option MemoryCall). accepted (step_by s c o).0) R.1
      ∙ ap accepted (row_told z W b I c R.0 lt R.1 (stepped_book R.0)
      (record { lock = refl; finished = refl; line = refl })).1
    where
      stepped_book : MemoryCall → Book
      stepped_book k =
          let o = performed s.meaning k in
          let d = cond (accepted o.answer) (deed (stage b c)) plain in record {
            board = record {
              lock = staged s o.after c (advanced (stage b c) o.answer).0;
              memos = b.board.memos;
            };
            line = lined c d b.line;
            finished = summed c d b.finished;
            joinings = b.joinings;
            entries = b.entries;
            asked = b.asked;
          }

  -- a drop inside of a transaction is accepted
  drops : in_tx (stage b c) ≡ true → (performed s.meaning (memory-call.Drop c)).answer ≡ Ok 0
  drops i =
      let u = W.cards in
      let B = bridge s.meaning I.kept.cells I.kept.txs c (omega arith) (memory-call.Drop c) refl
      (recorded z.nodes z.counters F (stage b c) (tx_of s.meaning c) W.nodes (I.kept.sound c)
      (I.kept.isolated.agrees c)) in
      B.answer ∙ ap (λ (o : Out). o.answer) (drop_accepted F (tx_of s.meaning) (stage b) I.kept.isolated c i)

  -- an abort inside of a transaction
  abort_inside : in_tx (stage b c) ≡ true → accepted (called z b.board (call.Abort c)).0 ≡ true
  unfolding called
  abort_inside i =
      let R = has_row z.nodes c (stage b c) (λ e. unlike (sym i ∙ ap in_tx e))
      (λ j o e. unlike (sym i ∙ inside_out j o e)) in
      let O = performed s.meaning (memory-call.Drop c) in
      let T : in_transaction R.0 ≡ true
      = row_inside c (stage b c) R.0
      (row z.nodes z.counters c (stage b c) (I.kept.sound c) R.0 R.1) ∙ i in
      accepted_told _ ∙ there (abort_by s c (call_of z.nodes c (stage b c)))
      ∙ ap (λ (o : Option MemoryCall). accepted (abort_by s c o).0) R.1
      ∙ ap (λ (a : Bool). accepted (cond a (drop_by s c O.answer O.after) (refuses s NotAllowed)).0) T
      ∙ ap (λ (r : Result ℕ MemoryFault). accepted (drop_by s c r O.after).0) (drops i)
    where
      unlike : true ≡ false → ⊥
      unlike e = grind arith

  -- an abort
  abort_granted : (tx_of s.meaning c ≡ none → ⊥) → accepted (called z b.board (call.Abort c)).0 ≡ true
  abort_granted n = by_tx (in_tx (stage b c)) refl
    where
      by_tx : (a : Bool) → in_tx (stage b c) ≡ a → accepted (called z b.board (call.Abort c)).0 ≡ true
      by_tx true i = abort_inside i
      by_tx false i = absurd (n (outside F (stage b c) (tx_of s.meaning c) i (I.kept.isolated.agrees c)))

  -- a reuse
  reuse_granted : (k : ℕ) (v : NodeValues) → stage b c ≡ Idle → k < z.nodes → Free b k
      → accepted (called z b.board (call.Reuse c k v)).0 ≡ true
  unfolding called
  reuse_granted k v e lk fr =
      let D = node_stores z W b I c k lt lk e (reuse_stores k v) (reuse_within k v) in
      accepted_told _ ∙ there (reuse_at z s c k v (stage b c))
      ∙ ap (λ (g : Stage). accepted (reuse_at z s c k v g).0) e
      ∙ on_node k (reuse_by s (stores c (reuse_stores k v) s.meaning)) lk fr
      ∙ ap (λ (p : Result (Unit {0}) LockFault × Meaning). accepted (reuse_by s p).0) D.1.done

-- no call is refused without cause
pub all_granted : (z : Size) (W : Within z) (b : Book) (I : Inv z b) (k : Call)
    → Grants z k b.board b (called z b.board k).0
all_granted z W b I (call.Request c t k x y) = λ w lt. request_granted z W b I c lt t k x y w
all_granted z W b I (call.Step c) = λ lt. step_granted z W b I c lt
all_granted z W b I (call.Abort c) = λ lt. abort_granted z W b I c lt
all_granted z W b I (call.Reuse c k v) = λ lt. reuse_granted z W b I c lt k v
