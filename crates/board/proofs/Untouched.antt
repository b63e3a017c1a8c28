-- A free node's cells: no call changes them, but a reuse of that very node.
use Rattle.std.proofs.Common.{◌≡◌, ℕ, suc, ◌<◌, true, ltb, List, length, get_or, Some, None, Ok, Err, Option, Result}
use Rattle.std.proofs.Common.{sym, refl, ap, ◌∙◌, subst, ⊎_elim, arith}
use Rattle.std.proofs.lemmas.Bool.{ltb-true, cond_both}
use Rattle.memory.specs.declared.fault.MemoryFault.{MemoryFault}
use Rattle.memory.specs.declared.fault.Refusal.TheVariants.{OutOfRange}
use Rattle.memory.specs.declared.call.MemoryCall.{MemoryCall}
use Rattle.memory.specs.declared.call.MemoryCall.TheVariants as memory-call
use Rattle.memory.specs.Meaning.{Meaning, Outcome, Tx, none, live, doomed, standing, tx_of, in_range, refused, load_at}
use Rattle.memory.specs.Meaning.{drop_at}
use Rattle.memory.specs.Calls.{performed}
use Rattle.stages.specs.declared.answer.Answer.TheVariants.{Done}
use Rattle.stages.specs.declared.layout.Field.{Field}
use Rattle.stages.specs.declared.layout.Field.TheVariants.{Next, Prev, State, Spin}
use Rattle.stages.specs.declared.stage.Mode.{Mode}
use Rattle.stages.specs.declared.stage.Mode.TheVariants.{Read, Write}
use Rattle.stages.specs.declared.stage.Addition.TheVariants.{A1}
use Rattle.stages.specs.declared.stage.Stage.{Stage}
use Rattle.stages.specs.declared.stage.Stage.TheVariants.{Idle, WriterEnters, ReaderEnters, Inside, Adds}
use Rattle.stages.specs.declared.stage.Stage.TheVariants.{WriterLeaves, ReaderLeaves}
use Rattle.stages.specs.Layout.{node_cell, counter_cell}
use Rattle.stages.specs.Rows.{call_of, in_transaction}
use Rattle.lock.specs.declared.fault.LockFault.{LockFault}
use Rattle.lock.specs.declared.fault.LockFault.TheVariants.{NoCard, NotAllowed, NoPlace, NotFree}
use Rattle.lock.specs.declared.values.NodeValues.{NodeValues}
use Rattle.lock.specs.Lock.{Size, LockState, Turn, stage_of, staged, refuses, free, stores, entry_stores, first_stage}
use Rattle.lock.specs.Lock.{enter_by, enter_at, inside_by, leave_at, add_at, count_by, show_at, drop_by, abort_by}
use Rattle.lock.specs.Lock.{reuse_stores, reuse_by, reuse_at}
use Rattle.door.specs.declared.request.Request.{Request}
use Rattle.door.specs.declared.request.Request.TheVariants.{Enter, Leave, Add, Show}
use Rattle.door.specs.declared.call.Call.{Call}
use Rattle.door.specs.declared.call.Call.TheVariants as call
use Rattle.door.specs.Door.{called, served}
use Rattle.board.specs.Book.{Book, after}
use Rattle.board.specs.Promise.{cells_of, NoReuse, Untouched}
use Rattle.board.specs.Recounts.{Spares, LeavesFree}
use Rattle.board.proofs.Ranges.{Within}
use Rattle.board.proofs.Views.{view, link}
use Rattle.board.proofs.Held.{in_tx}
use Rattle.board.proofs.Inv.{cards_of, Inv}
use Rattle.board.proofs.Effects.{step_unheld}
use Rattle.board.proofs.Frames as frames
use Rattle.board.proofs.Frames.{stored, AllWithin, stored_other, entry_within, reuse_within, free_unheld}
use Rattle.board.proofs.Lists.{by_test}
use Rattle.board.proofs.Turns.{moved_same, request_cases, step_cases}
use Rattle.board.proofs.Stores.{Stored, stores_done, within_below}
use Rattle.board.proofs.Wakes.{row_seen}

-- Calls that change no cell.

-- a load, accepted or not
load_cells : (m : Meaning) (c a : ℕ) → (performed m (memory-call.Load c a)).after.cells ≡ m.cells
unfolding performed
load_cells m c a = by_test (λ (o : Outcome ℕ). o.after.cells ≡ m.cells) (in_range c a)
    (load_at m c a (tx_of m c)) (refused OutOfRange c a m) (by_tx (tx_of m c)) refl
  where
    by_tx : (x : Tx) → (load_at m c a x).after.cells ≡ m.cells
    by_tx none = refl
    by_tx (live r w) = refl
    by_tx doomed = refl

-- a drop, accepted or not
drop_cells : (m : Meaning) (c : ℕ) → (performed m (memory-call.Drop c)).after.cells ≡ m.cells
unfolding performed
drop_cells m c = by_test (λ (o : Outcome (Unit {0})). o.after.cells ≡ m.cells) (in_range c 0)
    (drop_at m c (tx_of m c)) (refused OutOfRange c 0 m) (by_tx (tx_of m c)) refl
  where
    by_tx : (x : Tx) → (drop_at m c x).after.cells ≡ m.cells
    by_tx none = refl
    by_tx (live r w) = refl
    by_tx doomed = refl

-- an abort, whoever asks
abort_cells : (z : Size) (b : Book) (c : ℕ) → cells_of (after z b (call.Abort c)) ≡ cells_of b
unfolding called
abort_cells z b c =
    by_test Same (ltb c z.cards) (abort_by s c (call_of z.nodes c (stage_of s c))) (refuses s NoCard)
    (by_call (call_of z.nodes c (stage_of s c))) refl
  where
    s : LockState
    s = b.board.lock

    Same : Turn → Type 0
    Same t = t.1.meaning.cells ≡ cells_of b

    by_answer : (r : Result ℕ MemoryFault) → Same (drop_by s c r (performed s.meaning (memory-call.Drop c)).after)
    by_answer (Ok v) = drop_cells s.meaning c
    by_answer (Err f) = drop_cells s.meaning c

    by_call : (o : Option MemoryCall) → Same (abort_by s c o)
    by_call None = refl
    by_call (Some k) = by_test Same (in_transaction k)
        (drop_by s c (performed s.meaning (memory-call.Drop c)).answer
        (performed s.meaning (memory-call.Drop c)).after)
        (refuses s NotAllowed) (by_answer (performed s.meaning (memory-call.Drop c)).answer) refl

-- the cells of two nodes are apart
other_node : (k n : ℕ) (x : Field) → (k ≡ n → ⊥) → frames.Within k (node_cell n x) → ⊥
other_node k n Next h w = let p = w.0 in let q = w.1 in h (omega arith)
other_node k n Prev h w = let p = w.0 in let q = w.1 in h (omega arith)
other_node k n State h w = let p = w.0 in let q = w.1 in h (omega arith)
other_node k n Spin h w = let p = w.0 in let q = w.1 in h (omega arith)

-- a card that enters has its node
first_link : (k : ℕ) (m : Mode) → link (view (first_stage k m)) ≡ suc k
first_link k Read = refl
first_link k Write = refl

-- stores of an idle card into a node's cells are all accepted
pub node_stores : (z : Size) → Within z → (b : Book) → Inv z b → (c k : ℕ) → c < z.cards → k < z.nodes
    → stage_of b.board.lock c ≡ Idle → (ws : List (ℕ × ℕ)) → AllWithin k ws
    → (o : Meaning) × Stored c (stage_of b.board.lock) ws b.board.lock.meaning o
node_stores z W b I c k lt lk e ws h = let u = W.cards in let v = W.nodes in
    stores_done c (stage_of b.board.lock) (omega arith) (ap in_tx e) ws (within_below k ws (omega arith) h)
    b.board.lock.meaning I.kept.cells I.kept.txs I.kept.isolated

-- A request on a book that keeps the invariant, and a cell of a node that is free before and after it.

module _ (z : Size) (W : Within z) (b : Book) (I : Inv z b) (n : ℕ) (x : Field) where
  -- the lock before the call, and its standing values
  abbrev s : LockState
  s = b.board.lock

  abbrev F : ℕ → ℕ
  F = standing s.meaning

  -- the cell stands as it did, if the node is free
  abbrev Keeps : LockState → Type 0
  Keeps t = free t.cards n ≡ true → standing t.meaning (node_cell n x) ≡ F (node_cell n x)

  -- an enter stores into its own node alone, which is not free then
  entered_keeps : (c k : ℕ) (m : Mode) → c < z.cards → (o : Meaning) → standing o ≡ stored (entry_stores k m) F
      → Keeps (staged s o c (first_stage k m))
  entered_keeps c k m lt o h free_after =
      ap (λ (f : ℕ → ℕ). f (node_cell n x)) h
      ∙ stored_other F k (node_cell n x) (entry_stores k m) (entry_within k m) (other_node k n x apart)
    where
      t : LockState
      t = staged s o c (first_stage k m)

      long : c < length s.cards
      long = let w = W.cards in let l = I.kept.cards in omega arith

      apart : k ≡ n → ⊥
      apart e = free_unheld t n free_after c
          (ap (λ (g : Stage). link (view g)) (moved_same s t c (first_stage k m) long refl)
          ∙ first_link k m ∙ ap suc e)

  -- by the card's stage
  enter_keeps : (c k : ℕ) (m : Mode) → c < z.cards → (g : Stage) → stage_of s c ≡ g → Keeps (enter_at z s c m k g).1
  enter_keeps c k m lt Idle e =
      cond_both (ltb k z.nodes) _ (refuses s NoPlace) (λ (t : Turn). Keeps t.1)
      (λ q. by_test (λ (t : Turn). Keeps t.1) (free s.cards k)
      (enter_by s c (first_stage k m) (stores c (entry_stores k m) s.meaning)) (refuses s NotFree)
      (let D = node_stores z W b I c k lt (ltb-true k z.nodes q) e (entry_stores k m) (entry_within k m) in
      subst (λ (p : Result (Unit {0}) LockFault × Meaning). Keeps (enter_by s c (first_stage k m) p).1)
      (sym D.1.done)
      (entered_keeps c k m lt D.0 D.1.stands))
      (λ _. refl))
      (λ q _. refl)
  enter_keeps c k m lt (WriterEnters i at) e = λ _. refl
  enter_keeps c k m lt (ReaderEnters i at) e = λ _. refl
  enter_keeps c k m lt (Inside i j) e = λ _. refl
  enter_keeps c k m lt (Adds i at) e = λ _. refl
  enter_keeps c k m lt (WriterLeaves i at) e = λ _. refl
  enter_keeps c k m lt (ReaderLeaves i at) e = λ _. refl

  -- a card inside, by what it does there
  inside_keeps : (k : ℕ → Mode → Turn) (g : Stage) → ((i : ℕ) (m : Mode) → Keeps (k i m).1)
      → Keeps (inside_by s k g).1
  inside_keeps k Idle h = λ _. refl
  inside_keeps k (WriterEnters i at) h = λ _. refl
  inside_keeps k (ReaderEnters i at) h = λ _. refl
  inside_keeps k (Inside i m) h = h i m
  inside_keeps k (Adds i at) h = λ _. refl
  inside_keeps k (WriterLeaves i at) h = λ _. refl
  inside_keeps k (ReaderLeaves i at) h = λ _. refl

  -- a leave and an add store nothing
  leave_keeps : (c i : ℕ) (m : Mode) → Keeps (leave_at s c i m).1
  leave_keeps c i Read = λ _. refl
  leave_keeps c i Write = λ _. refl

  add_keeps : (c k a i : ℕ) (m : Mode) → Keeps (add_at z s c k a i m).1
  add_keeps c k a i Read = λ _. refl
  add_keeps c k a i Write = by_test (λ (t : Turn). Keeps t.1) (ltb k z.counters)
      (Ok Done, staged s s.meaning c (Adds i (A1 k a))) (refuses s NoPlace) (λ _. refl) (λ _. refl)

  -- a show is one load
  show_keeps : (c k i : ℕ) (m : Mode) → Keeps (show_at z s c k i m).1
  show_keeps c k i m = by_test (λ (t : Turn). Keeps t.1) (ltb k z.counters)
      (count_by s (performed s.meaning load).answer (performed s.meaning load).after) (refuses s NoPlace)
      (by_answer (performed s.meaning load).answer) (λ _. refl)
    where
      load : MemoryCall
      load = memory-call.Load c (counter_cell z.nodes k)

      same : standing (performed s.meaning load).after (node_cell n x) ≡ F (node_cell n x)
      same = ap (λ (l : List ℕ). get_or l (node_cell n x) 0) (load_cells s.meaning c (counter_cell z.nodes k))

      by_answer : (r : Result ℕ MemoryFault) → Keeps (count_by s r (performed s.meaning load).after).1
      by_answer (Ok v) = λ _. same
      by_answer (Err f) = λ _. same

  -- a request that the lock judges
  served_keeps : (c : ℕ) (w : Request) → c < z.cards → Keeps (served z s c w).1
  served_keeps c (Enter m k) lt = by_test (λ (t : Turn). Keeps t.1) (ltb c z.cards)
      (enter_at z s c m k (stage_of s c)) (refuses s NoCard) (enter_keeps c k m lt (stage_of s c) refl) (λ _. refl)
  served_keeps c Leave lt = by_test (λ (t : Turn). Keeps t.1) (ltb c z.cards)
      (inside_by s (leave_at s c) (stage_of s c)) (refuses s NoCard)
      (inside_keeps (leave_at s c) (stage_of s c) (leave_keeps c)) (λ _. refl)
  served_keeps c (Add k a) lt = by_test (λ (t : Turn). Keeps t.1) (ltb c z.cards)
      (inside_by s (add_at z s c k a) (stage_of s c)) (refuses s NoCard)
      (inside_keeps (add_at z s c k a) (stage_of s c) (add_keeps c k a)) (λ _. refl)
  served_keeps c (Show k) lt = by_test (λ (t : Turn). Keeps t.1) (ltb c z.cards)
      (inside_by s (show_at z s c k) (stage_of s c)) (refuses s NoCard)
      (inside_keeps (show_at z s c k) (stage_of s c) (show_keeps c k)) (λ _. refl)

  -- a reuse of another node stores into that one alone, by the card's stage
  reuse_keeps : (c k : ℕ) (v : NodeValues) → (k ≡ n → ⊥) → c < z.cards → (g : Stage) → stage_of s c ≡ g
      → Keeps (reuse_at z s c k v g).1
  reuse_keeps c k v o lt Idle e =
      cond_both (ltb k z.nodes) _ (refuses s NoPlace) (λ (t : Turn). Keeps t.1)
      (λ q. by_test (λ (t : Turn). Keeps t.1) (free s.cards k)
      (reuse_by s (stores c (reuse_stores k v) s.meaning)) (refuses s NotFree)
      (let D = node_stores z W b I c k lt (ltb-true k z.nodes q) e (reuse_stores k v) (reuse_within k v) in
      subst (λ (p : Result (Unit {0}) LockFault × Meaning). Keeps (reuse_by s p).1) (sym D.1.done)
      (λ _. ap (λ (f : ℕ → ℕ). f (node_cell n x)) D.1.stands
      ∙ stored_other F k (node_cell n x) (reuse_stores k v) (reuse_within k v) (other_node k n x o)))
      (λ _. refl))
      (λ q _. refl)
  reuse_keeps c k v o lt (WriterEnters i at) e = λ _. refl
  reuse_keeps c k v o lt (ReaderEnters i at) e = λ _. refl
  reuse_keeps c k v o lt (Inside i j) e = λ _. refl
  reuse_keeps c k v o lt (Adds i at) e = λ _. refl
  reuse_keeps c k v o lt (WriterLeaves i at) e = λ _. refl
  reuse_keeps c k v o lt (ReaderLeaves i at) e = λ _. refl

  -- a step
  step_keeps : (c : ℕ) → n < z.nodes → free s.cards n ≡ true
      → standing (after z b (call.Step c)).board.lock.meaning (node_cell n x) ≡ F (node_cell n x)
  step_keeps c lt fr = ⊎_elim (λ q. ap (λ (t : LockState). standing t.meaning (node_cell n x)) q.0)
      (λ q. ap (λ (t : LockState). standing t.meaning (node_cell n x)) q.3
      ∙ ap (λ (f : ℕ → ℕ). f (node_cell n x)) (row_seen z W b I c q.0 q.1 q.2).cell
      ∙ step_unheld c z.nodes F (tx_of s.meaning) (stage_of s) (cards_of b.line) q.0 q.2
      I.kept.line (I.kept.isolated.agrees c) n lt (free_unheld s n fr) x)
      (step_cases z b.board c)

-- a reuse of another node
reused_keeps : (z : Size) (W : Within z) (b : Book) (I : Inv z b) (n : ℕ) (x : Field) (c k : ℕ) (v : NodeValues)
    → (k ≡ n → ⊥) → Keeps z W b I n x (called z b.board (call.Reuse c k v)).1.lock
unfolding called
reused_keeps z W b I n x c k v h =
    cond_both (ltb c z.cards) (reuse_at z b.board.lock c k v (stage_of b.board.lock c))
    (refuses b.board.lock NoCard) (λ (t : Turn). Keeps z W b I n x t.1)
    (λ q. reuse_keeps z W b I n x c k v h (ltb-true c z.cards q) (stage_of b.board.lock c) refl)
    (λ q _. refl)

-- no call but a reuse of the node changes a cell of a node that is free before and after it
pub leaves_free : (z : Size) → Within z → (b : Book) → Inv z b → (k : Call)
    → LeavesFree z k (cells_of b) (cells_of (after z b k)) b (after z b k)
leaves_free z W b I (call.Request c t k a y) n lt h fr fr-after x =
    request_cases z b.board c t k a y (λ (u : LockState) (o : Option Request). Keeps z W b I n x u) (λ _. refl)
    (λ w lt e. served_keeps z W b I n x c w lt) (λ w lt e. served_keeps z W b I n x c w lt) fr-after
leaves_free z W b I (call.Step c) n lt h fr fr-after x = step_keeps z W b I n x c lt fr
leaves_free z W b I (call.Abort c) n lt h fr fr-after x =
    ap (λ (l : List ℕ). get_or l (node_cell n x) 0) (abort_cells z b c)
leaves_free z W b I (call.Reuse c k v) n lt h fr fr-after x = reused_keeps z W b I n x c k v h fr-after

-- a call that is no reuse is none of any node
spares : (k : Call) (n : ℕ) → NoReuse k → Spares k n
spares (call.Request c t k x y) n h = tt
spares (call.Step c) n h = tt
spares (call.Abort c) n h = tt
spares (call.Reuse c m v) n h = absurd h

-- no request, step or abort changes a cell of a node that is free before and after it
pub untouched : (z : Size) → Within z → (b : Book) → Inv z b → (k : Call)
    → Untouched z k (cells_of b) (cells_of (after z b k)) b (after z b k)
untouched z W b I k h n lt fr fr-after = leaves_free z W b I k n lt (spares k n h) fr fr-after
