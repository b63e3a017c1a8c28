-- What each call does to the cards' records: it moves its own card, by the table or as the request says, or none.
use Rattle.std.proofs.Common.{◌≡◌, ℕ, ◌<◌, Bool, true, false, cond, eqb, ltb, ◌⊎◌, List, length, set, Some, None, Ok}
use Rattle.std.proofs.Common.{Err, Option, Result, refl, ap, ◌∙◌, inl, inr, arith}
use Rattle.std.proofs.lemmas.List.{get_or-set_same, get_or-set_other}
use Rattle.std.proofs.lemmas.Bool.{ltb-true, lt-ltb}
use Rattle.memory.specs.declared.fault.MemoryFault.{MemoryFault}
use Rattle.memory.specs.declared.call.MemoryCall.{MemoryCall}
use Rattle.memory.specs.declared.call.MemoryCall.TheVariants as memory-call
use Rattle.memory.specs.Meaning.{Meaning}
use Rattle.memory.specs.Calls.{performed}
use Rattle.stages.specs.declared.answer.Answer.{Answer}
use Rattle.stages.specs.declared.answer.Answer.TheVariants.{Done}
use Rattle.stages.specs.declared.stage.Mode.{Mode}
use Rattle.stages.specs.declared.stage.Mode.TheVariants.{Read, Write}
use Rattle.stages.specs.declared.stage.Addition.TheVariants.{A1}
use Rattle.stages.specs.declared.stage.WriterExit.TheVariants.{X1}
use Rattle.stages.specs.declared.stage.ReaderExit.TheVariants.{Y1}
use Rattle.stages.specs.declared.stage.Stage.{Stage}
use Rattle.stages.specs.declared.stage.Stage.TheVariants.{Idle, WriterEnters, ReaderEnters, Inside, Adds}
use Rattle.stages.specs.declared.stage.Stage.TheVariants.{WriterLeaves, ReaderLeaves}
use Rattle.stages.specs.declared.stage.Card.{Card}
use Rattle.stages.specs.Layout.{counter_cell}
use Rattle.stages.specs.Rows.{call_of, begin_of, in_transaction}
use Rattle.lock.specs.declared.fault.LockFault.{LockFault}
use Rattle.lock.specs.declared.fault.LockFault.TheVariants.{NoCard, NotAllowed, NoPlace, NotFree}
use Rattle.lock.specs.declared.values.NodeValues.{NodeValues}
use Rattle.lock.specs.Lock.{Size, LockState, Turn, stage_of, staged, refuses, free, idle_card, advanced}
use Rattle.lock.specs.Lock.{step_by, drop_by, abort_by, stores, entry_stores, first_stage, enter_by, enter_at}
use Rattle.lock.specs.Lock.{inside_by, leave_at, add_at, count_by, show_at, reuse_stores, reuse_by, reuse_at}
use Rattle.door.specs.declared.fault.DoorFault.{DoorFault}
use Rattle.door.specs.declared.fault.DoorFault.TheVariants.{Lock}
use Rattle.door.specs.declared.request.Request.{Request}
use Rattle.door.specs.declared.request.Request.TheVariants.{Enter, Leave, Add, Show}
use Rattle.door.specs.declared.call.Call.TheVariants as call
use Rattle.door.specs.Door.{DoorState, called, judged, noted, resent, told, memo_of, understood, served}
use Rattle.board.proofs.Lists.{by_test}
use Rattle.board.specs.Book.{Deed, plain, deed, deed_by, step_deed, accepted, new_request, taken_request}

-- a table with another stage for a card
abbrev pub moved : LockState → ℕ → Stage → List Card
moved s c g = set s.cards c (record { stage = g })

-- the stage of the card that was moved
pub moved_same : (s : LockState) (t : LockState) (c : ℕ) (g : Stage) → c < length s.cards
    → t.cards ≡ moved s c g → stage_of t c ≡ g
moved_same s t c g lt e = ap (λ (l : List Card). stage_of (record { meaning = t.meaning; cards = l }) c) e
    ∙ ap (λ (r : Card). r.stage) (get_or-set_same s.cards c (record { stage = g }) idle_card lt)

-- the stage of every other card
pub moved_other : (s : LockState) (t : LockState) (c d : ℕ) (g : Stage) → (d ≡ c → ⊥)
    → t.cards ≡ moved s c g → stage_of t d ≡ stage_of s d
moved_other s t c d g n e = ap (λ (l : List Card). stage_of (record { meaning = t.meaning; cards = l }) d) e
    ∙ ap (λ (r : Card). r.stage) (get_or-set_other s.cards c d (record { stage = g }) idle_card n)

-- the stage of a card where nobody was moved
pub same_stage : (s : LockState) (t : LockState) (d : ℕ) → t.cards ≡ s.cards → stage_of t d ≡ stage_of s d
same_stage s t d e = ap (λ (l : List Card). stage_of (record { meaning = t.meaning; cards = l }) d) e

-- Requests.

-- where a request that the lock takes moves its card from and to
abbrev pub Taken : Request → Stage → Stage → Type 0
Taken (Enter m n) g h = (g ≡ Idle) × (h ≡ first_stage n m)
Taken Leave g h =
    (n : ℕ) × (((g ≡ Inside n Read) × (h ≡ ReaderLeaves n Y1)) ⊎ ((g ≡ Inside n Write) × (h ≡ WriterLeaves n X1)))
Taken (Add k a) g h = (n : ℕ) × (g ≡ Inside n Write) × (h ≡ Adds n (A1 k a))
Taken (Show k) g h = ⊥

-- a request that moves nobody
abbrev pub Shows : Request → Type 0
Shows (Enter m n) = ⊥
Shows Leave = ⊥
Shows (Add k a) = ⊥
Shows (Show k) = Unit {0}

-- what a request does to the records: nothing, or it is taken
abbrev pub Served : LockState → ℕ → Request → Turn → Type 0
Served s c w t = ((t.1.cards ≡ s.cards) × (accepted t.0 ≡ true → Shows w))
    ⊎ ((g : Stage) × (t.1.cards ≡ moved s c g) × (accepted t.0 ≡ true) × Taken w (stage_of s c) g)

-- a refusal
refused : (s : LockState) (c : ℕ) (w : Request) (f : LockFault) → Served s c w (refuses s f)
refused s c w f = inl (refl, λ e. absurd (grind arith))

-- an enter, by whether its stores are accepted
entered_moves : (s : LockState) (c : ℕ) (m : Mode) (n : ℕ) → stage_of s c ≡ Idle
    → (r : Result (Unit {0}) LockFault) (o : Meaning) → Served s c (Enter m n) (enter_by s c (first_stage n m) (r, o))
entered_moves s c m n e (Ok u) o = inr (first_stage n m, refl, refl, (e, refl))
entered_moves s c m n e (Err f) o = inl (refl, λ e. absurd (grind arith))

-- an enter, by the card's stage
enter_moves : (z : Size) (s : LockState) (c : ℕ) (m : Mode) (n : ℕ) (g : Stage) → stage_of s c ≡ g
    → Served s c (Enter m n) (enter_at z s c m n g)
enter_moves z s c m n Idle e =
    by_test (Served s c (Enter m n)) (ltb n z.nodes) _ (refuses s NoPlace)
    (by_test (Served s c (Enter m n)) (free s.cards n) _ (refuses s NotFree)
    (entered_moves s c m n e (stores c (entry_stores n m) s.meaning).0
    (stores c (entry_stores n m) s.meaning).1)
    (refused s c (Enter m n) NotFree))
    (refused s c (Enter m n) NoPlace)
enter_moves z s c m n (WriterEnters k at) e = refused s c (Enter m n) NotAllowed
enter_moves z s c m n (ReaderEnters k at) e = refused s c (Enter m n) NotAllowed
enter_moves z s c m n (Inside k j) e = refused s c (Enter m n) NotAllowed
enter_moves z s c m n (Adds k at) e = refused s c (Enter m n) NotAllowed
enter_moves z s c m n (WriterLeaves k at) e = refused s c (Enter m n) NotAllowed
enter_moves z s c m n (ReaderLeaves k at) e = refused s c (Enter m n) NotAllowed

-- a request of a card inside, by the card's stage
inside_moves : (s : LockState) (c : ℕ) (w : Request) (k : ℕ → Mode → Turn) (g : Stage) → stage_of s c ≡ g
    → ((n : ℕ) (m : Mode) → stage_of s c ≡ Inside n m → Served s c w (k n m)) → Served s c w (inside_by s k g)
inside_moves s c w k Idle e h = refused s c w NotAllowed
inside_moves s c w k (WriterEnters n at) e h = refused s c w NotAllowed
inside_moves s c w k (ReaderEnters n at) e h = refused s c w NotAllowed
inside_moves s c w k (Inside n m) e h = h n m e
inside_moves s c w k (Adds n at) e h = refused s c w NotAllowed
inside_moves s c w k (WriterLeaves n at) e h = refused s c w NotAllowed
inside_moves s c w k (ReaderLeaves n at) e h = refused s c w NotAllowed

-- a leave
leave_moves : (s : LockState) (c n : ℕ) (m : Mode) → stage_of s c ≡ Inside n m → Served s c Leave (leave_at s c n m)
leave_moves s c n Read e = inr (ReaderLeaves n Y1, refl, refl, (n, inl (e, refl)))
leave_moves s c n Write e = inr (WriterLeaves n X1, refl, refl, (n, inr (e, refl)))

-- an add
add_moves : (z : Size) (s : LockState) (c k a n : ℕ) (m : Mode) → stage_of s c ≡ Inside n m
    → Served s c (Add k a) (add_at z s c k a n m)
add_moves z s c k a n Read e = refused s c (Add k a) NotAllowed
add_moves z s c k a n Write e = by_test (Served s c (Add k a)) (ltb k z.counters)
    (Ok Done, staged s s.meaning c (Adds n (A1 k a))) (refuses s NoPlace)
    (inr (Adds n (A1 k a), refl, refl, (n, e, refl))) (refused s c (Add k a) NoPlace)

-- a show
count_moves : (s : LockState) (c k : ℕ) (r : Result ℕ MemoryFault) (m : Meaning) → Served s c (Show k) (count_by s r m)
count_moves s c k (Ok v) m = inl (refl, λ _. tt)
count_moves s c k (Err f) m = inl (refl, λ _. tt)

-- what a request that the door lets through does to the records
pub served_moves : (z : Size) (s : LockState) (c : ℕ) (w : Request) → Served s c w (served z s c w)
served_moves z s c (Enter m n) = by_test (Served s c (Enter m n)) (ltb c z.cards) _ (refuses s NoCard)
    (enter_moves z s c m n (stage_of s c) refl) (refused s c (Enter m n) NoCard)
served_moves z s c Leave = by_test (Served s c Leave) (ltb c z.cards) _ (refuses s NoCard)
    (inside_moves s c Leave (leave_at s c) (stage_of s c) refl (λ n m e. leave_moves s c n m e))
    (refused s c Leave NoCard)
served_moves z s c (Add k a) = by_test (Served s c (Add k a)) (ltb c z.cards) _ (refuses s NoCard)
    (inside_moves s c (Add k a) (add_at z s c k a) (stage_of s c) refl (λ n m e. add_moves z s c k a n m e))
    (refused s c (Add k a) NoCard)
served_moves z s c (Show k) = by_test (Served s c (Show k)) (ltb c z.cards) _ (refuses s NoCard)
    (inside_moves s c (Show k) (show_at z s c k) (stage_of s c) refl
    (λ n m e. by_test (Served s c (Show k)) (ltb k z.counters) _ (refuses s NoPlace)
    (count_moves s c k (performed s.meaning (memory-call.Load c (counter_cell z.nodes k))).answer
    (performed s.meaning (memory-call.Load c (counter_cell z.nodes k))).after)
    (refused s c (Show k) NoPlace)))
    (refused s c (Show k) NoCard)

-- a request is refused at the door or a resend and does nothing, or the lock judges it: its answer, the lock's state
-- after it, and the request if it was taken
pub request_replies : (z : Size) (s : DoorState) (c t k x y : ℕ)
    (P : Result Answer DoorFault → LockState → Option Request → Type 0)
    → ((r : Result Answer DoorFault) → P r s.lock None)
    → ((w : Request) → c < z.cards → P (told (served z s.lock c w).0) (served z s.lock c w).1
    (cond (accepted (served z s.lock c w).0) (Some w) None))
    → P (called z s (call.Request c t k x y)).0 (called z s (call.Request c t k x y)).1.lock
    (taken_request z s c t k x y)
unfolding called
request_replies z s c t k x y P none judges = by_card (ltb c z.cards) refl
  where
    by_toggle : (w : Request) → c < z.cards → (b : Bool)
        → let p = cond b (resent (memo_of s c).last w, s)
        (noted s c t w (served z s.lock c w)) in
        P p.0 p.1.lock (cond b None (cond (accepted (served z s.lock c w).0) (Some w) None))
    by_toggle w lt true = none (resent (memo_of s c).last w)
    by_toggle w lt false = judges w lt

    by_word : c < z.cards → (r : Result Request DoorFault)
        → P (judged z s c t r).0 (judged z s c t r).1.lock (new_request z s c t r)
    by_word lt (Ok w) = by_toggle w lt (eqb (memo_of s c).toggle t)
    by_word lt (Err e) = none (Err e)

    by_card : (b : Bool) → ltb c z.cards ≡ b
        → let p = cond b (judged z s c t (understood t k x y)) (Err (Lock NoCard), s) in
        P p.0 p.1.lock (cond b (new_request z s c t (understood t k x y)) None)
    by_card true e = by_word (ltb-true c z.cards e) (understood t k x y)
    by_card false e = none (Err (Lock NoCard))

-- the same without the answer, by whether the lock accepts it
pub request_cases : (z : Size) (s : DoorState) (c t k x y : ℕ) (P : LockState → Option Request → Type 0)
    → P s.lock None
    → ((w : Request) → c < z.cards → accepted (served z s.lock c w).0 ≡ true
    → P (served z s.lock c w).1 (Some w))
    → ((w : Request) → c < z.cards → accepted (served z s.lock c w).0 ≡ false
    → P (served z s.lock c w).1 None)
    → P (called z s (call.Request c t k x y)).1.lock (taken_request z s c t k x y)
request_cases z s c t k x y P none some refused =
    request_replies z s c t k x y (λ r u o. P u o) (λ _. none)
    (λ w lt. by_accept w lt (accepted (served z s.lock c w).0) refl)
  where
    by_accept : (w : Request) → c < z.cards → (b : Bool) → accepted (served z s.lock c w).0 ≡ b
        → P (served z s.lock c w).1 (cond b (Some w) None)
    by_accept w lt true e = some w lt e
    by_accept w lt false e = refused w lt e

-- Steps, aborts and reuses.

-- what a step does: nothing, or the row of its card's stage
abbrev pub Stepped : Size → LockState → ℕ → LockState → Deed → Type 0
Stepped z s c t d = ((t ≡ s) × (d ≡ plain))
    ⊎ ((k : MemoryCall) × (c < z.cards) × (call_of z.nodes c (stage_of s c) ≡ Some k)
    × (t ≡ staged s (performed s.meaning k).after c
    (advanced (stage_of s c) (performed s.meaning k).answer).0)
    × (d ≡ cond (accepted (performed s.meaning k).answer) (deed (stage_of s c)) plain))

-- a step is refused and does nothing, or takes the row of its card's stage: its answer, the lock's state after it and
-- its deed
pub step_replies : (z : Size) (s : DoorState) (c : ℕ) (P : Result Answer DoorFault → LockState → Deed → Type 0)
    → ((f : LockFault) → P (Err (Lock f)) s.lock plain)
    → ((k : MemoryCall) → c < z.cards → call_of z.nodes c (stage_of s.lock c) ≡ Some k
    → let o = performed s.lock.meaning k in
    let p = advanced (stage_of s.lock c) o.answer in
    P (told p.1) (staged s.lock o.after c p.0)
    (cond (accepted o.answer) (deed (stage_of s.lock c)) plain))
    → P (called z s (call.Step c)).0 (called z s (call.Step c)).1.lock (step_deed z s.lock c)
unfolding called
step_replies z s c P refused taken = by_card (ltb c z.cards) refl
  where
    by_call : c < z.cards → (o : Option MemoryCall) → call_of z.nodes c (stage_of s.lock c) ≡ o
        → P (told (step_by s.lock c o).0) (step_by s.lock c o).1
        (deed_by s.lock.meaning (stage_of s.lock c) o)
    by_call lt None e = refused NotAllowed
    by_call lt (Some k) e = taken k lt e

    by_card : (b : Bool) → ltb c z.cards ≡ b
        → let p = cond b (step_by s.lock c (call_of z.nodes c (stage_of s.lock c)))
        (refuses s.lock NoCard) in
        P (told p.0) p.1 (cond b (deed_by s.lock.meaning (stage_of s.lock c)
        (call_of z.nodes c (stage_of s.lock c))) plain)
    by_card true e = by_call (ltb-true c z.cards e) (call_of z.nodes c (stage_of s.lock c)) refl
    by_card false e = refused NoCard

-- each step is so
pub step_cases : (z : Size) (s : DoorState) (c : ℕ)
    → Stepped z s.lock c (called z s (call.Step c)).1.lock (step_deed z s.lock c)
step_cases z s c = step_replies z s c (λ r t d. Stepped z s.lock c t d) (λ f. inl (refl, refl))
    (λ k lt e. inr (k, lt, e, refl, refl))

-- a step of a card that is there, by the call of its row
pub step_is : (z : Size) (s : DoorState) (c : ℕ) (k : MemoryCall) → c < z.cards
    → call_of z.nodes c (stage_of s.lock c) ≡ Some k
    → (called z s (call.Step c)).1.lock ≡ staged s.lock (performed s.lock.meaning k).after c
    (advanced (stage_of s.lock c) (performed s.lock.meaning k).answer).0
unfolding called
step_is z s c k lt e =
    ap (λ (b : Bool). (cond b (step_by s.lock c (call_of z.nodes c (stage_of s.lock c)))
    (refuses s.lock NoCard)).1) (lt-ltb c z.cards lt)
    ∙ ap (λ (o : Option MemoryCall). (step_by s.lock c o).1) e

-- what an abort does: nothing to the records, or its card is back at the begin of its transaction
abbrev pub Aborted : Size → LockState → ℕ → LockState → Type 0
Aborted z s c t = (t.cards ≡ s.cards)
    ⊎ ((k : MemoryCall) × (c < z.cards) × (call_of z.nodes c (stage_of s c) ≡ Some k) × (in_transaction k ≡ true)
    × (t.cards ≡ moved s c (begin_of (stage_of s c))))

-- an abort is refused and does nothing, or drops the transaction of its card: its answer and the lock's state after it
pub abort_replies : (z : Size) (s : DoorState) (c : ℕ) (P : Result Answer DoorFault → LockState → Type 0)
    → ((f : LockFault) → P (Err (Lock f)) s.lock)
    → ((k : MemoryCall) → c < z.cards → call_of z.nodes c (stage_of s.lock c) ≡ Some k → in_transaction k ≡ true
    → let o = performed s.lock.meaning (memory-call.Drop c) in
    let p = drop_by s.lock c o.answer o.after in P (told p.0) p.1)
    → P (called z s (call.Abort c)).0 (called z s (call.Abort c)).1.lock
unfolding called
abort_replies z s c P refused drops = by_card (ltb c z.cards) refl
  where
    by_kind : (k : MemoryCall) → c < z.cards → call_of z.nodes c (stage_of s.lock c) ≡ Some k
        → (b : Bool) → in_transaction k ≡ b
        → let o = performed s.lock.meaning (memory-call.Drop c) in
        let p = cond b (drop_by s.lock c o.answer o.after) (refuses s.lock NotAllowed) in
        P (told p.0) p.1
    by_kind k lt e true i = drops k lt e i
    by_kind k lt e false i = refused NotAllowed

    by_call : c < z.cards → (o : Option MemoryCall) → call_of z.nodes c (stage_of s.lock c) ≡ o
        → P (told (abort_by s.lock c o).0) (abort_by s.lock c o).1
    by_call lt None e = refused NotAllowed
    by_call lt (Some k) e = by_kind k lt e (in_transaction k) refl

    by_card : (b : Bool) → ltb c z.cards ≡ b
        → let p = cond b (abort_by s.lock c (call_of z.nodes c (stage_of s.lock c)))
        (refuses s.lock NoCard) in P (told p.0) p.1
    by_card true e = by_call (ltb-true c z.cards e) (call_of z.nodes c (stage_of s.lock c)) refl
    by_card false e = refused NoCard

-- each abort is so
pub abort_cases : (z : Size) (s : DoorState) (c : ℕ) → Aborted z s.lock c (called z s (call.Abort c)).1.lock
abort_cases z s c = abort_replies z s c (λ r t. Aborted z s.lock c t) (λ f. inl refl)
    (λ k lt e i. by_answer k lt e i (performed s.lock.meaning (memory-call.Drop c)).answer
    (performed s.lock.meaning (memory-call.Drop c)).after)
  where
    by_answer : (k : MemoryCall) → c < z.cards → call_of z.nodes c (stage_of s.lock c) ≡ Some k
        → in_transaction k ≡ true → (r : Result ℕ MemoryFault) (m : Meaning)
        → Aborted z s.lock c (drop_by s.lock c r m).1
    by_answer k lt e i (Ok v) m = inr (k, lt, e, i, refl)
    by_answer k lt e i (Err f) m = inl refl

-- a reuse moves nobody
pub reuse_cards : (z : Size) (s : DoorState) (c n : ℕ) (v : NodeValues)
    → (called z s (call.Reuse c n v)).1.lock.cards ≡ s.lock.cards
unfolding called
reuse_cards z s c n v =
    by_test Same (ltb c z.cards) _ (refuses s.lock NoCard) (by_stage (stage_of s.lock c)) refl
  where
    Same : Turn → Type 0
    Same t = t.1.cards ≡ s.lock.cards

    by_answer : (r : Result (Unit {0}) LockFault) (m : Meaning) → Same (reuse_by s.lock (r, m))
    by_answer (Ok u) m = refl
    by_answer (Err f) m = refl

    by_stage : (g : Stage) → Same (reuse_at z s.lock c n v g)
    by_stage Idle = by_test Same (ltb n z.nodes) _ (refuses s.lock NoPlace)
        (by_test Same (free s.lock.cards n) _ (refuses s.lock NotFree)
        (by_answer (stores c (reuse_stores n v) s.lock.meaning).0
        (stores c (reuse_stores n v) s.lock.meaning).1) refl) refl
    by_stage (WriterEnters k at) = refl
    by_stage (ReaderEnters k at) = refl
    by_stage (Inside k j) = refl
    by_stage (Adds k at) = refl
    by_stage (WriterLeaves k at) = refl
    by_stage (ReaderLeaves k at) = refl
