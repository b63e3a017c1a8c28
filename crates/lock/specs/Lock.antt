-- What each call of the lock answers, and the memory's meaning and the cards' records after it, refused calls too.
use Rattle.std.specs.Prelude.{ℕ, Bool, true, false, cond, List, [], ◌∷◌, replicate, Some, None, Ok, Err, Option}
use Rattle.std.specs.Prelude.{Result, ◌==◌, nat_le, nat_lt, slice_index_or, slice_set}
use Rattle.memory.specs.declared.fault.MemoryFault.{MemoryFault}
use Rattle.memory.specs.declared.fault.Refusal.{Refusal}
use Rattle.memory.specs.declared.fault.Refusal.TheVariants.{OutOfRange, Already, NoTransaction, Doomed, Full}
use Rattle.memory.specs.declared.call.MemoryCall.{MemoryCall}
use Rattle.memory.specs.declared.call.MemoryCall.TheVariants as call
use Rattle.memory.specs.Meaning.{Meaning, cleared}
use Rattle.memory.specs.Calls.{performed}
use Rattle.stages.specs.declared.answer.Answer.{Answer}
use Rattle.stages.specs.declared.answer.Answer.TheVariants.{Done, Lost, Count}
use Rattle.stages.specs.declared.layout.Field.TheVariants.{Next, Prev, State, Spin}
use Rattle.stages.specs.declared.stage.Mode.{Mode}
use Rattle.stages.specs.declared.stage.Mode.TheVariants.{Read, Write}
use Rattle.stages.specs.declared.stage.WriterEntry.TheVariants.{W1}
use Rattle.stages.specs.declared.stage.ReaderEntry.TheVariants.{R1}
use Rattle.stages.specs.declared.stage.Addition.TheVariants.{A1}
use Rattle.stages.specs.declared.stage.WriterExit.TheVariants.{X1}
use Rattle.stages.specs.declared.stage.ReaderExit.TheVariants.{Y1}
use Rattle.stages.specs.declared.stage.Stage.{Stage}
use Rattle.stages.specs.declared.stage.Stage.TheVariants.{Idle, WriterEnters, ReaderEnters, Inside, Adds}
use Rattle.stages.specs.declared.stage.Stage.TheVariants.{WriterLeaves, ReaderLeaves}
use Rattle.stages.specs.declared.stage.Card.{Card}
use Rattle.stages.specs.Layout.{node_cell, counter_cell, reader, writer}
use Rattle.stages.specs.Rows.{call_of, begin_of, in_transaction}
use Rattle.stages.specs.Rows.{writer_entry_goes, reader_entry_goes, addition_goes, writer_exit_goes, reader_exit_goes}
use Rattle.lock.specs.declared.values.NodeValues.{NodeValues}
use Rattle.lock.specs.declared.fault.SizeFault.{SizeFault}
use Rattle.lock.specs.declared.fault.SizeFault.TheVariants as size
use Rattle.lock.specs.declared.fault.LockFault.{LockFault}
use Rattle.lock.specs.declared.fault.LockFault.TheVariants.{NoCard, NotAllowed, NoPlace, NotFree, Memory}

-- how many cards, nodes and counters there are
pub record Size : Type 0 where
  pub cards : ℕ
  pub nodes : ℕ
  pub counters : ℕ

-- whether a size is from 1 to the most
abbrev pub within : ℕ → ℕ → Bool
within most x = cond (nat_le 1 x) (nat_le x most) false

-- the sizes that a board may have: 1 to 8 cards, 1 to 32 nodes, 1 to 8 counters
abbrev pub sized : ℕ → ℕ → ℕ → Result Size SizeFault
sized c n k =
    cond (cond (within 8 c) (cond (within 32 n) (within 8 k) false) false)
    (Ok (record { cards = c; nodes = n; counters = k }))
    (Err size.OutOfRange)

-- the memory's meaning, and the records of the eight cards that there may be
pub record LockState : Type 0 where
  pub meaning : Meaning
  pub cards : List Card

-- what a call of the lock answers, and the state after it
abbrev pub Turn : Type 0
Turn = Result Answer LockFault × LockState

-- an idle card
abbrev pub idle_card : Card
idle_card = record { stage = Idle }

-- a lock newly set up: the memory cleared, every card idle
abbrev pub new_lock : LockState
new_lock = record { meaning = cleared; cards = replicate 8 idle_card }

-- a card's stage
abbrev pub stage_of : LockState → ℕ → Stage
stage_of s c = (slice_index_or s.cards c idle_card).stage

-- the state with another meaning and another stage for a card
abbrev pub staged : LockState → Meaning → ℕ → Stage → LockState
staged s m c g = record { meaning = m; cards = slice_set s.cards c (record { stage = g }) }

-- the state with another meaning, the cards as they were
abbrev pub kept : LockState → Meaning → LockState
kept s m = record { meaning = m; cards = s.cards }

-- a refusal that changes nothing
abbrev pub refuses : LockState → LockFault → Turn
refuses s f = (Err f, s)

-- a call of a card that has to be there
abbrev pub of_card : Size → LockState → ℕ → Turn → Turn
of_card z s c t = cond (nat_lt c z.cards) t (refuses s NoCard)

-- Step: one row of the table.

-- the stage and the answer after the memory accepted the row's call and answered v
abbrev pub goes : Stage → ℕ → Stage × Result Answer LockFault
goes Idle v = (Idle, Err NotAllowed)
goes (WriterEnters n at) v = let p = writer_entry_goes n at v in (p.0, Ok p.1)
goes (ReaderEnters n at) v = let p = reader_entry_goes n at v in (p.0, Ok p.1)
goes (Inside n m) v = (Inside n m, Err NotAllowed)
goes (Adds n at) v = let p = addition_goes n at v in (p.0, Ok p.1)
goes (WriterLeaves n at) v = let p = writer_exit_goes n at v in (p.0, Ok p.1)
goes (ReaderLeaves n at) v = let p = reader_exit_goes n at v in (p.0, Ok p.1)

-- the same after a refusal: a doomed transaction starts again on the same node, any other refusal passes up
abbrev pub returns_by : Stage → MemoryFault → Refusal → Stage × Result Answer LockFault
returns_by g f OutOfRange = (g, Err (Memory f))
returns_by g f Already = (g, Err (Memory f))
returns_by g f NoTransaction = (g, Err (Memory f))
returns_by g f Doomed = (begin_of g, Ok Lost)
returns_by g f Full = (g, Err (Memory f))

-- the stage and the answer by the memory's outcome
abbrev pub advanced : Stage → Result ℕ MemoryFault → Stage × Result Answer LockFault
advanced g (Ok v) = goes g v
advanced g (Err f) = returns_by g f f.refusal

-- the row that makes a memory call; a stage without one takes no step
abbrev pub step_by : LockState → ℕ → Option MemoryCall → Turn
step_by s c None = refuses s NotAllowed
step_by s c (Some k) =
    let o = performed s.meaning k in
    let p = advanced (stage_of s c) o.answer in
    (p.1, staged s o.after c p.0)

-- a step of a card
abbrev pub stepped : Size → LockState → ℕ → Turn
stepped z s c = of_card z s c (step_by s c (call_of z.nodes c (stage_of s c)))

-- Abort: the transaction is dropped, and the card goes to its begin.

-- the transaction dropped, or the refusal of that
abbrev pub drop_by : LockState → ℕ → Result ℕ MemoryFault → Meaning → Turn
drop_by s c (Ok v) m = (Ok Done, staged s m c (begin_of (stage_of s c)))
drop_by s c (Err f) m = (Err (Memory f), kept s m)

-- only a row that goes by a transaction has one to drop
abbrev pub abort_by : LockState → ℕ → Option MemoryCall → Turn
abort_by s c None = refuses s NotAllowed
abort_by s c (Some k) =
    let o = performed s.meaning (call.Drop c) in
    cond (in_transaction k) (drop_by s c o.answer o.after) (refuses s NotAllowed)

-- an abort of a card
abbrev pub aborted : Size → LockState → ℕ → Turn
aborted z s c = of_card z s c (abort_by s c (call_of z.nodes c (stage_of s c)))

-- Nodes: a node is free unless a card that is not idle has it.

-- whether a card at a stage has the node
abbrev pub has_node : Stage → ℕ → Bool
has_node Idle n = false
has_node (WriterEnters k at) n = k == n
has_node (ReaderEnters k at) n = k == n
has_node (Inside k m) n = k == n
has_node (Adds k at) n = k == n
has_node (WriterLeaves k at) n = k == n
has_node (ReaderLeaves k at) n = k == n

-- whether none of the cards has the node
abbrev pub free : List Card → ℕ → Bool
free [] n = true
free (r ∷ rs) n = cond (has_node r.stage n) false (free rs n)

-- stores of one card in turn, up to the first that is refused, which passes up
abbrev pub stores : ℕ → List (ℕ × ℕ) → Meaning → Result (Unit {0}) LockFault × Meaning
stores c [] m = (Ok tt, m)
stores c (xv ∷ more) m =
    elim (performed m (call.Store c xv.0 xv.1)).answer [
      | Ok v ↦ stores c more (performed m (call.Store c xv.0 xv.1)).after
      | Err f ↦ (Err (Memory f), (performed m (call.Store c xv.0 xv.1)).after)
    ]

-- a call on a node that has to be there and free
abbrev pub on_free : Size → LockState → ℕ → Turn → Turn
on_free z s n t = cond (nat_lt n z.nodes) (cond (free s.cards n) t (refuses s NotFree)) (refuses s NoPlace)

-- Enter: the node's cells are stored, and the card stands at the first row.

-- what an entry stores: state, spin 1, next 0 and, for a reader, prev 0
abbrev pub entry_stores : ℕ → Mode → List (ℕ × ℕ)
entry_stores n Read =
    (node_cell n State, reader) ∷ (node_cell n Spin, 1) ∷ (node_cell n Next, 0) ∷ (node_cell n Prev, 0) ∷ []
entry_stores n Write = (node_cell n State, writer) ∷ (node_cell n Spin, 1) ∷ (node_cell n Next, 0) ∷ []

-- the first row of an entry
abbrev pub first_stage : ℕ → Mode → Stage
first_stage n Read = ReaderEnters n R1
first_stage n Write = WriterEnters n W1

-- the card moves once all is stored
abbrev pub enter_by : LockState → ℕ → Stage → Result (Unit {0}) LockFault × Meaning → Turn
enter_by s c g p = elim p.0 [ Ok u ↦ (Ok Done, staged s p.1 c g) | Err f ↦ (Err f, kept s p.1) ]

-- only an idle card enters
abbrev pub enter_at : Size → LockState → ℕ → Mode → ℕ → Stage → Turn
enter_at z s c m n Idle = on_free z s n (enter_by s c (first_stage n m) (stores c (entry_stores n m) s.meaning))
enter_at z s c m n (WriterEnters k at) = refuses s NotAllowed
enter_at z s c m n (ReaderEnters k at) = refuses s NotAllowed
enter_at z s c m n (Inside k j) = refuses s NotAllowed
enter_at z s c m n (Adds k at) = refuses s NotAllowed
enter_at z s c m n (WriterLeaves k at) = refuses s NotAllowed
enter_at z s c m n (ReaderLeaves k at) = refuses s NotAllowed

-- an entry of a card on a node
abbrev pub entered : Size → LockState → ℕ → Mode → ℕ → Turn
entered z s c m n = of_card z s c (enter_at z s c m n (stage_of s c))

-- Leave, add and show: by a card inside.

-- what a card inside does by its node and its mode; at any other stage it is not allowed
abbrev pub inside_by : LockState → (ℕ → Mode → Turn) → Stage → Turn
inside_by s k Idle = refuses s NotAllowed
inside_by s k (WriterEnters n at) = refuses s NotAllowed
inside_by s k (ReaderEnters n at) = refuses s NotAllowed
inside_by s k (Inside n m) = k n m
inside_by s k (Adds n at) = refuses s NotAllowed
inside_by s k (WriterLeaves n at) = refuses s NotAllowed
inside_by s k (ReaderLeaves n at) = refuses s NotAllowed

-- the first row of an exit
abbrev pub leave_at : LockState → ℕ → ℕ → Mode → Turn
leave_at s c n Read = (Ok Done, staged s s.meaning c (ReaderLeaves n Y1))
leave_at s c n Write = (Ok Done, staged s s.meaning c (WriterLeaves n X1))

-- a card leaves
abbrev pub left : Size → LockState → ℕ → Turn
left z s c = of_card z s c (inside_by s (leave_at s c) (stage_of s c))

-- only a writer adds, to a counter that there is
abbrev pub add_at : Size → LockState → ℕ → ℕ → ℕ → ℕ → Mode → Turn
add_at z s c k a n Read = refuses s NotAllowed
add_at z s c k a n Write =
    cond (nat_lt k z.counters) (Ok Done, staged s s.meaning c (Adds n (A1 k a))) (refuses s NoPlace)

-- a card adds an amount to a counter
abbrev pub added : Size → LockState → ℕ → ℕ → ℕ → Turn
added z s c k a = of_card z s c (inside_by s (add_at z s c k a) (stage_of s c))

-- one load of the counter
abbrev pub count_by : LockState → Result ℕ MemoryFault → Meaning → Turn
count_by s (Ok v) m = (Ok (Count v), kept s m)
count_by s (Err f) m = (Err (Memory f), kept s m)

-- a counter that there is, loaded
abbrev pub show_at : Size → LockState → ℕ → ℕ → ℕ → Mode → Turn
show_at z s c k n m =
    let o = performed s.meaning (call.Load c (counter_cell z.nodes k)) in
    cond (nat_lt k z.counters) (count_by s o.answer o.after) (refuses s NoPlace)

-- a counter shown to a card
abbrev pub shown : Size → LockState → ℕ → ℕ → Turn
shown z s c k = of_card z s c (inside_by s (show_at z s c k) (stage_of s c))

-- Reuse: an idle card stores any four values in a free node's cells, next first.

-- what a reuse stores
abbrev pub reuse_stores : ℕ → NodeValues → List (ℕ × ℕ)
reuse_stores n v =
    (node_cell n Next, v.next) ∷ (node_cell n Prev, v.prev)
    ∷ (node_cell n State, v.state) ∷ (node_cell n Spin, v.spin) ∷ []

-- the card does not move
abbrev pub reuse_by : LockState → Result (Unit {0}) LockFault × Meaning → Turn
reuse_by s p = elim p.0 [ Ok u ↦ (Ok Done, kept s p.1) | Err f ↦ (Err f, kept s p.1) ]

-- only an idle card reuses
abbrev pub reuse_at : Size → LockState → ℕ → ℕ → NodeValues → Stage → Turn
reuse_at z s c n v Idle = on_free z s n (reuse_by s (stores c (reuse_stores n v) s.meaning))
reuse_at z s c n v (WriterEnters k at) = refuses s NotAllowed
reuse_at z s c n v (ReaderEnters k at) = refuses s NotAllowed
reuse_at z s c n v (Inside k j) = refuses s NotAllowed
reuse_at z s c n v (Adds k at) = refuses s NotAllowed
reuse_at z s c n v (WriterLeaves k at) = refuses s NotAllowed
reuse_at z s c n v (ReaderLeaves k at) = refuses s NotAllowed

-- a reuse of a node by a card
abbrev pub reused : Size → LockState → ℕ → ℕ → NodeValues → Turn
reused z s c n v = of_card z s c (reuse_at z s c n v (stage_of s c))
