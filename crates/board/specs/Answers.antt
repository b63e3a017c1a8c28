-- What the answer to a call says is so: of the standing cells and the transactions of the board's memory, and of the
-- book. The memory's meaning is m before the call and n after it, the book b and d.
use Rattle.std.specs.Prelude.{◌≡◌, ℕ, ◌<◌, true, List, [], ◌∷◌, ◌++◌, Some, None, Ok, Err, Option, Result, ◌≢◌}
use Rattle.memory.specs.Meaning.{Meaning, none, doomed, standing, tx_of}
use Rattle.stages.specs.declared.answer.Answer.{Answer}
use Rattle.stages.specs.declared.answer.Answer.TheVariants.{Done, Step, Wait, Lost, In, Out, Added, Count}
use Rattle.stages.specs.declared.layout.Field.{Field}
use Rattle.stages.specs.declared.layout.Field.TheVariants.{Next, Prev, State, Spin}
use Rattle.stages.specs.declared.stage.Mode.{Mode}
use Rattle.stages.specs.declared.stage.Mode.TheVariants.{Read, Write}
use Rattle.stages.specs.declared.stage.Stage.{Stage}
use Rattle.stages.specs.declared.stage.Stage.TheVariants.{Idle, WriterEnters, ReaderEnters, Inside, Adds}
use Rattle.stages.specs.declared.stage.Stage.TheVariants.{WriterLeaves, ReaderLeaves}
use Rattle.stages.specs.Layout.{node_cell, counter_cell, reader, writer}
use Rattle.lock.specs.declared.values.NodeValues.{NodeValues}
use Rattle.lock.specs.Lock.{Size}
use Rattle.door.specs.declared.fault.DoorFault.{DoorFault}
use Rattle.door.specs.declared.request.Request.{Request}
use Rattle.door.specs.declared.request.Request.TheVariants.{Enter, Leave, Add, Show}
use Rattle.door.specs.declared.call.Call.{Call}
use Rattle.door.specs.declared.call.Call.TheVariants as call
use Rattle.door.specs.Door.{DoorState, memo_of}
use Rattle.board.specs.Book.{Book, Sum, accepted, taken_request}
use Rattle.board.specs.Promise.{stage, Waits, Free, entry_under_way, add_under_way}

-- where a card is in its procedure: idle, on its way in, inside (in the middle of an add too), or on its way out
pub data Phase : Type 0 where
  idle : Phase
  entering : Phase
  inside : Phase
  leaving : Phase

-- the phase of a stage
abbrev pub phase_of : Stage → Phase
phase_of Idle = idle
phase_of (WriterEnters n at) = entering
phase_of (ReaderEnters n at) = entering
phase_of (Inside n m) = inside
phase_of (Adds n at) = inside
phase_of (WriterLeaves n at) = leaving
phase_of (ReaderLeaves n at) = leaving

-- the phase of a card, by the book
abbrev pub phase : Book → ℕ → Phase
phase b c = phase_of (stage b c)

-- every standing value is as it was
abbrev pub SameCells : Meaning → Meaning → Type 0
SameCells m n = (x : ℕ) → standing n x ≡ standing m x

-- Steps of a card c.

-- a card that is not idle
abbrev pub UnderWay : Phase → Type 0
UnderWay idle = ⊥
UnderWay entering = Unit {0}
UnderWay inside = Unit {0}
UnderWay leaving = Unit {0}

-- `in`: a card on its way in is inside now; `out`: one on its way out is idle now; any other answer: it is where it
-- was. A step is never answered by ok or count.
abbrev pub Goes : Answer → Phase → Phase → Type 0
Goes Done p q = ⊥
Goes Step p q = (q ≡ p) × UnderWay p
Goes Wait p q = (p ≡ entering) × (q ≡ entering)
Goes Lost p q = (q ≡ p) × UnderWay p
Goes In p q = (p ≡ entering) × (q ≡ inside)
Goes Out p q = (p ≡ leaving) × (q ≡ idle)
Goes (Added v) p q = (p ≡ inside) × (q ≡ inside)
Goes (Count v) p q = ⊥

-- an add of the card is finished, and its counter holds v
abbrev pub Finished : Size → ℕ → ℕ → Meaning → List Sum → List Sum → Type 0
Finished z c v n l k =
    (j : ℕ) × (a : ℕ) × (j < z.counters) × (k ≡ l ++ record { card = c; counter = j; amount = a } ∷ [])
    × (standing n (counter_cell z.nodes j) ≡ v)

-- the card waits on a node whose spin is not 0
abbrev pub KeptWaiting : Meaning → Book → ℕ → Type 0
KeptWaiting m b c = (k : ℕ) × (o : Mode) × Waits b c k o × (standing m (node_cell k Spin) ≢ 0)

-- the card does not wait, or its spin is 0
abbrev pub LetGo : Meaning → Book → ℕ → Type 0
LetGo m b c = (k : ℕ) (o : Mode) → Waits b c k o → standing m (node_cell k Spin) ≡ 0

-- the card's transaction was doomed and is gone; no cell has changed, and the line is as it was
pub record Gone (c : ℕ) (m n : Meaning) (b d : Book) : Type 0 where
  pub was_doomed : tx_of m c ≡ doomed
  pub closed : tx_of n c ≡ none
  pub cells : SameCells m n
  pub line : d.line ≡ b.line

-- what the answer to an accepted step says
pub record StepSays (z : Size) (c : ℕ) (m n : Meaning) (b d : Book) (a : Answer) : Type 0 where
  -- where the card is now
  pub goes : Goes a (phase b c) (phase d c)
  -- `added` tells what the counter holds by an add that is finished; by any other answer none is finished
  pub added : (v : ℕ) → a ≡ Added v → Finished z c v n b.finished d.finished
  pub no_add : ((v : ℕ) → a ≢ Added v) → d.finished ≡ b.finished
  -- `wait` exactly where the card waits and its spin is not 0
  pub waits : a ≡ Wait → KeptWaiting m b c
  pub let_go : (a ≢ Wait) → LetGo m b c
  -- `lost` exactly where the card's transaction was doomed
  pub lost : a ≡ Lost → Gone c m n b d
  pub not_lost : (a ≢ Lost) → tx_of m c ≢ doomed

-- Requests of a card c that are neither refused nor sent again.

-- the state that a node is entered with
abbrev pub state_of : Mode → ℕ
state_of Read = reader
state_of Write = writer

-- an idle card has taken a free node and is on its way in; the node stands ready to join the line
pub record Enters (z : Size) (c : ℕ) (o : Mode) (k : ℕ) (n : Meaning) (b d : Book) : Type 0 where
  pub was_idle : phase b c ≡ idle
  pub there : k < z.nodes
  pub was_free : Free b k
  pub under_way : entry_under_way c (stage d c) ≡ record { card = c; node = k; mode = o } ∷ []
  pub state : standing n (node_cell k State) ≡ state_of o
  pub spin : standing n (node_cell k Spin) ≡ 1
  pub next : standing n (node_cell k Next) ≡ 0
  pub prev : o ≡ Read → standing n (node_cell k Prev) ≡ 0

-- a writer inside has an add under way
pub record AddsUp (z : Size) (c k a : ℕ) (m n : Meaning) (b d : Book) : Type 0 where
  pub was_inside : (i : ℕ) × (stage b c ≡ Inside i Write)
  pub there : k < z.counters
  pub under_way : add_under_way c (stage d c) ≡ record { card = c; counter = k; amount = a } ∷ []
  pub cells : SameCells m n

-- a card inside was shown what the counter holds
pub record Shows (z : Size) (c k : ℕ) (m n : Meaning) (b d : Book) (r : Result Answer DoorFault) : Type 0 where
  pub was_inside : phase b c ≡ inside
  pub there : k < z.counters
  pub answer : r ≡ Ok (Count (standing n (counter_cell z.nodes k)))
  pub stays : stage d c ≡ stage b c
  pub cells : SameCells m n

-- what the answer to each kind of request says
abbrev pub RequestSays : Size → ℕ → Request → Meaning → Meaning → Book → Book → Result Answer DoorFault → Type 0
RequestSays z c (Enter o k) m n b d r = (r ≡ Ok Done) × Enters z c o k n b d
RequestSays z c Leave m n b d r =
    (r ≡ Ok Done) × (phase b c ≡ inside) × (phase d c ≡ leaving) × SameCells m n
RequestSays z c (Add k a) m n b d r = (r ≡ Ok Done) × AddsUp z c k a m n b d
RequestSays z c (Show k) m n b d r = Shows z c k m n b d r

-- Aborts and reuses.

-- a card's transaction, open or doomed, was dropped; no cell has changed, and the card is where it was
pub record Drops (c : ℕ) (m n : Meaning) (b d : Book) : Type 0 where
  pub was_there : tx_of m c ≡ none → ⊥
  pub closed : tx_of n c ≡ none
  pub cells : SameCells m n
  pub stays : phase d c ≡ phase b c

-- an idle card has stored four values in the cells of a free node, and in no other cell
pub record Fills (z : Size) (c k : ℕ) (v : NodeValues) (m n : Meaning) (b : Book) : Type 0 where
  pub was_idle : phase b c ≡ idle
  pub there : k < z.nodes
  pub was_free : Free b k
  pub next : standing n (node_cell k Next) ≡ v.next
  pub prev : standing n (node_cell k Prev) ≡ v.prev
  pub state : standing n (node_cell k State) ≡ v.state
  pub spin : standing n (node_cell k Spin) ≡ v.spin
  pub others : (x : ℕ) → ((f : Field) → x ≢ node_cell k f) → standing n x ≡ standing m x

-- Every call.

-- a call that is refused changes no cell, no transaction and no card's stage
abbrev pub LeavesAll : DoorState → DoorState → Type 0
LeavesAll s t = t.lock ≡ s.lock

-- a call of a card that is no request: it is refused, or its answer says what was done
abbrev pub RefusedOr : DoorState → DoorState → (Answer → Type 0) → Result Answer DoorFault → Type 0
RefusedOr s t P (Ok a) = P a
RefusedOr s t P (Err f) = LeavesAll s t

-- a request: it is refused or sent again, and nothing is done; or its answer says what was done
abbrev pub TakenOr : DoorState → DoorState → (Request → Type 0) → Option Request → Type 0
TakenOr s t P (Some w) = P w
TakenOr s t P None = LeavesAll s t

-- what the answer r to a call says, which took a board from state s to state t and the book from b to d
abbrev pub Tells : Size → Call → DoorState → DoorState → Book → Book → Result Answer DoorFault → Type 0
Tells z (call.Request c g k x y) s t b d r =
    TakenOr s t (λ w. RequestSays z c w s.lock.meaning t.lock.meaning b d r)
    (taken_request z s c g k x y)
Tells z (call.Step c) s t b d r =
    RefusedOr s t (StepSays z c s.lock.meaning t.lock.meaning b d) r
Tells z (call.Abort c) s t b d r =
    RefusedOr s t (λ a. (a ≡ Done) × Drops c s.lock.meaning t.lock.meaning b d) r
Tells z (call.Reuse c k v) s t b d r =
    RefusedOr s t (λ a. (a ≡ Done) × Fills z c k v s.lock.meaning t.lock.meaning b) r

-- Nothing is refused without cause.

-- the kind of a request
abbrev pub kind_of : Request → ℕ
kind_of (Enter Read n) = 1
kind_of (Enter Write n) = 2
kind_of Leave = 3
kind_of (Add k a) = 4
kind_of (Show k) = 5

-- its first number, 0 where it is unused
abbrev pub first_of : Request → ℕ
first_of (Enter o n) = n
first_of Leave = 0
first_of (Add k a) = k
first_of (Show k) = k

-- its second number, 0 where it is unused
abbrev pub second_of : Request → ℕ
second_of (Enter o n) = 0
second_of Leave = 0
second_of (Add k a) = a
second_of (Show k) = 0

-- what a request of card c needs: an idle card and a free node; a card inside; a writer inside and a counter; a card
-- inside and a counter
abbrev pub Fits : Size → Book → ℕ → Request → Type 0
Fits z b c (Enter o k) = (stage b c ≡ Idle) × (k < z.nodes) × Free b k
Fits z b c Leave = (i : ℕ) × (o : Mode) × (stage b c ≡ Inside i o)
Fits z b c (Add k a) = (k < z.counters) × ((i : ℕ) × (stage b c ≡ Inside i Write))
Fits z b c (Show k) = (k < z.counters) × ((i : ℕ) × (o : Mode) × (stage b c ≡ Inside i o))

-- A card that there is, in state s of a board and in book b. A request of its form that has not the toggle of the
-- card's last and has what it needs is taken. A step is accepted unless the card is idle or inside, an abort where the
-- card has a transaction, and a reuse by an idle card of a free node.
abbrev pub Grants : Size → Call → DoorState → Book → Result Answer DoorFault → Type 0
Grants z (call.Request c t k x y) s b r = (w : Request) → c < z.cards → t < 2 → ((memo_of s c).toggle ≢ t)
    → k ≡ kind_of w → x ≡ first_of w → y ≡ second_of w → Fits z b c w → taken_request z s c t k x y ≡ Some w
Grants z (call.Step c) s b r = c < z.cards → (stage b c ≢ Idle)
    → ((i : ℕ) (o : Mode) → stage b c ≢ Inside i o) → accepted r ≡ true
Grants z (call.Abort c) s b r = c < z.cards → (tx_of s.lock.meaning c ≢ none) → accepted r ≡ true
Grants z (call.Reuse c k v) s b r =
    c < z.cards → stage b c ≡ Idle → k < z.nodes → Free b k → accepted r ≡ true
