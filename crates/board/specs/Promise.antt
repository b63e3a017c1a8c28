-- The promise over every run, as relations between the standing cells of the board's memory and the book.
use Rattle.std.specs.Prelude.{◌≡◌, ℕ, ◌+◌, ◌<◌, min, true, cond, ◌⊎◌, List, [], ◌∷◌, ◌++◌, Ok, Err, Result, ◌==◌, ◌≢◌}
use Rattle.std.specs.Prelude.{slice_index}
use Rattle.stages.specs.declared.answer.Answer.{Answer}
use Rattle.stages.specs.declared.layout.Field.{Field}
use Rattle.stages.specs.declared.layout.Field.TheVariants.{Next, Prev, State, Spin}
use Rattle.stages.specs.declared.stage.Mode.{Mode}
use Rattle.stages.specs.declared.stage.Mode.TheVariants.{Read, Write}
use Rattle.stages.specs.declared.stage.Addition.{Addition}
use Rattle.stages.specs.declared.stage.Addition.TheVariants.{A1, A2}
use Rattle.stages.specs.declared.stage.WriterEntry.TheVariants.{W6}
use Rattle.stages.specs.declared.stage.ReaderEntry.TheVariants.{R8}
use Rattle.stages.specs.declared.stage.Stage.{Stage}
use Rattle.stages.specs.declared.stage.Stage.TheVariants.{Idle, WriterEnters, ReaderEnters, Inside, Adds}
use Rattle.stages.specs.declared.stage.Stage.TheVariants.{WriterLeaves, ReaderLeaves}
use Rattle.stages.specs.Layout.{tail, link, node_cell, counter_cell, active}
use Rattle.lock.specs.Lock.{Size, stage_of, free}
use Rattle.lock.specs.Lines.{writer_joined, reader_joined}
use Rattle.door.specs.declared.fault.DoorFault.{DoorFault}
use Rattle.door.specs.declared.call.Call.{Call}
use Rattle.door.specs.declared.call.Call.TheVariants as call
use Rattle.door.specs.Faults.{number}
use Rattle.board.specs.Book.{Book, Place, Sum, after, fed_from}

-- The words of the promise.

-- a standing value
abbrev pub at : List ℕ → ℕ → ℕ
at cells x = slice_index cells x

-- a cell of a place's node
abbrev pub of_node : List ℕ → Place → Field → ℕ
of_node cells p f = at cells (node_cell p.node f)

-- p is in line
abbrev pub In : List Place → Place → Type 0
In l p = (x : List Place) × (y : List Place) × (l ≡ x ++ p ∷ y)

-- p is first in line
abbrev pub First : List Place → Place → Type 0
First l p = (y : List Place) × (l ≡ p ∷ y)

-- p is last in line
abbrev pub Last : List Place → Place → Type 0
Last l p = (x : List Place) × (l ≡ x ++ p ∷ [])

-- p stands right ahead of q
abbrev pub RightAhead : List Place → Place → Place → Type 0
RightAhead l p q = (x : List Place) × (y : List Place) × (l ≡ x ++ p ∷ q ∷ y)

-- p stands ahead of q
abbrev pub Ahead : List Place → Place → Place → Type 0
Ahead l p q = (x : List Place) × (y : List Place) × (w : List Place) × (l ≡ x ++ p ∷ y ++ q ∷ w)

-- an active reader is a node in line whose state stands at 3
abbrev pub Active : List ℕ → Place → Type 0
Active cells p = of_node cells p State ≡ active

-- a card's stage, by the book
abbrev pub stage : Book → ℕ → Stage
stage b c = stage_of b.board.lock c

-- a card inside to write, with its node; one in the middle of an add still counts as inside
abbrev pub WritesInside : Book → ℕ → ℕ → Type 0
WritesInside b c n = (stage b c ≡ Inside n Write) ⊎ ((at : Addition) × (stage b c ≡ Adds n at))

-- a card inside to read, with its node
abbrev pub ReadsInside : Book → ℕ → ℕ → Type 0
ReadsInside b c n = stage b c ≡ Inside n Read

-- a card that waits on its node, to write or to read
abbrev pub Waits : Book → ℕ → ℕ → Mode → Type 0
Waits b c n Write = stage b c ≡ WriterEnters n W6
Waits b c n Read = stage b c ≡ ReaderEnters n R8

-- the turn of a place has come: it is first in line, or a reader with an active reader right ahead
abbrev pub TurnCome : List ℕ → List Place → Place → Type 0
TurnCome cells l p = First l p ⊎ ((p.mode ≡ Read) × ((a : Place) × RightAhead l a p × Active cells a))

-- the standing cells of the book's own memory
abbrev pub cells_of : Book → List ℕ
cells_of b = b.board.lock.meaning.cells

-- a list of calls that holds no step of card d
abbrev pub NoStep : ℕ → List Call → Type 0
NoStep d [] = Unit {0}
NoStep d (call.Request c t k x y ∷ cs) = NoStep d cs
NoStep d (call.Step c ∷ cs) = (c ≢ d) × NoStep d cs
NoStep d (call.Abort c ∷ cs) = NoStep d cs
NoStep d (call.Reuse c n v ∷ cs) = NoStep d cs

-- whatever is called before it, card d's next step leaves node n's spin at 0; the cells are the book's, which are
-- those of every board that has followed the same calls
abbrev pub WakesNext : Size → Book → ℕ → ℕ → Type 0
WakesNext z b d n = (cs : List Call) → NoStep d cs
    → at (cells_of (after z (fed_from z b cs) (call.Step d))) (node_cell n Spin) ≡ 0

-- whatever is called before them, card d's next step or the one after leaves node n's spin at 0
abbrev pub Wakes : Size → Book → ℕ → ℕ → Type 0
Wakes z b d n =
    WakesNext z b d n
    ⊎ ((cs : List Call) → NoStep d cs → WakesNext z (after z (fed_from z b cs) (call.Step d)) d n)

-- the sum of a counter's adds
abbrev pub total : ℕ → List Sum → ℕ
total k [] = 0
total k (s ∷ l) = cond (s.counter == k) s.amount 0 + total k l

-- one card's places, in order
abbrev pub places_of : ℕ → List Place → List Place
places_of c [] = []
places_of c (p ∷ l) = cond (p.card == c) (p ∷ places_of c l) (places_of c l)

-- one card's adds, in order
abbrev pub sums_of : ℕ → List Sum → List Sum
sums_of c [] = []
sums_of c (s ∷ l) = cond (s.card == c) (s ∷ sums_of c l) (sums_of c l)

-- the entry that a card has under way: it asked, and has not joined the line yet
abbrev pub entry_under_way : ℕ → Stage → List Place
entry_under_way c Idle = []
entry_under_way c (WriterEnters n at) =
    cond (writer_joined at) [] (record { card = c; node = n; mode = Write } ∷ [])
entry_under_way c (ReaderEnters n at) =
    cond (reader_joined at) [] (record { card = c; node = n; mode = Read } ∷ [])
entry_under_way c (Inside n m) = []
entry_under_way c (Adds n at) = []
entry_under_way c (WriterLeaves n at) = []
entry_under_way c (ReaderLeaves n at) = []

-- the add that a card has under way
abbrev pub add_under_way : ℕ → Stage → List Sum
add_under_way c Idle = []
add_under_way c (WriterEnters n at) = []
add_under_way c (ReaderEnters n at) = []
add_under_way c (Inside n m) = []
add_under_way c (Adds n (A1 k a)) = record { card = c; counter = k; amount = a } ∷ []
add_under_way c (Adds n (A2 k a v)) = record { card = c; counter = k; amount = a } ∷ []
add_under_way c (WriterLeaves n at) = []
add_under_way c (ReaderLeaves n at) = []

-- The promises, one field each.

-- the line stands in the cells
pub record LineStands (cells : List ℕ) (l : List Place) : Type 0 where
  -- next names the node right behind, and the last has none
  pub linked : (p q : Place) → RightAhead l p q → of_node cells p Next ≡ link q.node
  pub ended : (p : Place) → Last l p → of_node cells p Next ≡ 0
  -- the tail names the last, or nobody
  pub tailed : (p : Place) → Last l p → at cells tail ≡ link p.node
  pub emptied : l ≡ [] → at cells tail ≡ 0
  -- a reader's prev names the node right ahead, or nobody
  pub backed : (p q : Place) → RightAhead l p q → q.mode ≡ Read → of_node cells q Prev ≡ link p.node
  pub headed : (p : Place) → First l p → p.mode ≡ Read → of_node cells p Prev ≡ 0
  -- no card and no node is in line twice
  pub once : (p q : Place) → Ahead l p q → p.card ≢ q.card
  pub apart : (p q : Place) → Ahead l p q → p.node ≢ q.node

-- who is inside
pub record InsideStands (cells : List ℕ) (b : Book) : Type 0 where
  -- a card inside to write is first in line, and alone inside
  pub first : (c n : ℕ) → WritesInside b c n → First b.line (record { card = c; node = n; mode = Write })
  pub alone : (c d n k : ℕ) → WritesInside b c n → WritesInside b d k ⊎ ReadsInside b d k → d ≡ c
  -- a card inside to read is in line, and ahead of it stand only active readers
  pub reading : (c n : ℕ) → ReadsInside b c n → In b.line (record { card = c; node = n; mode = Read })
  pub behind_active : (c n : ℕ) → ReadsInside b c n → (a : Place)
      → Ahead b.line a (record { card = c; node = n; mode = Read }) → Active cells a
  -- an active reader is a reader
  pub active_reads : (a : Place) → In b.line a → Active cells a → a.mode ≡ Read

-- no lost wake
pub record WakesStand (z : Size) (cells : List ℕ) (b : Book) : Type 0 where
  -- a card that waits is in line
  pub waiting : (c n : ℕ) (m : Mode) → Waits b c n m → In b.line (record { card = c; node = n; mode = m })
  -- where its turn has come its spin is 0, or another card's next step or the one after makes it 0
  pub woken : (c n : ℕ) (m : Mode) → Waits b c n m
      → TurnCome cells b.line (record { card = c; node = n; mode = m })
      → (at cells (node_cell n Spin) ≡ 0) ⊎ ((d : ℕ) × (d < z.cards) × (d ≢ c) × Wakes z b d n)

-- the whole promise: what stands in the cells before the first call and after each, beside the book
pub record Stands (z : Size) (cells : List ℕ) (b : Book) : Type 0 where
  pub line : LineStands cells b.line
  pub inside : InsideStands cells b
  pub wakes : WakesStand z cells b
  -- every counter holds the smaller of 65,535 and the sum of its finished adds
  pub counts : (k : ℕ) → k < z.counters → at cells (counter_cell z.nodes k) ≡ min 65535 (total k b.finished)
  -- no second entry: a card's joinings are its accepted enters, but for one that is still under way
  pub entries : (c : ℕ) → places_of c b.entries ≡ places_of c b.joinings ++ entry_under_way c (stage b c)
  -- no second count: a card's finished adds are its accepted adds, but for one that is still under way
  pub adds : (c : ℕ) → sums_of c b.asked ≡ sums_of c b.finished ++ add_under_way c (stage b c)

-- a call that is no reuse
abbrev pub NoReuse : Call → Type 0
NoReuse (call.Request c t k x y) = Unit {0}
NoReuse (call.Step c) = Unit {0}
NoReuse (call.Abort c) = Unit {0}
NoReuse (call.Reuse c n v) = ⊥

-- a node is free unless a card that is not idle entered with it
abbrev pub Free : Book → ℕ → Type 0
Free b n = free b.board.lock.cards n ≡ true

-- no request, step or abort changes a cell of a node that is free before and after it
abbrev pub Untouched : Size → Call → List ℕ → List ℕ → Book → Book → Type 0
Untouched z k old new b d = NoReuse k → (n : ℕ) → n < z.nodes → Free b n → Free d n
    → (f : Field) → at new (node_cell n f) ≡ at old (node_cell n f)

-- the refusal of the memory never comes up
abbrev pub Never8 : Result Answer DoorFault → Type 0
Never8 (Ok a) = Unit {0}
Never8 (Err f) = number f ≡ 8 → ⊥
