-- The nodes in line, found from the memory's standing cells and the cards' stages.
use Rattle.std.specs.Prelude.{ℕ, zero, suc, ◌-◌, Bool, true, false, cond, List, [], ◌∷◌, ◌++◌, length, replicate, Ok}
use Rattle.std.specs.Prelude.{Err, Result, ◌==◌}
use Rattle.memory.specs.declared.fault.MemoryFault.{MemoryFault}
use Rattle.memory.specs.Meaning.{Meaning, looking}
use Rattle.stages.specs.declared.layout.Field.TheVariants.{Next}
use Rattle.stages.specs.declared.stage.WriterEntry.{WriterEntry}
use Rattle.stages.specs.declared.stage.WriterEntry.TheVariants.{W1, W2, W3, W4, W5, W6}
use Rattle.stages.specs.declared.stage.ReaderEntry.{ReaderEntry}
use Rattle.stages.specs.declared.stage.ReaderEntry.TheVariants.{R1, R2, R3, R4, R5, R6, R7}
use Rattle.stages.specs.declared.stage.ReaderEntry.TheVariants.{R8, R9, R10, R11, R12, R13, R14}
use Rattle.stages.specs.declared.stage.WriterExit.{WriterExit}
use Rattle.stages.specs.declared.stage.WriterExit.TheVariants.{X1, X2, X3, X4, X5}
use Rattle.stages.specs.declared.stage.ReaderExit.{ReaderExit}
use Rattle.stages.specs.declared.stage.ReaderExit.TheVariants.{Y1, Y2, Y3, Y4, Y5, Y6, Y7, Y8}
use Rattle.stages.specs.declared.stage.Stage.{Stage}
use Rattle.stages.specs.declared.stage.Stage.TheVariants.{Idle, WriterEnters, ReaderEnters, Inside, Adds}
use Rattle.stages.specs.declared.stage.Stage.TheVariants.{WriterLeaves, ReaderLeaves}
use Rattle.stages.specs.declared.stage.Card.{Card}
use Rattle.stages.specs.Layout.{link, cell_of}

-- whether a writer on its way in has joined the line
abbrev pub writer_joined : WriterEntry → Bool
writer_joined W1 = false
writer_joined W2 = false
writer_joined (W3 p) = false
writer_joined (W4 p) = false
writer_joined (W5 p) = false
writer_joined W6 = true

-- whether a reader on its way in has joined the line
abbrev pub reader_joined : ReaderEntry → Bool
reader_joined R1 = false
reader_joined R2 = false
reader_joined (R3 p) = false
reader_joined (R4 p) = false
reader_joined (R5 p) = false
reader_joined (R6 p) = false
reader_joined (R7 p s) = false
reader_joined R8 = true
reader_joined R9 = true
reader_joined R10 = true
reader_joined R11 = true
reader_joined (R12 t) = true
reader_joined (R13 t) = true
reader_joined (R14 t) = true

-- whether a writer on its way out is still in line
abbrev pub writer_stays : WriterExit → Bool
writer_stays X1 = true
writer_stays X2 = true
writer_stays (X3 t) = true
writer_stays (X4 t) = true
writer_stays (X5 t) = false

-- whether a reader on its way out is still in line
abbrev pub reader_stays : ReaderExit → Bool
reader_stays Y1 = true
reader_stays Y2 = true
reader_stays (Y3 p) = true
reader_stays (Y4 p t) = true
reader_stays (Y5 p t) = true
reader_stays (Y6 p t) = true
reader_stays (Y7 p t s) = true
reader_stays (Y8 t) = false

-- the link of a card's node in line, 0 where the card is not in line
abbrev pub line_link : Stage → ℕ
line_link Idle = 0
line_link (WriterEnters n at) = cond (writer_joined at) (link n) 0
line_link (ReaderEnters n at) = cond (reader_joined at) (link n) 0
line_link (Inside n m) = link n
line_link (Adds n at) = link n
line_link (WriterLeaves n at) = cond (writer_stays at) (link n) 0
line_link (ReaderLeaves n at) = cond (reader_stays at) (link n) 0

-- a refused look finds nobody
abbrev pub seen : Result ℕ MemoryFault → ℕ
seen (Ok v) = v
seen (Err f) = 0

-- the link that stands in the next of the node that a link names
abbrev pub behind : Meaning → ℕ → ℕ
behind m k = seen (looking m (cell_of k Next))

-- whether a card in line has a node whose next is the link
abbrev pub points : Meaning → Stage → ℕ → Bool
points m g k = cond (line_link g == 0) false (behind m (line_link g) == k)

abbrev pub has_ahead : Meaning → List Card → ℕ → Bool
has_ahead m [] k = false
has_ahead m (r ∷ rs) k = cond (points m r.stage k) true (has_ahead m rs k)

-- whether a card is in line with nobody ahead of it
abbrev pub leads : Meaning → List Card → Stage → Bool
leads m all g = cond (line_link g == 0) false (cond (has_ahead m all (line_link g)) false true)

-- the link of the first in line among the cards; 0 where there is none
abbrev pub first_link : Meaning → List Card → List Card → ℕ
first_link m all [] = 0
first_link m all (r ∷ rs) = cond (leads m all r.stage) (line_link r.stage) (first_link m all rs)

-- at most f nodes from a link on, by next
unfoldable pub walk : Meaning → ℕ → ℕ → List ℕ
walk m zero k = []
walk m (suc f) zero = []
walk m (suc f) (suc n) = n ∷ walk m f (behind m (suc n))

-- the nodes in line, in order; there are never more than the eight cards
abbrev pub nodes_in_line : Meaning → List Card → List ℕ
nodes_in_line m cs = walk m 8 (first_link m cs cs)

-- a place of eight numbers, the unused ones 0
abbrev pub placed : List ℕ → List ℕ
placed ns = ns ++ replicate (8 - length ns) 0
