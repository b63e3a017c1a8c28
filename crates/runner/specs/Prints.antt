-- What is printed for a text. Assumes nothing.
use Rattle.std.specs.Prelude.{◌≡◌, ℕ, ◌+◌, ◌<◌, ◌≤◌, List, [], ◌∷◌, ◌++◌, length, Ok, Err, Result}
use Rattle.std.specs.List.{AllByRecursion}
use Rattle.stages.specs.declared.answer.Answer.{Answer}
use Rattle.lock.specs.declared.fault.SizeFault.{SizeFault}
use Rattle.lock.specs.Lock.{Size, sized}
use Rattle.door.specs.declared.fault.DoorFault.{DoorFault}
use Rattle.door.specs.Door.{new_door, answers}
use Rattle.board.specs.Book.{fed}
use Rattle.board.specs.History.{nodes_of, CarriedThroughout}
use Rattle.board.specs.Recounts.{RecountedThroughout}
use Rattle.textline.specs.declared.events.Event.{Event}
use Rattle.textline.specs.declared.events.SizeLines.{SizeLines}
use Rattle.textline.specs.declared.faults.FormFault.TheVariants.{TooLong, BadLine}
use Rattle.textline.specs.Events.{numbers_of}
use Rattle.textline.specs.Numbers.{Small}
use Rattle.schedule.specs.Schedules.{front_of, text_of, Renders, RendersNone, StopsAt}
use Rattle.schedule.specs.Sections.{SizeSection}
use Rattle.report.specs.Texts.{answer_line, bad_line, sizes_line, queue_line}
use Rattle.runner.specs.Calls.{calls_of}

-- the lines of answers, the first of which has the number k
abbrev pub answer_lines : ℕ → List (Result Answer DoorFault) → List ℕ
answer_lines k [] = []
answer_lines k (r ∷ rs) = answer_line k r ++ answer_lines (k + 1) rs

-- the lines of what events answer on a new board, numbered from 1
abbrev pub answered : Size → List Event → List ℕ
answered z es = answer_lines 1 (answers z new_door (calls_of es))

-- the line of the nodes in line after events, by the book
abbrev pub queued : Size → List Event → List ℕ
queued z es = queue_line (nodes_of (fed z (calls_of es)).line)

-- what the size lines ask for: a board of sizes, or a refusal
abbrev pub asks : SizeLines → Result Size SizeFault
asks s = sized s.cards s.nodes s.counters

-- bs has the sizes s, a count and the events `done`, and goes on with `rest`
pub record Reaches (bs : List ℕ) (s : SizeLines) (count : ℕ) (done : List Event) (rest : List ℕ) : Type 0 where
  pub few : count ≤ 2000
  pub within : length done ≤ count
  pub small : AllByRecursion (λ e. Small (numbers_of e)) done
  pub whole : bs ≡ text_of (front_of s count done) ++ rest

-- what is printed for bs, whose size lines are s, from the events on; z are the sizes of the board
pub data Runs (bs : List ℕ) (s : SizeLines) (z : Size) : List ℕ → Type 0 where
  -- the count of events is at fault
  uncounted : StopsAt 5 bs → Runs bs s z (bad_line (BadLine 5))
  -- the line after some events is at fault, missing or extra: these were run, and no rendering has the line
  stopped : (count : ℕ) (done : List Event) (rest : List ℕ) (line : ℕ) → Reaches bs s count done rest
      → line ≡ 6 + length done → StopsAt line bs → RendersNone bs
      → Runs bs s z (answered z done ++ bad_line (BadLine line))
  -- a whole schedule
  finished : (es : List Event) → Renders bs s es → Runs bs s z (answered z es ++ queued z es)

-- all that is printed for bs
pub data Prints (bs : List ℕ) : List ℕ → Type 0 where
  -- more than 65,535 bytes: nothing is read
  long : 65535 < length bs → Prints bs (bad_line TooLong)
  -- one of the four size lines is at fault
  unsized : (line : ℕ) → length bs ≤ 65535 → line ≤ 4 → StopsAt line bs → Prints bs (bad_line (BadLine line))
  -- no board has these sizes, whatever follows them
  refused : (s : SizeLines) (after : List ℕ) (e : SizeFault) → length bs ≤ 65535 → SizeSection bs s after
      → asks s ≡ Err e → Prints bs (sizes_line e)
  -- there is such a board, and the events are run on it
  ran : (s : SizeLines) (after : List ℕ) (z : Size) (x : List ℕ) → length bs ≤ 65535 → SizeSection bs s after
      → asks s ≡ Ok z → Runs bs s z x → Prints bs x

-- what is printed for a text is one: the memory under the board has no say in it
abbrev pub OnePrint : Type 0
OnePrint = (bs x y : List ℕ) → Prints bs x → Prints bs y → x ≡ y

-- the promise of the board stands before the first event and after each, on every board that size lines ask for
abbrev pub PromiseStands : Type 0
PromiseStands = (s : SizeLines) (z : Size) (es : List Event) → asks s ≡ Ok z → CarriedThroughout z [] (calls_of es)

-- and each event's answer tells the truth, is refused only with cause, and leaves free nodes their cells
abbrev pub RecountsStand : Type 0
RecountsStand = (s : SizeLines) (z : Size) (es : List Event) → asks s ≡ Ok z
    → RecountedThroughout z [] (calls_of es) new_door
