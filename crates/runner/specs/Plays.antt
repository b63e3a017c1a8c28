-- What a run leaves before its last line, and that line. Assumes nothing.
use Rattle.std.specs.Prelude.{◌≡◌, ℕ, ◌≤◌, List, ◌++◌, length, Ok, Err, Result}
use Rattle.memory.specs.Meaning.{Meaning}
use Rattle.door.specs.declared.call.Call.{Call}
use Rattle.board.specs.declared.board.Board.{Board}
use Rattle.board.specs.Book.{fed, Follows}
use Rattle.board.specs.History.{board_state, board_size, nodes_of}
use Rattle.textline.specs.declared.events.Event.{Event}
use Rattle.textline.specs.declared.events.SizeLines.{SizeLines}
use Rattle.schedule.specs.Schedules.{Renders}
use Rattle.schedule.specs.Sections.{SizeSection}
use Rattle.report.specs.Texts.{bad_line, sizes_line, queue_line}
use Rattle.runner.specs.declared.faults.RunFault.{RunFault}
use Rattle.runner.specs.declared.faults.RunFault.TheVariants.{Memory, Form, Sizes}
use Rattle.runner.specs.Calls.{calls_of}
use Rattle.runner.specs.Prints.{answered, asks, Prints}

-- a board that has run all of bs
pub record Whole {X : Type 0} (meaning : X → Meaning) (bs told : List ℕ) (b : Board X) : Type 0 where
  pub sizes : SizeLines
  pub events : List Event
  pub after : List ℕ
  pub short : length bs ≤ 65535
  pub section : SizeSection bs sizes after
  pub asked : asks sizes ≡ Ok (board_size b)
  pub renders : Renders bs sizes events
  pub follows : Follows (board_size b) (calls_of events) (board_state meaning b)
  pub told_is : told ≡ answered (board_size b) events

-- what is appended to `start` gives `now`; where the run does not end, the line of its fault completes what is printed
abbrev pub Plays : {X : Type 0} → (X → Meaning) → List ℕ → List ℕ → List ℕ → Result (Board X) RunFault → Type 0
Plays meaning start bs now (Ok b) = (told : List ℕ) × (now ≡ start ++ told) × Whole meaning bs told b
Plays meaning start bs now (Err (Memory _)) = Unit {0}
Plays meaning start bs now (Err (Form f)) = (told : List ℕ) × (now ≡ start ++ told) × Prints bs (told ++ bad_line f)
Plays meaning start bs now (Err (Sizes e)) = (told : List ℕ) × (now ≡ start ++ told) × Prints bs (told ++ sizes_line e)

-- `last` is the queue line of a board, whatever calls it has followed
abbrev pub Queues : {X : Type 0} → (X → Meaning) → Board X → List ℕ → Type 0
Queues meaning b last = (cs : List Call) → Follows (board_size b) cs (board_state meaning b)
    → last ≡ queue_line (nodes_of (fed (board_size b) cs).line)

-- `last` is the line that ends a run; there is none for want of memory
abbrev pub Ends : {X : Type 0} → (X → Meaning) → Result (Board X) RunFault → List ℕ → Type 0
Ends meaning (Ok b) last = Queues meaning b last
Ends meaning (Err (Memory _)) last = ⊥
Ends meaning (Err (Form f)) last = last ≡ bad_line f
Ends meaning (Err (Sizes e)) last = last ≡ sizes_line e
