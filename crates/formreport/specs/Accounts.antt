-- What the form checker prints for a text. Assumes nothing.
use Rattle.std.specs.Prelude.{◌≡◌, ℕ, ◌+◌, ◌<◌, ◌≤◌, List, [], ◌++◌, length, Ok, Err, Result}
use Rattle.textline.specs.declared.events.Event.{Event}
use Rattle.textline.specs.declared.events.SizeLines.{SizeLines}
use Rattle.textline.specs.declared.faults.FormFault.{FormFault}
use Rattle.textline.specs.declared.faults.FormFault.TheVariants.{TooLong, BadLine}
use Rattle.schedule.specs.Schedules.{front_of, text_of, Renders, RendersNone, StopsAt}
use Rattle.schedule.specs.Sections.{SizeSection}
use Rattle.formtext.specs.declared.faults.ReadFault.{ReadFault}
use Rattle.formtext.specs.declared.faults.ReadFault.TheVariants.{Memory, Form}
use Rattle.textline.specs.Faults.{bad_line}
use Rattle.formwords.specs.Words.{sizes_line, count_line, event_lines, whole_line}

-- `told` is what is understood of bs before the fault
pub data Before (bs : List ℕ) : List ℕ → FormFault → Type 0 where
  -- nothing of a text that is too long
  long : 65535 < length bs → Before bs [] TooLong
  -- nothing where one of the four size lines is at fault
  unsized : (line : ℕ) → length bs ≤ 65535 → line ≤ 4 → StopsAt line bs → Before bs [] (BadLine line)
  -- the sizes, where the count of events is at fault
  uncounted : (s : SizeLines) (after : List ℕ) → length bs ≤ 65535 → SizeSection bs s after → StopsAt 5 bs
      → Before bs (sizes_line s) (BadLine 5)
  -- the sizes, the count and the events before the line at fault, which no rendering has
  stopped : (s : SizeLines) (count : ℕ) (done : List Event) (rest : List ℕ) (line : ℕ) → length bs ≤ 65535
      → bs ≡ text_of (front_of s count done) ++ rest → line ≡ 6 + length done → StopsAt line bs → RendersNone bs
      → Before bs (sizes_line s ++ (count_line count ++ event_lines 6 done)) (BadLine line)

-- what is understood of bs, up to its end or to the fault, is appended to `start` and gives `now`
abbrev pub Tells : List ℕ → List ℕ → List ℕ → Result (Unit {0}) ReadFault → Type 0
Tells start bs now (Ok u) =
    (s : SizeLines) × (es : List Event) × (length bs ≤ 65535) × Renders bs s es
    × (now ≡ start ++ (sizes_line s ++ (count_line (length es) ++ event_lines 6 es)))
Tells start bs now (Err (Memory e)) = Unit {0}
Tells start bs now (Err (Form f)) = (told : List ℕ) × (now ≡ start ++ told) × Before bs told f

-- `last` is the verdict that ends an account; there is none for want of memory
abbrev pub Verdict : Result (Unit {0}) ReadFault → List ℕ → Type 0
Verdict (Ok u) last = last ≡ whole_line
Verdict (Err (Form f)) last = last ≡ bad_line f
Verdict (Err (Memory e)) last = ⊥

-- all that is printed for bs: what is understood, and then the verdict
pub data Accounts (bs : List ℕ) : List ℕ → Type 0 where
  refused : (told : List ℕ) (f : FormFault) → Before bs told f → Accounts bs (told ++ bad_line f)
  accepted : (s : SizeLines) (es : List Event) → length bs ≤ 65535 → Renders bs s es
      → Accounts bs ((sizes_line s ++ (count_line (length es) ++ event_lines 6 es)) ++ whole_line)
