-- What is read of a whole text. Assumes nothing.
use Rattle.std.specs.Prelude.{◌≡◌, ℕ, ◌<◌, ◌≤◌, List, length, Ok, Err, vec_items, Result}
use Rattle.textline.specs.declared.events.Event.{Event}
use Rattle.textline.specs.declared.events.SizeLines.{SizeLines}
use Rattle.textline.specs.declared.faults.FormFault.TheVariants.{TooLong, BadLine}
use Rattle.schedule.specs.Schedules.{Renders, RendersNone, StopsAt}
use Rattle.formtext.specs.declared.faults.ReadFault.{ReadFault}
use Rattle.formtext.specs.declared.faults.ReadFault.TheVariants.{Memory, Form}
use Rattle.formtext.specs.declared.reading.Schedule.{Schedule}

-- a text of at most 65,535 bytes is the rendering of what is read; where it is that of nothing,
-- the fault names the first line at which it stops being that of a schedule
abbrev pub Reads : List ℕ → Result Schedule ReadFault → Type 0
Reads bs (Ok v) = (length bs ≤ 65535) × Renders bs v.sizes (vec_items v.events)
Reads bs (Err (Memory e)) = Unit {0}
Reads bs (Err (Form TooLong)) = 65535 < length bs
Reads bs (Err (Form (BadLine line))) = (length bs ≤ 65535) × StopsAt line bs × RendersNone bs

-- the sizes s and the events es come back, unless memory is wanting
abbrev pub GivesBack : SizeLines → List Event → Result Schedule ReadFault → Type 0
GivesBack s es (Ok v) = (v.sizes ≡ s) × (vec_items v.events ≡ es)
GivesBack s es (Err (Memory e)) = Unit {0}
GivesBack s es (Err (Form f)) = ⊥

-- what the text is a rendering of is read, and every schedule whose text has at most 65,535 bytes is read back from it
pub record ReadsWhole (bs : List ℕ) (r : Result Schedule ReadFault) : Type 0 where
  pub reads : Reads bs r
  pub back : (s : SizeLines) (es : List Event) → Renders bs s es → length bs ≤ 65535 → GivesBack s es r
