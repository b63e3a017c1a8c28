-- What each call takes off the front of a schedule. Assumes nothing.
use Rattle.std.specs.Prelude.{◌≡◌, ℕ, ◌+◌, ◌<◌, ◌≤◌, List, [], ◌∷◌, ◌++◌, length, Ok, Err, decimal, Result, ◌≢◌}
use Rattle.std.specs.Borrow.{Bor}
use Rattle.textline.specs.declared.events.Event.{Event}
use Rattle.textline.specs.declared.events.SizeLines.{SizeLines}
use Rattle.textline.specs.declared.faults.FormFault.{FormFault}
use Rattle.textline.specs.declared.faults.FormFault.TheVariants.{TooLong, BadLine}
use Rattle.textline.specs.Lines.{NumberLine, EventLine}
use Rattle.textline.specs.Numbers.{Small}
use Rattle.schedule.specs.Schedules.{text_of, StopsAt}

-- bs begins with the size section of s
pub record SizeSection (bs : List ℕ) (s : SizeLines) (after : List ℕ) : Type 0 where
  pub small : Small (s.cards ∷ s.nodes ∷ s.counters ∷ [])
  pub whole : bs ≡ text_of (decimal 3 ∷ decimal s.cards ∷ decimal s.nodes ∷ decimal s.counters ∷ []) ++ after

-- the number of the next line and what is behind it; where there is none, `line` is at fault
abbrev pub TakesNumber : List ℕ → ℕ → Result (ℕ × Bor (List ℕ)) FormFault → Type 0
TakesNumber bs line (Ok p) = NumberLine bs p.0 p.1.now
TakesNumber bs line (Err f) = (f ≡ BadLine line) × ((n : ℕ) (after : List ℕ) → NumberLine bs n after → ⊥)

-- the sizes, of a text of at most 65,535 bytes; too long is said before all else,
-- and a bad line is the first at which the text stops being that of a schedule
abbrev pub TakesSizes : List ℕ → Result (SizeLines × Bor (List ℕ)) FormFault → Type 0
TakesSizes bs (Ok p) = (length bs ≤ 65535) × SizeSection bs p.0 p.1.now
TakesSizes bs (Err TooLong) = 65535 < length bs
TakesSizes bs (Err (BadLine line)) = (length bs ≤ 65535) × (line ≤ 4) × StopsAt line bs

-- the count of events, at most 2,000, or a fault at the fifth line
abbrev pub TakesCount : List ℕ → Result (ℕ × Bor (List ℕ)) FormFault → Type 0
TakesCount bs (Ok p) = (p.0 ≤ 2000) × NumberLine bs p.0 p.1.now
TakesCount bs (Err f) = (f ≡ BadLine 5) × ((n : ℕ) (after : List ℕ) → n ≤ 2000 → NumberLine bs n after → ⊥)

-- the event of the next line, or a fault at the line of the event numbered `index` from 0
abbrev pub TakesEvent : List ℕ → ℕ → Result (Event × Bor (List ℕ)) FormFault → Type 0
TakesEvent bs index (Ok p) = EventLine bs p.0 p.1.now
TakesEvent bs index (Err f) = (f ≡ BadLine (6 + index)) × ((e : Event) (after : List ℕ) → EventLine bs e after → ⊥)

-- nothing is left, or a fault at the line after the last of `count` events
abbrev pub TakesEnd : List ℕ → ℕ → Result (Unit {0}) FormFault → Type 0
TakesEnd bs count (Ok u) = bs ≡ []
TakesEnd bs count (Err f) = (f ≡ BadLine (6 + count)) × (bs ≢ [])
