-- A whole schedule as text: its rendering, and the first line where a text is the rendering of none. Assumes nothing.
use Rattle.std.specs.Prelude.{◌≡◌, ℕ, ◌+◌, ◌≤◌, List, [], ◌∷◌, ◌++◌, map, length, take, decimal}
use Rattle.std.specs.List.{AllByRecursion}
use Rattle.textline.specs.declared.events.Event.{Event}
use Rattle.textline.specs.declared.events.SizeLines.{SizeLines}
use Rattle.textline.specs.Events.{written, numbers_of}
use Rattle.textline.specs.Numbers.{Small}

-- the lines of a schedule of `count` events, up to the last of `done`
abbrev pub front_of : SizeLines → ℕ → List Event → List (List ℕ)
front_of s count done =
    decimal 3 ∷ decimal s.cards ∷ decimal s.nodes ∷ decimal s.counters ∷ decimal count ∷ map written done

-- the lines of a schedule, without their ends: `3`, the sizes, the count of events, the events
abbrev pub lines_of : SizeLines → List Event → List (List ℕ)
lines_of s es = front_of s (length es) es

-- lines as text: byte 10 ends each
abbrev pub text_of : List (List ℕ) → List ℕ
text_of [] = []
text_of (line ∷ lines) = line ++ (10 ∷ text_of lines)

-- the text of a schedule
abbrev pub rendered : SizeLines → List Event → List ℕ
rendered s es = text_of (lines_of s es)

-- sizes and events that a schedule can hold: numbers of at most 65,535, and at most 2,000 events
pub record Sound (s : SizeLines) (es : List Event) : Type 0 where
  pub sizes : Small (s.cards ∷ s.nodes ∷ s.counters ∷ [])
  pub few : length es ≤ 2000
  pub events : AllByRecursion (λ e. Small (numbers_of e)) es

-- this text is the rendering of these sizes and events
pub record Renders (bs : List ℕ) (s : SizeLines) (es : List Event) : Type 0 where
  pub sound : Sound s es
  pub text : bs ≡ rendered s es

-- this text is the rendering of no schedule
abbrev pub RendersNone : List ℕ → Type 0
RendersNone bs = (s : SizeLines) (es : List Event) → Renders bs s es → ⊥

-- two schedules that differ never have one text
abbrev pub OneRendering : Type 0
OneRendering =
    (s t : SizeLines) (es fs : List Event) → Sound s es → Sound t fs → rendered s es ≡ rendered t fs
    → (s ≡ t) × (es ≡ fs)

-- bs begins with the first k lines of some schedule's text
pub record Fits (k : ℕ) (bs : List ℕ) : Type 0 where
  pub sizes : SizeLines
  pub events : List Event
  pub after : List ℕ
  pub sound : Sound sizes events
  pub enough : k ≤ length (lines_of sizes events)
  pub whole : bs ≡ text_of (take k (lines_of sizes events)) ++ after

-- `line` is the first line of bs at which it stops being the text of a schedule:
-- the lines before it are those of some schedule, and with it they are those of none
pub record StopsAt (line : ℕ) (bs : List ℕ) : Type 0 where
  pub before : ℕ
  pub next : line ≡ before + 1
  pub fits : Fits before bs
  pub none : Fits (before + 1) bs → ⊥
