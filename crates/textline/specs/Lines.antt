-- Lines of a schedule. Assumes nothing.
use Rattle.std.specs.Prelude.{◌≡◌, ℕ, ◌<◌, List, ◌∷◌, ◌++◌, length, Some, None, decimal, Option, ◌≢◌, slice_index}
use Rattle.std.specs.Borrow.{Bor}
use Rattle.textline.specs.declared.events.Event.{Event}
use Rattle.textline.specs.Events.{written, numbers_of}
use Rattle.textline.specs.Numbers.{Small}

-- no line ends in bs
abbrev pub NoEnd : List ℕ → Type 0
NoEnd bs = (k : ℕ) → k < length bs → slice_index bs k ≢ 10

-- bs is a line, its end and what is behind it
pub record Cut (bs line after : List ℕ) : Type 0 where
  pub whole : bs ≡ line ++ (10 ∷ after)
  pub one : NoEnd line

-- the first line and what is behind it; where there is none, no line ends in bs
abbrev pub CutsLine : List ℕ → Option (Bor (List ℕ) × Bor (List ℕ)) → Type 0
CutsLine bs (Some p) = Cut bs p.0.now p.1.now
CutsLine bs None = NoEnd bs

-- bs begins with a line that holds just the number n, at most 65,535
pub record NumberLine (bs : List ℕ) (n : ℕ) (after : List ℕ) : Type 0 where
  pub small : n < 65536
  pub whole : bs ≡ decimal n ++ (10 ∷ after)

-- bs begins with the line of the event e, whose numbers are at most 65,535
pub record EventLine (bs : List ℕ) (e : Event) (after : List ℕ) : Type 0 where
  pub small : Small (numbers_of e)
  pub whole : bs ≡ written e ++ (10 ∷ after)

-- the number of the first line and what is behind it; where there is none, bs begins with no such line
abbrev pub CutsNumber : List ℕ → Option (ℕ × Bor (List ℕ)) → Type 0
CutsNumber bs (Some p) = NumberLine bs p.0 p.1.now
CutsNumber bs None = (n : ℕ) (after : List ℕ) → NumberLine bs n after → ⊥

-- the event of the first line and what is behind it; where there is none, bs begins with no such line
abbrev pub CutsEvent : List ℕ → Option (Event × Bor (List ℕ)) → Type 0
CutsEvent bs (Some p) = EventLine bs p.0 p.1.now
CutsEvent bs None = (e : Event) (after : List ℕ) → EventLine bs e after → ⊥
