-- How an event stands in a schedule. Assumes nothing.
use Rattle.std.specs.Prelude.{◌≡◌, ℕ, List, [], ◌∷◌}
use Rattle.textline.specs.declared.events.Event.{Event}
use Rattle.textline.specs.declared.events.Event.TheVariants.{Read, Write, Leave, Add, Show, Step, Abort, Reuse}
use Rattle.textline.specs.Numbers.{spelled, Small}

-- the letter of an event: r, w, l, a, c, s, x or u
abbrev pub letter : Event → ℕ
letter (Read card toggle node) = 114
letter (Write card toggle node) = 119
letter (Leave card toggle) = 108
letter (Add card toggle counter amount) = 97
letter (Show card toggle counter) = 99
letter (Step card) = 115
letter (Abort card) = 120
letter (Reuse card node next prev state spin) = 117

-- the numbers of an event, in the order of its line
abbrev pub numbers_of : Event → List ℕ
numbers_of (Read card toggle node) = card ∷ toggle ∷ node ∷ []
numbers_of (Write card toggle node) = card ∷ toggle ∷ node ∷ []
numbers_of (Leave card toggle) = card ∷ toggle ∷ []
numbers_of (Add card toggle counter amount) = card ∷ toggle ∷ counter ∷ amount ∷ []
numbers_of (Show card toggle counter) = card ∷ toggle ∷ counter ∷ []
numbers_of (Step card) = card ∷ []
numbers_of (Abort card) = card ∷ []
numbers_of (Reuse card node next prev state spin) = card ∷ node ∷ next ∷ prev ∷ state ∷ spin ∷ []

-- the line of an event, without its end: the letter and the numbers, each after one space
abbrev pub written : Event → List ℕ
written e = letter e ∷ spelled (numbers_of e)

-- bs is the line of e, whose numbers are at most 65,535
pub record Writes (bs : List ℕ) (e : Event) : Type 0 where
  pub small : Small (numbers_of e)
  pub text : bs ≡ written e
