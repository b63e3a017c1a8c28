-- The kinds of requests and their numbers outside.
use Rattle.std.specs.Prelude.{◌≡◌, ◌≢◌, ℕ, Result, MatchResult}
use Rattle.door.specs.declared.request.Kind.{Kind}
use Rattle.door.specs.declared.request.Kind.TheVariants.{EnterToRead, EnterToWrite, Leave, Add, Show}
use Rattle.door.specs.declared.fault.DoorFault.{DoorFault}
use Rattle.door.specs.declared.fault.DoorFault.TheVariants.{Malformed}

-- the number by which a kind is known outside
abbrev pub kind_number : Kind → ℕ
kind_number EnterToRead = 1
kind_number EnterToWrite = 2
kind_number Leave = 3
kind_number Add = 4
kind_number Show = 5

-- the number names the kind that is given; where it names none, the request is malformed
abbrev pub Names : ℕ → Result Kind DoorFault → Type 0
Names n r = MatchResult r (λ k. kind_number k ≡ n) (λ f. (f ≡ Malformed) × ((k : Kind) → kind_number k ≢ n))
