-- How a number stands in a schedule. Assumes nothing.
use Rattle.std.specs.Prelude.{◌≡◌, ℕ, ◌<◌, List, [], ◌∷◌, ◌++◌, length, Some, None, decimal, Option, slice_index}
use Rattle.std.specs.Prelude.{slice_index_or}
use Rattle.std.specs.Borrow.{Bor}
use Rattle.std.specs.List.{AllByRecursion}
use Rattle.std.specs.Int.{IsInRange}

-- the value that is there has the property P; where there is none, no value has it
abbrev pub Found : {A : Type 0} → (A → Type 0) → Option A → Type 0
Found P (Some x) = P x
Found {A} P None = (x : A) → P x → ⊥

-- bs is the decimal text of n, which is at most 65,535
pub record Numeral (bs : List ℕ) (n : ℕ) : Type 0 where
  pub small : n < 65536
  pub text : bs ≡ decimal n

-- bs has a first byte, which is no sign, and no zero unless it stands alone
pub record StartsPlain (bs : List ℕ) : Type 0 where
  pub some : 0 < length bs
  pub unsigned : slice_index_or bs 0 0 ≡ 43 → ⊥
  pub alone : slice_index_or bs 0 0 ≡ 48 → length bs ≡ 1

-- no digit stands at the front of bs
abbrev pub Stops : List ℕ → Type 0
Stops bs = IsInRange 48 57 (slice_index bs 0) → ⊥

-- bs is a space, the number n and what follows, which begins with no digit
pub record Field (bs : List ℕ) (n : ℕ) (after : List ℕ) : Type 0 where
  pub small : n < 65536
  pub whole : bs ≡ 32 ∷ (decimal n ++ after)
  pub stops : Stops after

-- the number and what follows it; where there is none, bs begins with no such number
abbrev pub TakesField : List ℕ → Option (ℕ × Bor (List ℕ)) → Type 0
TakesField bs (Some p) = Field bs p.0 p.1.now
TakesField bs None = (n : ℕ) (after : List ℕ) → Field bs n after → ⊥

-- numbers, each after one space
abbrev pub spelled : List ℕ → List ℕ
spelled [] = []
spelled (n ∷ ns) = 32 ∷ (decimal n ++ spelled ns)

-- every number is at most 65,535
abbrev pub Small : List ℕ → Type 0
Small ns = AllByRecursion (λ n. n < 65536) ns

-- bs is just `count` numbers, each after one space
pub record Spells (count : ℕ) (bs : List ℕ) (ns : List ℕ) : Type 0 where
  pub long : length ns ≡ count
  pub small : Small ns
  pub text : bs ≡ spelled ns
