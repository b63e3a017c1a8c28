-- Two open transactions never overlap, and each is orderly: laws over all runs of a memory.
use Rattle.std.specs.Prelude.{◌≡◌, ℕ, ◌<◌, ◌≤◌, Bool, true, false, cond, ◌||◌, ◌≢◌, List, [], ◌∷◌, length}
use Rattle.memory.specs.declared.write.Write.{Write}
use Rattle.memory.specs.declared.call.MemoryCall.{MemoryCall}
use Rattle.memory.specs.Meaning.{Meaning, Tx, none, live, doomed, tx_of, cleared, has, wrote, marked}
use Rattle.memory.specs.Calls.{after_calls}

-- whether an open transaction has written the cell
abbrev pub has_written : Tx → ℕ → Bool
has_written none cell = false
has_written (live ms ws) cell = wrote ws cell
has_written doomed cell = false

-- whether an open transaction has written or marked the cell
abbrev pub has_touched : Tx → ℕ → Bool
has_touched none cell = false
has_touched (live ms ws) cell = wrote ws cell || marked ms cell
has_touched doomed cell = false

-- what one card's open transaction has written, no other card's has marked or written
abbrev pub Apart : Meaning → Type 0
Apart m = (c d cell : ℕ) → c ≢ d → has_written (tx_of m c) cell ≡ true → has_touched (tx_of m d) cell ≡ false

-- no two of the records are of one cell; f gives a record's cell
abbrev pub once : {X : Type 0} → (X → ℕ) → List X → Bool
once f [] = true
once f (x ∷ xs) = cond (has f xs (f x)) false (once f xs)

-- at most four records, no two of one cell, each of a cell that there is
pub record Few {X : Type 0} (f : X → ℕ) (xs : List X) : Type 0 where
  pub four : length xs ≤ 4
  pub single : once f xs ≡ true
  pub within : (cell : ℕ) → has f xs cell ≡ true → cell < 137

-- what an open transaction has marked and written
abbrev pub Orderly : Tx → Type 0
Orderly none = Unit {0}
Orderly (live ms ws) = Few (λ k. k) ms × Few (λ (w : Write). w.cell) ws
Orderly doomed = Unit {0}

-- 137 cells, eight cards, orderly transactions, and no two that overlap
pub record Sound (m : Meaning) : Type 0 where
  pub cells : length m.cells ≡ 137
  pub cards : length m.txs ≡ 8
  pub orderly : (card : ℕ) → Orderly (tx_of m card)
  pub apart : Apart m

-- so it is after every list of calls
abbrev pub AlwaysSound : Type 0
AlwaysSound = (calls : List MemoryCall) → Sound (after_calls cleared calls)
