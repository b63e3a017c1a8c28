-- The search for the first record of a cell.
use Rattle.std.proofs.Common.{◌≡◌, ℕ, suc, ◌+◌, Bool, true, false, cond, eqb, List, [], ◌∷◌}
use Rattle.std.proofs.Common.{is_some, Some, None, Option, refl, ap, ◌∙◌, subst, arith}
use Rattle.std.specs.List.{position, position_from}
use Rattle.std.proofs.lemmas.Iterator.Adapters.{position_from-zero}
use Rattle.memory.specs.Meaning.{has, seek}

module _ {X : Type 0} (f : X → ℕ) (cell : ℕ) where
  -- whether a record is of the cell
  abbrev pub of_cell : X → Bool
  of_cell x = eqb (f x) cell

  -- the search by std's word, with places counted from k
  seek_from : (k : ℕ) (xs : List X) → position_from of_cell k xs ≡ seek f cell k xs
  seek_from k [] = refl
  seek_from k (x ∷ xs) = ap (cond (of_cell x) (Some k)) (seek_from (k + 1) xs)

  -- with places counted from 0
  pub seek_is : (xs : List X) → position of_cell xs ≡ seek f cell 0 xs
  seek_is xs = position_from-zero of_cell xs ∙ seek_from 0 xs

  -- a record is found where there is one
  pub seek_has : (k : ℕ) (xs : List X) → has f xs cell ≡ is_some (seek f cell k xs)
  seek_has k [] = refl
  seek_has k (x ∷ xs) =
      elim (eqb (f x) cell) as (λ b. cond b true (has f xs cell) ≡ is_some (cond b (Some k) (seek f cell (k + 1) xs)))
      [ true ↦ refl | false ↦ seek_has (k + 1) xs ]

  -- what holds of a record of the cell, and is kept by a record of another cell in front, holds of what was found
  module _ (P : List X → ℕ → Type 0) (hit : (x : X) (xs : List X) → eqb (f x) cell ≡ true → P (x ∷ xs) 0)
      (miss : (x : X) (xs : List X) (j : ℕ) → eqb (f x) cell ≡ false → P xs j → P (x ∷ xs) (suc j)) where
    -- by whether the first record is of the cell
    found_step : (k : ℕ) (x : X) (xs : List X) (i : ℕ) (s : Option ℕ) (b : Bool) → eqb (f x) cell ≡ b
        → cond b (Some k) s ≡ Some i → (s ≡ Some i → (j : ℕ) × (i ≡ (k + 1) + j) × P xs j)
        → (j : ℕ) × (i ≡ k + j) × P (x ∷ xs) j
    found_step k x xs i s true q e r = let z : k ≡ i = cc in (0, omega arith, hit x xs q)
    found_step k x xs i s false q e r =
        let p = r e in (suc p.0, omega (arith, p.1), miss x xs p.0 q p.2)

    -- over all records, with places counted from k
    found_from : (k : ℕ) (xs : List X) (i : ℕ) → seek f cell k xs ≡ Some i → (j : ℕ) × (i ≡ k + j) × P xs j
    found_from k [] i e = cc
    found_from k (x ∷ xs) i e =
        found_step k x xs i (seek f cell (k + 1) xs) (eqb (f x) cell) refl e (found_from (k + 1) xs i)

    -- with places counted from 0
    pub found : (xs : List X) (i : ℕ) → seek f cell 0 xs ≡ Some i → P xs i
    found xs i e =
        let r = found_from 0 xs i e in
        let z : r.0 ≡ i = omega (arith, r.1) in
        subst (λ j. P xs j) z r.2

  -- what holds of no records, and is kept by a record of another cell in front, holds where none is found
  module _ (P : List X → Type 0) (empty : P [])
      (miss : (x : X) (xs : List X) → eqb (f x) cell ≡ false → P xs → P (x ∷ xs)) where
    -- by whether the first record is of the cell
    none_step : (k : ℕ) (x : X) (xs : List X) (s : Option ℕ) (b : Bool) → eqb (f x) cell ≡ b
        → cond b (Some k) s ≡ None → (s ≡ None → P xs) → P (x ∷ xs)
    none_step k x xs s true q e r = cc
    none_step k x xs s false q e r = miss x xs q (r e)

    -- over all records
    pub none_found : (k : ℕ) (xs : List X) → seek f cell k xs ≡ None → P xs
    none_found k [] e = empty
    none_found k (x ∷ xs) e =
        none_step k x xs (seek f cell (k + 1) xs) (eqb (f x) cell) refl e (none_found (k + 1) xs)
