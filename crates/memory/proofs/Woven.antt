-- A list that a loop turns into another, place by place.
use Rattle.std.proofs.Common.{◌≡◌, ℕ, zero, suc, ◌+◌, ◌<◌, ◌≤◌, ◌≢◌, ◌⊎◌, List, [], ◌∷◌, ◌++◌, map, length, get_or}
use Rattle.std.proofs.Common.{take, drop, set, sym, refl, ap, ◌∙◌, ⊎_elim, append-nil, add-one, arith}
use Rattle.std.proofs.Common.{get_or-set_other, get_or-set_same}
use Rattle.std.proofs.lemmas.List.{take_all, drop_all, get_or-map, length-map, length-set}

-- the first i elements of xs, and the others of ys
abbrev pub woven : {X : Type 0} → ℕ → List X → List X → List X
woven i xs ys = take i xs ++ drop i ys

-- past the end it is xs
woven_all : {X : Type 0} (i : ℕ) (xs ys : List X) → length xs ≤ i → length ys ≤ i → woven i xs ys ≡ xs
woven_all i xs ys h k = rw (take_all i xs h, drop_all i ys k, append-nil) refl

-- one place more: what stands there is put to what xs has
woven_set : {X : Type 0} (i : ℕ) (xs ys : List X) (d : X) → i < length xs → length xs ≡ length ys
    → set (woven i xs ys) i (get_or xs i d) ≡ woven (suc i) xs ys
woven_set i [] ys d h e = absurd (omega arith)
woven_set i (x ∷ xs) [] d h e = absurd (omega arith)
woven_set zero (x ∷ xs) (y ∷ ys) d h e = refl
woven_set (suc i) (x ∷ xs) (y ∷ ys) d h e = ap (λ l. x ∷ l) (woven_set i xs ys d (omega arith) (omega arith))

-- and nothing is done where xs and ys agree
woven_same : {X : Type 0} (i : ℕ) (xs ys : List X) (d : X) → i < length xs → length xs ≡ length ys
    → get_or xs i d ≡ get_or ys i d → woven i xs ys ≡ woven (suc i) xs ys
woven_same i [] ys d h e q = absurd (omega arith)
woven_same i (x ∷ xs) [] d h e q = absurd (omega arith)
woven_same zero (x ∷ xs) (y ∷ ys) d h e q = ap (λ z. z ∷ ys) (sym q)
woven_same (suc i) (x ∷ xs) (y ∷ ys) d h e q = ap (λ l. x ∷ l) (woven_same i xs ys d (omega arith) (omega arith) q)

-- the place that is next is still as ys has it
woven_at : {X : Type 0} (i : ℕ) (xs ys : List X) (d : X) → i < length xs → length xs ≡ length ys
    → get_or (woven i xs ys) i d ≡ get_or ys i d
woven_at i [] ys d h e = absurd (omega arith)
woven_at i (x ∷ xs) [] d h e = absurd (omega arith)
woven_at zero (x ∷ xs) (y ∷ ys) d h e = refl
woven_at (suc i) (x ∷ xs) (y ∷ ys) d h e = woven_at i xs ys d (omega arith) (omega arith)

-- A loop that puts f of each element in its place, but at one place.
module _ {X : Type 0} (f : X → X) (at : ℕ) (d : X) where
  -- what the loop leaves
  abbrev pub others : List X → List X
  others ys = set (map f ys) at (get_or ys at d)

  -- it has as many elements
  length_others : (ys : List X) → length (others ys) ≡ length ys
  length_others ys = simp (length-set, length-map)

  -- at the one place it is as it was
  others_at : (ys : List X) (i : ℕ) → i < length ys → i ≡ at → get_or (others ys) i d ≡ get_or ys i d
  others_at ys i h e =
      let k : at < length (map f ys) = simp length-map (omega arith) in
      rw e (get_or-set_same (map f ys) at (get_or ys at d) d k)

  -- at every other it is f of what was there
  others_by : (ys : List X) (i : ℕ) → i < length ys → i ≢ at → get_or (others ys) i d ≡ f (get_or ys i d)
  others_by ys i h n = get_or-set_other (map f ys) at i (get_or ys at d) d n ∙ get_or-map f ys i d d h

  module _ (ys ms : List X) (i : ℕ) (inv : ms ≡ woven i (others ys) ys) (h : i < length ys) where
    -- the place whose turn it is has not changed yet
    stands : get_or ms i d ≡ get_or ys i d
    stands =
        ap (λ l. get_or l i d) inv ∙ woven_at i (others ys) ys d (rw (length_others ys) h) (length_others ys)

    -- the turn at another place
    pub others_set : (v : X) → i ≢ at → v ≡ f (get_or ms i d) → set ms i v ≡ woven (i + 1) (others ys) ys
    others_set v n e =
        let e' : v ≡ get_or (others ys) i d = e ∙ (ap f stands ∙ sym (others_by ys i h n)) in
        rw (add-one, inv, e') (woven_set i (others ys) ys d (rw (length_others ys) h) (length_others ys))

    -- the turn that leaves what stands there
    pub others_kept : (i ≡ at) ⊎ ((i ≢ at) × (f (get_or ms i d) ≡ get_or ms i d)) → ms ≡ woven (i + 1) (others ys) ys
    others_kept w =
        let e : get_or (others ys) i d ≡ get_or ys i d =
        ⊎_elim
        (λ q. others_at ys i h q)
        (λ p. others_by ys i h p.0 ∙ (ap f (sym stands) ∙ (p.1 ∙ stands)))
        w in
        rw add-one (inv ∙ woven_same i (others ys) ys d (rw (length_others ys) h) (length_others ys) e)

  -- the loop is done
  pub others_all : (ys ms : List X) (i : ℕ) → ms ≡ woven i (others ys) ys → length ys ≤ i → ms ≡ others ys
  others_all ys ms i inv k = inv ∙ woven_all i (others ys) ys (rw (length_others ys) k) k
