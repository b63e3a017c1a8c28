-- Plain lists: parts that are kept under append, and lists of numbers that do not repeat.
use Rattle.std.proofs.Common.{◌≡◌, ℕ, zero, suc, ◌<◌, ◌≤◌, Bool, true, false, cond, eqb, ◌⊎◌, List, [], ◌∷◌, ◌++◌}
use Rattle.std.proofs.Common.{length, sym, refl, ap, ◌∙◌, subst, inl, inr, append_assoc, arith}
use Rattle.std.proofs.lemmas.Bool.{eqb-true, eqb-false}
use Rattle.board.proofs.Chain.{without, In, Once}

-- a fact of both ways of a test
pub by_test : {A : Type 0} (P : A → Type 0) (b : Bool) (x y : A) → P x → P y → P (cond b x y)
by_test P true x y p q = p
by_test P false x y p q = q

-- a head that a test keeps or leaves out goes through an append
pub keeps_head : {X : Type 0} (b : Bool) (x : X) (a l k : List X) → a ≡ l ++ k
    → cond b (x ∷ a) a ≡ cond b (x ∷ l) l ++ k
keeps_head true x a l k e = ap (λ r. x ∷ r) e
keeps_head false x a l k e = e

-- what one list has of a part and another lacks stays with what is added to both
pub parts_add : {X : Type 0} (part : List X → List X) → ((l k : List X) → part (l ++ k) ≡ part l ++ part k)
    → (all some more done u v : List X) → part all ≡ part some ++ u → u ++ part more ≡ part done ++ v
    → part (all ++ more) ≡ part (some ++ done) ++ v
parts_add part app all some more done u v h k =
    app all more ∙ ap (λ x. x ++ part more) h ∙ append_assoc (part some) u (part more) ∙ ap (λ x. part some ++ x) k
    ∙ sym (append_assoc (part some) (part done) v) ∙ ap (λ x. x ++ v) (sym (app some done))

-- Lists of numbers that do not repeat.

-- one taken out makes a list shorter by one at most
without_length : (n : ℕ) (l : List ℕ) → length l ≤ suc (length (without n l))
without_length n [] = omega arith
without_length n (d ∷ l) = go (eqb d n) (without_length n l)
  where
    go : (b : Bool) → length l ≤ suc (length (without n l))
        → suc (length l) ≤ suc (length (cond b l (d ∷ without n l)))
    go true h = omega arith
    go false h = omega arith

-- it has no others
without_in : (n c : ℕ) (l : List ℕ) → In c (without n l) → In c l
without_in n c [] i = i
without_in n c (d ∷ l) i = go (eqb d n) (without_in n c l) i
  where
    go : (b : Bool) → (In c (without n l) → In c l) → In c (cond b l (d ∷ without n l)) → (c ≡ d) ⊎ In c l
    go true h i = inr i
    go false h (inl e) = inl e
    go false h (inr i) = inr (h i)

-- and none twice
pub without_once : (n : ℕ) (l : List ℕ) → Once l → Once (without n l)
without_once n [] u = tt
without_once n (d ∷ l) u = go (eqb d n) (without_once n l u.1)
  where
    go : (b : Bool) → Once (without n l) → Once (cond b l (d ∷ without n l))
    go true h = u.1
    go false h = (λ i. u.0 (without_in n d l i), h)

-- the number taken out is not there any more
pub without_gone : (n : ℕ) (l : List ℕ) → Once l → In n (without n l) → ⊥
without_gone n [] u i = i
without_gone n (d ∷ l) u i = go (eqb d n) refl (without_gone n l u.1) i
  where
    go : (b : Bool) → eqb d n ≡ b → (In n (without n l) → ⊥) → In n (cond b l (d ∷ without n l)) → ⊥
    go true e h i = u.0 (subst (λ (x : ℕ). In x l) (sym (eqb-true d n e)) i)
    go false e h (inl q) = eqb-false d n e (sym q)
    go false e h (inr i) = h i

-- n numbers below n at most
pub once_few : (n : ℕ) (l : List ℕ) → Once l → ((c : ℕ) → In c l → c < n) → length l ≤ n
once_few zero [] u h = omega arith
once_few zero (c ∷ l) u h = let k = h c (inl refl) in absurd (omega arith)
once_few (suc n) l u h =
    let few = once_few n (without n l) (without_once n l u) (λ c i. below c i (h c (without_in n c l i))) in
    let long = without_length n l in omega arith
  where
    below : (c : ℕ) → In c (without n l) → c < suc n → c < n
    below c i k = go (λ (e : c ≡ n). without_gone n l u (subst (λ (x : ℕ). In x (without n l)) e i))
      where
        go : (c ≡ n → ⊥) → c < n
        go ne = omega arith
