-- Writes that are landed, where no two are of one cell.
use Rattle.std.proofs.Common.{◌≡◌, ℕ, ◌<◌, Bool, true, false, cond, eqb, ◌≢◌, List, [], ◌∷◌, ◌++◌, map, length, get_or}
use Rattle.std.proofs.Common.{set, Some, None, sym, refl, ap, ◌∙◌, subst, length-set}
use Rattle.std.proofs.Common.{get_or-set_same, ne_eqb, eqb-true}
use lib.Seq.{set_comm}
use borrow.Author.Tests.{eqb-false}
use Rattle.std.proofs.lemmas.Bool.{cond-false}
use Rattle.memory.specs.declared.write.Write.{Write}
use Rattle.memory.specs.Meaning.{wrote, landed, value_in}
use Rattle.memory.proofs.Isolation.{clash}
use Rattle.memory.proofs.Lasting.{landed_other}
use Rattle.inplace.specs.Undo.{distinct, written}

-- Cells that writes lack.
-- the first write is of another cell, and the rest lack it
pub lacks_head : (u : Write) (us : List Write) (c : ℕ) → wrote (u ∷ us) c ≡ false
    → (u.cell ≢ c) × (wrote us c ≡ false)
lacks_head u us c e = go (eqb u.cell c) refl e where
  go : (b : Bool) → eqb u.cell c ≡ b → cond b true (wrote us c) ≡ false → (u.cell ≢ c) × (wrote us c ≡ false)
  go true q r = clash true refl r
  go false q r = (eqb-false _ _ q, r)

-- a write of another cell in front
lacks_cons : (u : Write) (us : List Write) (c : ℕ) → u.cell ≢ c → wrote us c ≡ false → wrote (u ∷ us) c ≡ false
lacks_cons u us c n e = cond-false _ _ _ (ne_eqb u.cell c n) ∙ e

-- what two lists lack, both together lack
pub lacks_append : (us vs : List Write) (c : ℕ) → wrote us c ≡ false → wrote vs c ≡ false
    → wrote (us ++ vs) c ≡ false
lacks_append [] vs c p q = q
lacks_append (u ∷ us) vs c p q =
    let h = lacks_head u us c p in
    lacks_cons u (us ++ vs) c h.0 (lacks_append us vs c h.1 q)

-- what both together lack, the first lacks
pub lacks_left : (us vs : List Write) (c : ℕ) → wrote (us ++ vs) c ≡ false → wrote us c ≡ false
lacks_left [] vs c p = refl
lacks_left (u ∷ us) vs c p =
    let h = lacks_head u (us ++ vs) c p in
    lacks_cons u us c h.0 (lacks_left us vs c h.1)

-- and the second
pub lacks_right : (us vs : List Write) (c : ℕ) → wrote (us ++ vs) c ≡ false → wrote vs c ≡ false
lacks_right [] vs c p = p
lacks_right (u ∷ us) vs c p = lacks_right us vs c (lacks_head u (us ++ vs) c p).1

-- Writes of other cells than others.
-- each of us is of a cell that vs lack
abbrev pub Other : List Write → List Write → Type 0
Other [] vs = Unit {0}
Other (u ∷ us) vs = (wrote vs u.cell ≡ false) × Other us vs

-- the first of vs is of a cell that us lack
other_back : (us vs : List Write) (v : Write) → Other us (v ∷ vs) → wrote us v.cell ≡ false
other_back [] vs v a = refl
other_back (u ∷ us) vs v a =
    let n : u.cell ≢ v.cell = λ q. (lacks_head v vs u.cell a.0).0 (sym q) in
    lacks_cons u us v.cell n (other_back us vs v a.1)

-- without the first of vs
other_tail : (us vs : List Write) (v : Write) → Other us (v ∷ vs) → Other us vs
other_tail [] vs v a = tt
other_tail (u ∷ us) vs v a = ((lacks_head v vs u.cell a.0).1, other_tail us vs v a.1)

-- it goes both ways
pub other_sym : (us vs : List Write) → Other us vs → Other vs us
other_sym us [] a = tt
other_sym us (v ∷ vs) a = (other_back us vs v a, other_sym us vs (other_tail us vs v a))

-- than those of the first part
pub other_left : (us vs ws : List Write) → Other us (vs ++ ws) → Other us vs
other_left [] vs ws a = tt
other_left (u ∷ us) vs ws a = (lacks_left vs ws u.cell a.0, other_left us vs ws a.1)

-- each part of them is of other cells
pub other_parts : (us vs ws : List Write) → Other (us ++ vs) ws → Other us ws × Other vs ws
other_parts [] vs ws a = (tt, a)
other_parts (u ∷ us) vs ws a = let r = other_parts us vs ws a.1 in ((a.0, r.0), r.1)

-- and both parts together
pub other_join : (us vs ws : List Write) → Other us ws → Other vs ws → Other (us ++ vs) ws
other_join [] vs ws a b = b
other_join (u ∷ us) vs ws a b = (a.0, other_join us vs ws a.1 b)

-- Distinct writes.
-- the others lack the cell of the first, and are distinct
pub distinct_head : (u : Write) (us : List Write) → distinct (u ∷ us) ≡ true
    → (wrote us u.cell ≡ false) × (distinct us ≡ true)
distinct_head u us e = go (wrote us u.cell) refl e where
  go : (b : Bool) → wrote us u.cell ≡ b → cond b false (distinct us) ≡ true
      → (wrote us u.cell ≡ false) × (distinct us ≡ true)
  go true q r = clash false r refl
  go false q r = (q, r)

-- two parts of distinct writes are of other cells
pub distinct_other : (us vs : List Write) → distinct (us ++ vs) ≡ true → Other us vs
distinct_other [] vs e = tt
distinct_other (u ∷ us) vs e =
    let h = distinct_head u (us ++ vs) e in
    (lacks_right us vs u.cell h.0, distinct_other us vs h.1)

-- the first part is distinct
pub distinct_left : (us vs : List Write) → distinct (us ++ vs) ≡ true → distinct us ≡ true
distinct_left [] vs e = refl
distinct_left (u ∷ us) vs e =
    let h = distinct_head u (us ++ vs) e in
    cond-false _ _ _ (lacks_left us vs u.cell h.0) ∙ distinct_left us vs h.1

-- and the second
pub distinct_right : (us vs : List Write) → distinct (us ++ vs) ≡ true → distinct vs ≡ true
distinct_right [] vs e = e
distinct_right (u ∷ us) vs e = distinct_right us vs (distinct_head u (us ++ vs) e).1

-- some in the middle are left out
pub distinct_without : (ls us rs : List Write) → distinct (ls ++ (us ++ rs)) ≡ true → distinct (ls ++ rs) ≡ true
distinct_without [] us rs e = distinct_right us rs e
distinct_without (a ∷ ls) us rs e =
    let h = distinct_head a (ls ++ (us ++ rs)) e in
    let r = lacks_right us rs a.cell (lacks_right ls (us ++ rs) a.cell h.0) in
    let l = lacks_append ls rs a.cell (lacks_left ls (us ++ rs) a.cell h.0) r in
    cond-false _ _ _ l ∙ distinct_without ls us rs h.1

-- one of a cell that they lack is put in
pub distinct_insert : (xs ys : List Write) (w : Write) → wrote (xs ++ ys) w.cell ≡ false
    → distinct (xs ++ ys) ≡ true → distinct (xs ++ (w ∷ ys)) ≡ true
distinct_insert [] ys w l d = cond-false _ _ _ l ∙ d
distinct_insert (x ∷ xs) ys w l d =
    let h = distinct_head x (xs ++ ys) d in
    let p = lacks_head x (xs ++ ys) w.cell l in
    let n : w.cell ≢ x.cell = λ q. p.0 (sym q) in
    let r = lacks_cons w ys x.cell n (lacks_right xs ys x.cell h.0) in
    cond-false _ _ _ (lacks_append xs (w ∷ ys) x.cell (lacks_left xs ys x.cell h.0) r)
    ∙ distinct_insert xs ys w p.1 h.1

-- Landing, write by write.
-- one part after the other
pub landed_append : (cs : List ℕ) (us vs : List Write) → landed cs (us ++ vs) ≡ landed (landed cs us) vs
landed_append cs [] vs = refl
landed_append cs (u ∷ us) vs = landed_append (set cs u.cell u.value) us vs

-- a cell that the writes lack may be set before or after
pub landed_set : (cs : List ℕ) (us : List Write) (c v : ℕ) → wrote us c ≡ false
    → landed (set cs c v) us ≡ set (landed cs us) c v
landed_set cs [] c v e = refl
landed_set cs (u ∷ us) c v e =
    let h = lacks_head u us c e in
    let n : c ≢ u.cell = λ q. h.0 (sym q) in
    ap (λ l. landed l us) (set_comm cs c u.cell v u.value n)
    ∙ landed_set (set cs u.cell u.value) us c v h.1

-- writes of other cells may land before or after
pub landed_comm : (cs : List ℕ) (us vs : List Write) → Other us vs
    → landed (landed cs us) vs ≡ landed (landed cs vs) us
landed_comm cs [] vs a = refl
landed_comm cs (u ∷ us) vs a =
    landed_comm (set cs u.cell u.value) us vs a.1
    ∙ ap (λ l. landed l us) (landed_set cs vs u.cell u.value a.0)

-- some in the middle may land first
pub landed_without : (cs : List ℕ) (ls us rs : List Write) → distinct (ls ++ (us ++ rs)) ≡ true
    → landed cs (ls ++ (us ++ rs)) ≡ landed (landed cs us) (ls ++ rs)
landed_without cs [] us rs e = landed_append cs us rs
landed_without cs (a ∷ ls) us rs e =
    let h = distinct_head a (ls ++ (us ++ rs)) e in
    let k = lacks_left us rs a.cell (lacks_right ls (us ++ rs) a.cell h.0) in
    landed_without (set cs a.cell a.value) ls us rs h.1
    ∙ ap (λ l. landed l (ls ++ rs)) (landed_set cs us a.cell a.value k)

-- what other writes have put into cells is still there
pub written_other : (cs : List ℕ) (us vs : List Write) → Other vs us
    → map (written (landed cs us)) vs ≡ map (written cs) vs
written_other cs us [] a = refl
written_other cs us (v ∷ vs) a =
    let e = landed_other cs us v.cell a.0 in
    let r = written_other cs us vs a.1 in
    cc

-- Values by the first write of a cell.
-- where there is none, no write is of the cell
pub value_lacks : (us : List Write) (c : ℕ) → value_in us c ≡ None → wrote us c ≡ false
value_lacks [] c e = refl
value_lacks (u ∷ us) c e =
    (elim (eqb u.cell c) as
    (λ b. cond b (Some u.value) (value_in us c) ≡ None → cond b true (wrote us c) ≡ false)
    [ true ↦ λ r. cc | false ↦ λ r. value_lacks us c r ]) e

-- a value in the first part is the value
pub value_append : (us vs : List Write) (c v : ℕ) → value_in us c ≡ Some v → value_in (us ++ vs) c ≡ Some v
value_append [] vs c v e = cc
value_append (u ∷ us) vs c v e =
    (elim (eqb u.cell c) as
    (λ b. cond b (Some u.value) (value_in us c) ≡ Some v
    → cond b (Some u.value) (value_in (us ++ vs) c) ≡ Some v)
    [ true ↦ λ r. r | false ↦ λ r. value_append us vs c v r ]) e

-- where the first part has none, the second has it
pub value_skip : (us vs : List Write) (c : ℕ) → value_in us c ≡ None → value_in (us ++ vs) c ≡ value_in vs c
value_skip [] vs c e = refl
value_skip (u ∷ us) vs c e =
    let h = lacks_head u us c (value_lacks (u ∷ us) c e) in
    let q = ne_eqb u.cell c h.0 in
    cond-false _ _ _ q ∙ value_skip us vs c (sym (cond-false _ _ _ q) ∙ e)

-- of distinct writes, the one of a cell gives its value
pub landed_at : (cs : List ℕ) (us : List Write) (c v : ℕ) → distinct us ≡ true → c < length cs
    → value_in us c ≡ Some v → get_or (landed cs us) c 0 ≡ v
landed_at cs [] c v d h e = cc
landed_at cs (u ∷ us) c v d h e =
    go (eqb u.cell c) refl e
    (landed_at (set cs u.cell u.value) us c v (distinct_head u us d).1 (rw length-set h)) where
      go : (b : Bool) → eqb u.cell c ≡ b → cond b (Some u.value) (value_in us c) ≡ Some v
          → (value_in us c ≡ Some v → get_or (landed (set cs u.cell u.value) us) c 0 ≡ v)
          → get_or (landed (set cs u.cell u.value) us) c 0 ≡ v
      go true q r k =
          let w : u.value ≡ v = cc in
          let z : u.cell ≡ c = eqb-true u.cell c q in
          let l : wrote us c ≡ false = subst (λ x. wrote us x ≡ false) z (distinct_head u us d).0 in
          landed_other (set cs u.cell u.value) us c l
          ∙ (ap (λ x. get_or (set cs x u.value) c 0) z ∙ (get_or-set_same cs c u.value 0 h ∙ w))
      go false q r k = k r
