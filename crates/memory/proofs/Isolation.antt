-- Two open transactions never overlap: kept by every call, by what a call can do to a meaning.
use Rattle.std.proofs.Common.{◌≡◌, ℕ, zero, suc, ◌≤◌, Bool, true, false, cond, ◌||◌, eqb, ltb, ◌≢◌, ◌⊎◌, List, []}
use Rattle.std.proofs.Common.{◌∷◌, ◌++◌, map, length, get_or, set, replicate, Some, None, sym, refl, ap, ◌∙◌, subst}
use Rattle.std.proofs.Common.{inl, inr, ⊎_elim}
use Rattle.std.proofs.lemmas.List.{get_or-set_other, get_or-set_same, get_or-map, get_or_past, length-map, set_past}
use Rattle.std.proofs.lemmas.Bool.{cases_eq, cases_lt, cond-false, eqb-true, ne_eqb, or_parts}
use Rattle.memory.specs.declared.write.Write.{Write}
use Rattle.memory.specs.declared.call.MemoryCall.{MemoryCall}
use Rattle.memory.specs.declared.access.Access.{Access}
use Rattle.memory.specs.declared.access.Access.TheVariants.{Reads, Writes}
use Rattle.memory.specs.Meaning.{Meaning, Tx, none, live, doomed, tx_of, with_tx, served, struck, conflicts, has}
use Rattle.memory.specs.Meaning.{wrote, marked, marking, recording, replaced, cleared}
use Rattle.memory.specs.Isolation.{has_written, has_touched, Apart}
use Rattle.memory.specs.Calls.{performed}
use Rattle.memory.proofs.Kept.{Kept, kept_call}

-- the same of cards' transactions as a function
abbrev pub ApartBy : (ℕ → Tx) → Type 0
ApartBy t = (c d cell : ℕ) → c ≢ d → has_written (t c) cell ≡ true → has_touched (t d) cell ≡ false

-- nothing is both
pub clash : {X : Type 0} (b : Bool) → b ≡ true → b ≡ false → X
clash b p q = cc

-- Another card's transaction after an access.
-- it has written nothing new
struck_written : (a : Access) (cell : ℕ) (t : Tx) (x : ℕ) → has_written (struck a cell t) x ≡ true
    → has_written t x ≡ true
struck_written a cell t x = go (conflicts a cell t) where
  go : (b : Bool) → has_written (cond b doomed t) x ≡ true → has_written t x ≡ true
  go true e = clash false e refl
  go false e = e

-- and touched nothing new
struck_touched : (a : Access) (cell : ℕ) (t : Tx) (x : ℕ) → has_touched t x ≡ false
    → has_touched (struck a cell t) x ≡ false
struck_touched a cell t x e = go (conflicts a cell t) where
  go : (b : Bool) → has_touched (cond b doomed t) x ≡ false
  go true = refl
  go false = e

-- what is not touched is not written
untouched : (t : Tx) (x : ℕ) → has_touched t x ≡ false → has_written t x ≡ false
untouched none x e = refl
untouched (live ms ws) x e = (or_parts (wrote ws x) (marked ms x) e).0
untouched doomed x e = refl

-- what an access does not go against has not written the cell
no_conflict : (a : Access) (cell : ℕ) (t : Tx) → conflicts a cell t ≡ false → has_written t cell ≡ false
no_conflict a cell none e = refl
no_conflict Reads cell (live ms ws) e = e
no_conflict Writes cell (live ms ws) e = (or_parts (wrote ws cell) (marked ms cell) e).0
no_conflict a cell doomed e = refl

-- it has not written the cell
pub struck_unwritten : (a : Access) (cell : ℕ) (t : Tx) → has_written (struck a cell t) cell ≡ false
struck_unwritten a cell t = go (conflicts a cell t) refl where
  go : (b : Bool) → conflicts a cell t ≡ b → has_written (cond b doomed t) cell ≡ false
  go true q = refl
  go false q = no_conflict a cell t q

-- an access that gives the cell a value goes against whoever has touched it
same_conflict : (cell : ℕ) (t : Tx) → conflicts Writes cell t ≡ has_touched t cell
same_conflict cell none = refl
same_conflict cell (live ms ws) = refl
same_conflict cell doomed = refl

-- nor touched it, where the access gave the cell a value
struck_untouched : (cell : ℕ) (t : Tx) → has_touched (struck Writes cell t) cell ≡ false
struck_untouched cell t = go (conflicts Writes cell t) refl where
  go : (b : Bool) → conflicts Writes cell t ≡ b → has_touched (cond b doomed t) cell ≡ false
  go true q = refl
  go false q = sym (same_conflict cell t) ∙ q

-- The cards' transactions after a change.
-- an access leaves another card's transaction struck
pub served_other : (a : Access) (card cell : ℕ) (own : Tx) (m : Meaning) (d : ℕ) → d ≢ card
    → tx_of (served a card cell own m) d ≡ struck a cell (tx_of m d)
served_other a card cell own m d n =
    get_or-set_other (map (struck a cell) m.txs) card d own none n
    ∙ ⊎_elim
    (λ h. get_or-map (struck a cell) m.txs d none none h)
    (λ h.
    let k : length (map (struck a cell) m.txs) ≤ d = rw (length-map m.txs (struck a cell)) h in
    get_or_past (map (struck a cell) m.txs) d none k
    ∙ sym (ap (struck a cell) (get_or_past m.txs d none h)))
    (cases_lt d (length m.txs))

-- what is put at a place is there, unless the place is past the end
pub set_at : (P : Tx → Type 0) (ts : List Tx) (i : ℕ) (t : Tx) → P t → P none → P (get_or (set ts i t) i none)
set_at P ts i t p q =
    ⊎_elim
    (λ h. subst P (sym (get_or-set_same ts i t none h)) p)
    (λ h. subst P (sym (ap (λ l. get_or l i none) (set_past ts i t h) ∙ get_or_past ts i none h)) q)
    (cases_lt i (length ts))

-- one card's transaction is new, and the others have nothing new
apart_from : (t u : ℕ → Tx) (card : ℕ) → ApartBy t
    → ((d x : ℕ) → d ≢ card → has_written (u d) x ≡ true → has_written (t d) x ≡ true)
    → ((d x : ℕ) → d ≢ card → has_touched (t d) x ≡ false → has_touched (u d) x ≡ false)
    → ((d x : ℕ) → d ≢ card → has_written (u card) x ≡ true → has_touched (u d) x ≡ false)
    → ((d x : ℕ) → d ≢ card → has_written (u d) x ≡ true → has_touched (u card) x ≡ false)
    → ApartBy u
apart_from t u card A less none_new mine theirs c d x n w =
    ⊎_elim
    (λ (e : c ≡ card).
    mine d x (λ q. n (e ∙ sym q)) (ap (λ i. has_written (u i) x) (sym e) ∙ w))
    (λ (k : c ≡ card → ⊥).
    ⊎_elim
    (λ (e : d ≡ card). ap (λ i. has_touched (u i) x) e ∙ theirs c x k w)
    (λ (l : d ≡ card → ⊥). none_new d x l (A c d x n (less c x k w)))
    (cases_eq d card))
    (cases_eq c card)

-- a card's transaction gives way to one that has touched nothing
pub apart_put : (m : Meaning) (card : ℕ) (t : Tx) → ((x : ℕ) → has_touched t x ≡ false) → Apart m
    → Apart (with_tx m card t)
apart_put m card t bare A =
    let u = tx_of (with_tx m card t) in
    let other : (d : ℕ) → d ≢ card → u d ≡ tx_of m d = λ d n. get_or-set_other m.txs card d t none n in
    let own : (x : ℕ) → has_touched (u card) x ≡ false =
    λ x. set_at (λ y. has_touched y x ≡ false) m.txs card t (bare x) refl in
    apart_from (tx_of m) u card A
    (λ d x n w. ap (λ y. has_written y x) (sym (other d n)) ∙ w)
    (λ d x n e. ap (λ y. has_touched y x) (other d n) ∙ e)
    (λ d x n w. clash (has_written (u card) x) w (untouched (u card) x (own x)))
    (λ d x n w. own x)

-- An access by a card: what it then has differs from what it had at the cell alone.
pub record Grown (a : Access) (cell : ℕ) (old own : Tx) : Type 0 where
  pub written : (x : ℕ) → x ≢ cell → has_written own x ≡ true → has_written old x ≡ true
  pub touched : (x : ℕ) → x ≢ cell → has_touched old x ≡ false → has_touched own x ≡ false
  pub looked : a ≡ Reads → has_written own cell ≡ true → has_written old cell ≡ true

-- an access that only looks, or one that gives the cell a value
access_cases : (a : Access) → (a ≡ Reads) ⊎ (a ≡ Writes)
access_cases Reads = inl refl
access_cases Writes = inr refl

-- a card without a transaction has nothing
grown_none : (a : Access) (cell : ℕ) (old : Tx) → Grown a cell old none
grown_none a cell old = record {
  written = λ x n w. clash false w refl;
  touched = λ x n e. refl;
  looked = λ q w. clash false w refl;
}

-- transactions stay apart over an access
pub apart_served : (a : Access) (card cell : ℕ) (own : Tx) (m : Meaning) → Grown a cell (tx_of m card) own → Apart m
    → Apart (served a card cell own m)
apart_served a card cell own m G A =
    let t = tx_of m in
    let u = tx_of (served a card cell own m) in
    let f = struck a cell in
    let other : (d : ℕ) → d ≢ card → u d ≡ f (t d) = served_other a card cell own m in
    let H : Grown a cell (t card) (u card) =
    set_at (Grown a cell (t card)) (map f m.txs) card own G (grown_none a cell (t card)) in
    let less : (d x : ℕ) → d ≢ card → has_written (u d) x ≡ true → has_written (t d) x ≡ true =
    λ d x n w. struck_written a cell (t d) x (ap (λ y. has_written y x) (sym (other d n)) ∙ w) in
    let none_new : (d x : ℕ) → d ≢ card → has_touched (t d) x ≡ false → has_touched (u d) x ≡ false =
    λ d x n e. ap (λ y. has_touched y x) (other d n) ∙ struck_touched a cell (t d) x e in
    let far : (d : ℕ) → d ≢ card → card ≢ d = λ d n q. n (sym q) in
    let mine : (d x : ℕ) → d ≢ card → has_written (u card) x ≡ true → has_touched (u d) x ≡ false =
    λ d x n w. ⊎_elim
    (λ (e : x ≡ cell). ⊎_elim
    (λ (q : a ≡ Reads).
    none_new d x n (A card d x (far d n)
    (ap (has_written (t card)) e ∙ H.looked q (ap (has_written (u card)) (sym e) ∙ w))))
    (λ (q : a ≡ Writes).
    ap (λ y. has_touched y x) (other d n)
    ∙ (ap (λ b. has_touched (struck b cell (t d)) x) q
    ∙ (ap (has_touched (struck Writes cell (t d))) e ∙ struck_untouched cell (t d))))
    (access_cases a))
    (λ (k : x ≡ cell → ⊥). none_new d x n (A card d x (far d n) (H.written x k w)))
    (cases_eq x cell) in
    let theirs : (d x : ℕ) → d ≢ card → has_written (u d) x ≡ true → has_touched (u card) x ≡ false =
    λ d x n w. ⊎_elim
    (λ (e : x ≡ cell).
    clash (has_written (u d) x) w
    (ap (λ y. has_written y x) (other d n)
    ∙ (ap (has_written (f (t d))) e ∙ struck_unwritten a cell (t d))))
    (λ (k : x ≡ cell → ⊥). H.touched x k (A d card x n (less d x n w)))
    (cases_eq x cell) in
    apart_from t u card A less none_new mine theirs

-- Marks and writes that gain a cell are as they were at every other.
-- a record more at the end
pub has_more : {X : Type 0} (f : X → ℕ) (xs : List X) (y : X) (x : ℕ) → x ≢ f y → has f (xs ++ y ∷ []) x ≡ has f xs x
has_more f [] y x n = cond-false _ _ _ (ne_eqb (f y) x (λ q. n (sym q)))
has_more f (z ∷ xs) y x n = ap (cond (eqb (f z) x) true) (has_more f xs y x n)

-- another value for a cell changes no cell that is written
pub wrote_replaced : (ws : List Write) (cell value x : ℕ) → wrote (replaced ws cell value) x ≡ wrote ws x
wrote_replaced [] cell value x = refl
wrote_replaced (w ∷ ws) cell value x = go (eqb w.cell cell) refl (wrote_replaced ws cell value x) where
  go : (b : Bool) → eqb w.cell cell ≡ b → wrote (replaced ws cell value) x ≡ wrote ws x
      → wrote (cond b (record { cell = cell; value = value } ∷ ws) (w ∷ replaced ws cell value)) x ≡ wrote (w ∷ ws) x
  go true q r = ap (λ k. cond (eqb k x) true (wrote ws x)) (sym (eqb-true w.cell cell q))
  go false q r = ap (cond (eqb w.cell x) true) r

-- a mark more
pub marked_marking : (ms ns : List ℕ) (cell x : ℕ) → marking ms cell ≡ Some ns → x ≢ cell → marked ns x ≡ marked ms x
marked_marking ms ns cell x e n = go (marked ms cell) (ltb (length ms) 4) e where
  go : (b l : Bool) → cond b (Some ms) (cond l (Some (ms ++ cell ∷ [])) None) ≡ Some ns → marked ns x ≡ marked ms x
  go true l q = let z : ms ≡ ns = cc in ap (λ ks. marked ks x) (sym z)
  go false true q =
      let z : ms ++ cell ∷ [] ≡ ns = cc in
      ap (λ ks. marked ks x) (sym z) ∙ has_more (λ k. k) ms cell x n
  go false false q = cc

-- a write more
pub wrote_recording : (ws vs : List Write) (cell value x : ℕ) → recording ws cell value ≡ Some vs → x ≢ cell
    → wrote vs x ≡ wrote ws x
wrote_recording ws vs cell value x e n = go (wrote ws cell) (ltb (length ws) 4) e where
  go : (b l : Bool)
      → cond b (Some (replaced ws cell value)) (cond l (Some (ws ++ record { cell = cell; value = value } ∷ [])) None)
      ≡ Some vs
      → wrote vs x ≡ wrote ws x
  go true l q =
      let z : replaced ws cell value ≡ vs = cc in
      ap (λ ks. wrote ks x) (sym z) ∙ wrote_replaced ws cell value x
  go false true q =
      let z : ws ++ record { cell = cell; value = value } ∷ [] ≡ vs = cc in
      ap (λ ks. wrote ks x) (sym z) ∙ has_more (λ w. w.cell) ws (record { cell = cell; value = value }) x n
  go false false q = cc

-- The three ways in which an open transaction grows.
-- a read of an own write
grown_same : (cell : ℕ) (old own : Tx) → old ≡ own → Grown Reads cell old own
grown_same cell old own e = record {
  written = λ x n w. ap (λ y. has_written y x) e ∙ w;
  touched = λ x n q. ap (λ y. has_touched y x) (sym e) ∙ q;
  looked = λ q w. ap (λ y. has_written y cell) e ∙ w;
}

-- a read of a standing value
grown_read : (cell : ℕ) (ms ns : List ℕ) (ws : List Write) → marking ms cell ≡ Some ns
    → Grown Reads cell (live ms ws) (live ns ws)
grown_read cell ms ns ws e = record {
  written = λ x n w. w;
  touched = λ x n q. ap (λ b. wrote ws x || b) (marked_marking ms ns cell x e n) ∙ q;
  looked = λ q w. w;
}

-- a write
grown_write : (cell value : ℕ) (ms : List ℕ) (ws vs : List Write) → recording ws cell value ≡ Some vs
    → Grown Writes cell (live ms ws) (live ms vs)
grown_write cell value ms ws vs e = record {
  written = λ x n w. sym (wrote_recording ws vs cell value x e n) ∙ w;
  touched = λ x n q. ap (λ b. b || marked ms x) (wrote_recording ws vs cell value x e n) ∙ q;
  looked = λ q w. cc;
}

-- a list of the same everywhere, and past its end as well
pub all_same : {X : Type 0} (n i : ℕ) (x : X) → get_or (replicate n x) i x ≡ x
all_same zero i x = refl
all_same (suc n) zero x = refl
all_same (suc n) (suc i) x = all_same n i x

-- no two transactions of a cleared memory overlap
apart_clear : (d cell : ℕ) → has_touched (tx_of cleared d) cell ≡ false
apart_clear d cell = ap (λ t. has_touched t cell) (all_same 8 d none)

-- every call keeps transactions apart
pub apart_kept : Kept Apart
apart_kept = record {
  at_clear = λ c d cell n w. apart_clear d cell;
  at_begin = λ m card. apart_put m card (live [] []) (λ x. refl);
  at_close = λ m card. apart_put m card none (λ x. refl);
  at_commit = λ m card ws. apart_put m card none (λ x. refl);
  at_access = λ m a card cell. apart_served a card cell none m (grown_none a cell (tx_of m card));
  at_store = λ m cell value A. A;
  at_own_read = λ m card cell ms ws b h e. apart_served Reads card cell (live ms ws) m (grown_same cell _ _ e);
  at_read = λ m card cell ms ns ws b h e q.
      apart_served Reads card cell (live ns ws) m
      (subst (λ t. Grown Reads cell t (live ns ws)) (sym e) (grown_read cell ms ns ws q));
  at_write = λ m card cell value ms ws vs b h e q.
      apart_served Writes card cell (live ms vs) m
      (subst (λ t. Grown Writes cell t (live ms vs)) (sym e) (grown_write cell value ms ws vs q));
}

-- one call keeps open transactions apart
pub apart_call : (m : Meaning) (c : MemoryCall) → Apart m → Apart (performed m c).after
apart_call m c A = kept_call Apart apart_kept m A c
