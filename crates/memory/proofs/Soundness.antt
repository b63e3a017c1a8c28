-- Lengths that every call keeps, transactions that stay orderly, and with apartness the whole law over runs.
use Rattle.std.proofs.Common.{◌≡◌, ℕ, suc, ◌<◌, Bool, true, false, cond, eqb, ltb, List, [], ◌∷◌, ◌++◌, map, length}
use Rattle.std.proofs.Common.{set, Some, None, sym, refl, ap, ◌∙◌, subst, ⊎_elim, arith, length-append}
use Rattle.std.proofs.lemmas.List.{get_or-set_other, length-map, length-set}
use Rattle.std.proofs.lemmas.Bool.{cases_eq, cond-false, eqb-true, eqb-false, ltb-true}
use Rattle.memory.specs.declared.write.Write.{Write}
use Rattle.memory.specs.declared.access.Access.{Access}
use Rattle.memory.specs.declared.access.Access.TheVariants.{Reads, Writes}
use Rattle.memory.specs.Meaning.{Meaning, Tx, none, live, doomed, tx_of, with_tx, served, struck, conflicts, has}
use Rattle.memory.specs.Meaning.{wrote, marked, marking, recording, replaced, cleared, landed}
use Rattle.memory.specs.Isolation.{Apart, once, Few, Orderly, Sound, AlwaysSound}
use Rattle.memory.specs.Calls.{performed}
use Rattle.memory.specs.declared.call.MemoryCall.{MemoryCall}
use Rattle.memory.proofs.Kept.{Kept, kept_call, kept_calls}
use Rattle.memory.proofs.Isolation.{apart_call, apart_kept, set_at, served_other}
use Rattle.memory.proofs.Writes.{place}
use Rattle.memory.proofs.Isolation.{has_more, wrote_replaced, all_same, clash}

-- Lengths.
-- as many cells as a memory has
abbrev pub Cells137 : Meaning → Type 0
Cells137 m = length m.cells ≡ 137

-- as many transactions as cards
abbrev pub Cards8 : Meaning → Type 0
Cards8 m = length m.txs ≡ 8

-- values that land leave as many cells
pub length_landed : (cs : List ℕ) (ws : List Write) → length (landed cs ws) ≡ length cs
length_landed cs [] = refl
length_landed cs (w ∷ ws) = length_landed (set cs w.cell w.value) ws ∙ length-set cs w.cell w.value

-- every call leaves 137 cells
cells_kept : Kept Cells137
cells_kept = record {
  at_clear = refl;
  at_begin = λ m card e. e;
  at_close = λ m card e. e;
  at_commit = λ m card ws e. length_landed m.cells ws ∙ e;
  at_access = λ m a card cell e. e;
  at_store = λ m cell value e. length-set m.cells cell value ∙ e;
  at_own_read = λ m card cell ms ws b h t e. e;
  at_read = λ m card cell ms ns ws b h t q e. e;
  at_write = λ m card cell value ms ws vs b h t q e. e;
}

-- an access leaves as many transactions
pub length_served : (a : Access) (card cell : ℕ) (own : Tx) (m : Meaning)
    → length (served a card cell own m).txs ≡ length m.txs
length_served a card cell own m =
    length-set (map (struck a cell) m.txs) card own ∙ length-map m.txs (struck a cell)

-- every call leaves eight transactions
cards_kept : Kept Cards8
cards_kept = record {
  at_clear = refl;
  at_begin = λ m card e. length-set m.txs card (live [] []) ∙ e;
  at_close = λ m card e. length-set m.txs card none ∙ e;
  at_commit = λ m card ws e. length-set m.txs card none ∙ e;
  at_access = λ m a card cell e. length_served a card cell none m ∙ e;
  at_store = λ m cell value e. e;
  at_own_read = λ m card cell ms ws b h t e. length_served Reads card cell (live ms ws) m ∙ e;
  at_read = λ m card cell ms ns ws b h t q e. length_served Reads card cell (live ns ws) m ∙ e;
  at_write = λ m card cell value ms ws vs b h t q e. length_served Writes card cell (live ms vs) m ∙ e;
}

-- Few records stay few.
-- a record of a cell that the others lack
once_more : {X : Type 0} (f : X → ℕ) (xs : List X) (y : X) → once f xs ≡ true → has f xs (f y) ≡ false
    → once f (xs ++ y ∷ []) ≡ true
once_more f [] y o l = refl
once_more f (x ∷ xs) y o l = go (has f xs (f x)) (eqb (f x) (f y)) refl refl o l (once_more f xs y) where
  go : (b e : Bool) → has f xs (f x) ≡ b → eqb (f x) (f y) ≡ e → cond b false (once f xs) ≡ true
      → cond e true (has f xs (f y)) ≡ false
      → (once f xs ≡ true → has f xs (f y) ≡ false → once f (xs ++ y ∷ []) ≡ true)
      → cond (has f (xs ++ y ∷ []) (f x)) false (once f (xs ++ y ∷ [])) ≡ true
  go true e p q r s k = clash false r refl
  go false true p q r s k = clash true refl s
  go false false p q r s k = cond-false _ _ _ (has_more f xs y (f x) (eqb-false (f x) (f y) q) ∙ p) ∙ k r s

-- few records with one more of a cell that they lack
few_more : {X : Type 0} (f : X → ℕ) (xs : List X) (y : X) → Few f xs → length xs < 4 → has f xs (f y) ≡ false
    → f y < 137 → Few f (xs ++ y ∷ [])
few_more f xs y F h l b = record {
  four = rw (length-append xs (y ∷ [])) (omega arith);
  single = once_more f xs y F.single l;
  within = λ x w. ⊎_elim
      (λ (e : x ≡ f y). subst (λ n. n < 137) (sym e) b)
      (λ (n : x ≡ f y → ⊥). F.within x (sym (has_more f xs y x n) ∙ w))
      (cases_eq x (f y));
}

-- no records are few
few_none : {X : Type 0} (f : X → ℕ) → Few f []
few_none f = record { four = omega arith; single = refl; within = λ x w. clash false w refl }

-- marks that take one more stay few
few_marking : (ms ns : List ℕ) (cell : ℕ) → Few (λ k. k) ms → cell < 137 → marking ms cell ≡ Some ns → Few (λ k. k) ns
few_marking ms ns cell F h e = go (marked ms cell) (ltb (length ms) 4) refl refl e where
  go : (b l : Bool) → marked ms cell ≡ b → ltb (length ms) 4 ≡ l
      → cond b (Some ms) (cond l (Some (ms ++ cell ∷ [])) None) ≡ Some ns → Few (λ k. k) ns
  go true l p r q = let z : ms ≡ ns = cc in subst (Few (λ k. k)) z F
  go false true p r q =
      let z : ms ++ cell ∷ [] ≡ ns = cc in
      subst (Few (λ k. k)) z (few_more (λ k. k) ms cell F (ltb-true (length ms) 4 r) p h)
  go false false p r q = cc

-- another value for a cell leaves as many writes
length_replaced : (ws : List Write) (cell value : ℕ) → length (replaced ws cell value) ≡ length ws
length_replaced [] cell value = refl
length_replaced (w ∷ ws) cell value = go (eqb w.cell cell) (length_replaced ws cell value) where
  go : (b : Bool) → length (replaced ws cell value) ≡ length ws
      → length (cond b (record { cell = cell; value = value } ∷ ws) (w ∷ replaced ws cell value)) ≡ length (w ∷ ws)
  go true r = refl
  go false r = ap suc r

-- and each cell in one of them
once_replaced : (ws : List Write) (cell value : ℕ) → once place (replaced ws cell value) ≡ once place ws
once_replaced [] cell value = refl
once_replaced (w ∷ ws) cell value = go (eqb w.cell cell) refl (once_replaced ws cell value) where
  go : (b : Bool) → eqb w.cell cell ≡ b → once place (replaced ws cell value) ≡ once place ws
      → once place (cond b (record { cell = cell; value = value } ∷ ws) (w ∷ replaced ws cell value))
      ≡ once place (w ∷ ws)
  go true q r = ap (λ k. cond (has place ws k) false (once place ws)) (sym (eqb-true w.cell cell q))
  go false q r =
      ap (λ b. cond b false (once place (replaced ws cell value))) (wrote_replaced ws cell value w.cell)
      ∙ ap (cond (has place ws w.cell) false) r

-- writes that take one more stay few
few_recording : (ws vs : List Write) (cell value : ℕ) → Few place ws → cell < 137 → recording ws cell value ≡ Some vs
    → Few place vs
few_recording ws vs cell value F h e = go (wrote ws cell) (ltb (length ws) 4) refl refl e where
  go : (b l : Bool) → wrote ws cell ≡ b → ltb (length ws) 4 ≡ l
      → cond b (Some (replaced ws cell value)) (cond l (Some (ws ++ record { cell = cell; value = value } ∷ [])) None)
      ≡ Some vs
      → Few place vs
  go true l p r q =
      let z : replaced ws cell value ≡ vs = cc in
      subst (Few place) z (record {
        four = rw (length_replaced ws cell value) F.four;
        single = once_replaced ws cell value ∙ F.single;
        within = λ x w. F.within x (sym (wrote_replaced ws cell value x) ∙ w);
      })
  go false true p r q =
      let z : ws ++ record { cell = cell; value = value } ∷ [] ≡ vs = cc in
      subst (Few place) z (few_more place ws (record { cell = cell; value = value }) F (ltb-true (length ws) 4 r) p h)
  go false false p r q = cc

-- Orderly transactions.
-- of every card
abbrev pub AllOrderly : Meaning → Type 0
AllOrderly m = (card : ℕ) → Orderly (tx_of m card)

-- a card gets an orderly transaction
orderly_put : (m : Meaning) (card : ℕ) (t : Tx) → Orderly t → AllOrderly m → AllOrderly (with_tx m card t)
orderly_put m card t o O d = ⊎_elim
    (λ (e : d ≡ card).
    subst (λ c. Orderly (tx_of (with_tx m card t) c)) (sym e) (set_at Orderly m.txs card t o tt))
    (λ (n : d ≡ card → ⊥). subst Orderly (sym (get_or-set_other m.txs card d t none n)) (O d))
    (cases_eq d card)

-- what another access makes of an orderly transaction
orderly_struck : (a : Access) (cell : ℕ) (t : Tx) → Orderly t → Orderly (struck a cell t)
orderly_struck a cell t o = go (conflicts a cell t) where
  go : (b : Bool) → Orderly (cond b doomed t)
  go true = tt
  go false = o

-- an access by a card whose own transaction is orderly after it
orderly_served : (a : Access) (card cell : ℕ) (own : Tx) (m : Meaning) → Orderly own → AllOrderly m
    → AllOrderly (served a card cell own m)
orderly_served a card cell own m o O d = ⊎_elim
    (λ (e : d ≡ card).
    subst (λ c. Orderly (tx_of (served a card cell own m) c)) (sym e)
    (set_at Orderly (map (struck a cell) m.txs) card own o tt))
    (λ (n : d ≡ card → ⊥).
    subst Orderly (sym (served_other a card cell own m d n)) (orderly_struck a cell (tx_of m d) (O d)))
    (cases_eq d card)

-- every call leaves all transactions orderly
orderly_kept : Kept AllOrderly
orderly_kept = record {
  at_clear = λ d. subst Orderly (sym (all_same 8 d none)) tt;
  at_begin = λ m card. orderly_put m card (live [] []) (few_none (λ k. k), few_none place);
  at_close = λ m card. orderly_put m card none tt;
  at_commit = λ m card ws. orderly_put m card none tt;
  at_access = λ m a card cell. orderly_served a card cell none m tt;
  at_store = λ m cell value O. O;
  at_own_read = λ m card cell ms ws b h e O.
      orderly_served Reads card cell (live ms ws) m (subst Orderly e (O card)) O;
  at_read = λ m card cell ms ns ws b h e q O.
      let o : Orderly (live ms ws) = subst Orderly e (O card) in
      orderly_served Reads card cell (live ns ws) m (few_marking ms ns cell o.0 h q, o.1) O;
  at_write = λ m card cell value ms ws vs b h e q O.
      let o : Orderly (live ms ws) = subst Orderly e (O card) in
      orderly_served Writes card cell (live ms vs) m (o.0, few_recording ws vs cell value o.1 h q) O;
}

-- the whole law: each of its parts is kept by every call
pub always_sound : AlwaysSound
always_sound calls = record {
  cells = kept_calls Cells137 cells_kept cleared refl calls;
  cards = kept_calls Cards8 cards_kept cleared refl calls;
  orderly = kept_calls AllOrderly orderly_kept cleared orderly_kept.at_clear calls;
  apart = kept_calls Apart apart_kept cleared apart_kept.at_clear calls;
}

-- The same a call at a time.

-- a memory keeps its 137 cells over a call
pub cells_call : (m : Meaning) (c : MemoryCall) → Cells137 m → Cells137 (performed m c).after
cells_call m c e = kept_call Cells137 cells_kept m e c

-- and its eight cards
pub cards_call : (m : Meaning) (c : MemoryCall) → Cards8 m → Cards8 (performed m c).after
cards_call m c e = kept_call Cards8 cards_kept m e c

-- transactions stay orderly over a call
pub orderly_call : (m : Meaning) (c : MemoryCall) → AllOrderly m → AllOrderly (performed m c).after
orderly_call m c O = kept_call AllOrderly orderly_kept m O c

-- every call keeps all of it
pub sound_call : (m : Meaning) (c : MemoryCall) → Sound m → Sound (performed m c).after
sound_call m c S = record {
  cells = cells_call m c S.cells;
  cards = cards_call m c S.cards;
  orderly = orderly_call m c S.orderly;
  apart = apart_call m c S.apart;
}

-- a cleared memory has it
pub sound_clear : Sound cleared
sound_clear = record {
  cells = refl;
  cards = refl;
  orderly = orderly_kept.at_clear;
  apart = apart_kept.at_clear;
}
