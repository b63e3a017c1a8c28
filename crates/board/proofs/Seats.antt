-- Every place in line has the node and the mode of its card.
use Rattle.std.proofs.Common.{◌≡◌, ℕ, suc, Bool, true, false, cond, eqb, List, [], ◌∷◌, ◌++◌, Ok, Err, Result, sym}
use Rattle.std.proofs.Common.{refl, ap, ◌∙◌, subst, inl, inr}
use Rattle.memory.specs.declared.fault.MemoryFault.{MemoryFault}
use Rattle.memory.specs.declared.fault.Refusal.{Refusal}
use Rattle.memory.specs.declared.fault.Refusal.TheVariants.{OutOfRange, Already, NoTransaction, Doomed, Full}
use Rattle.stages.specs.declared.stage.Stage.{Stage}
use Rattle.stages.specs.Rows.{begin_of}
use Rattle.lock.specs.Lock.{goes, returns_by, advanced}
use Rattle.board.specs.Book.{Place, Deed, plain, joins, parts, finishes, deed, accepted, lined, without}
use Rattle.board.proofs.Cells.{at, at_same, at_other, at_all, clash}
use Rattle.board.proofs.Views.{view, link, joined, reader}
use Rattle.board.proofs.Chain.{Line, In, chain_joined}
use Rattle.board.proofs.Chain as chain
use Rattle.board.proofs.Lists.{without_gone}
use Rattle.board.proofs.Model.{lined_cards}
use Rattle.board.proofs.Inv.{cards_of, reads_mode, Seated}
use Rattle.board.proofs.Links.{views, view_begin, SameSeat, SeatAfter, seat_goes}

-- the cards of a line that is one longer, and of one without a card
cards_join : (l : List Place) (p : Place) → cards_of (l ++ p ∷ []) ≡ cards_of l ++ (p.card ∷ [])
cards_join [] p = refl
cards_join (q ∷ l) p = ap (λ (k : List ℕ). q.card ∷ k) (cards_join l p)

-- the cards of a line without a place
cards_without : (c : ℕ) (l : List Place) → cards_of (without c l) ≡ chain.without c (cards_of l)
cards_without c [] = refl
cards_without c (p ∷ l) = go (eqb p.card c) (cards_without c l)
  where
    go : (b : Bool) → cards_of (without c l) ≡ chain.without c (cards_of l)
        → cards_of (cond b l (p ∷ without c l)) ≡ cond b (cards_of l) (p.card ∷ chain.without c (cards_of l))
    go true h = refl
    go false h = ap (λ (k : List ℕ). p.card ∷ k) h

-- the cards in line follow the places
pub cards_lined : (c : ℕ) (d : Deed) (l : List Place) → cards_of (lined c d l) ≡ lined_cards c d (cards_of l)
cards_lined c plain l = refl
cards_lined c (joins n m) l = cards_join l (record { card = c; node = n; mode = m })
cards_lined c parts l = cards_without c l
cards_lined c (finishes k a) l = refl

-- a card keeps its node and its mode
pub seated_same : (S : ℕ → Stage) (c : ℕ) (s : Stage) (l : List Place) → SameSeat (S c) s
    → Seated S l → Seated (at S c s) l
seated_same S c s [] e h = tt
seated_same S c s (p ∷ l) e h = (
  at_all (λ (d : ℕ) (x : Stage). link (view (S d)) ≡ suc p.node → link (view x) ≡ suc p.node) S c s
      (λ q. e.0 ∙ q) (λ d _ q. q) p.card h.0,
  at_all (λ (d : ℕ) (x : Stage). reader (view (S d)) ≡ reads_mode p.mode
      → reader (view x) ≡ reads_mode p.mode)
      S c s (λ q. e.1 ∙ q) (λ d _ q. q) p.card h.1,
  seated_same S c s l e h.2,
)

-- a card changes that is not in line
pub seated_other : (S : ℕ → Stage) (c : ℕ) (s : Stage) (l : List Place) → (In c (cards_of l) → ⊥)
    → Seated S l → Seated (at S c s) l
seated_other S c s [] n h = tt
seated_other S c s (p ∷ l) n h = let e = at_other S c s p.card (λ q. n (inl (sym q))) in
    (rw e h.0, rw e h.1, seated_other S c s l (λ i. n (inr i)) h.2)

-- one more place, with the node and the mode of its card
seated_join : (S : ℕ → Stage) (p : Place) (l : List Place) → link (view (S p.card)) ≡ suc p.node
    → reader (view (S p.card)) ≡ reads_mode p.mode → Seated S l → Seated S (l ++ p ∷ [])
seated_join S p [] e r h = (e, r, tt)
seated_join S p (q ∷ l) e r h = (h.0, h.1, seated_join S p l e r h.2)

-- the others keep their seats
seated_without : (S : ℕ → Stage) (c : ℕ) (l : List Place) → Seated S l → Seated S (without c l)
seated_without S c [] h = tt
seated_without S c (p ∷ l) h = go (eqb p.card c) (seated_without S c l h.2)
  where
    go : (b : Bool) → Seated S (without c l) → Seated S (cond b l (p ∷ without c l))
    go true k = h.2
    go false k = (h.0, h.1, k)

-- every place keeps the node and the mode of its card through a step, whatever the memory answers
module _ (f : ℕ → ℕ) (S : ℕ → Stage) (l : List Place) (L : Line f (views S) (cards_of l)) (h : Seated S l)
    (c : ℕ) where
  out_of_line : joined (view (S c)) ≡ false → In c (cards_of l) → ⊥
  out_of_line j i = clash (joined (view (S c))) (chain_joined f (views S) (cards_of l) 0 L.chain c i) j

  seated_plain : (s : Stage) (b : Bool) → joined (view (S c)) ≡ b → (joined (view (S c)) ≡ true → SameSeat (S c) s)
      → Seated (at S c s) l
  seated_plain s true j k = seated_same S c s l (k j) h
  seated_plain s false j k = seated_other S c s l (out_of_line j) h

  seated_deed : (d : Deed) (s : Stage) → SeatAfter d (S c) s → Seated (at S c s) (lined c d l)
  seated_deed plain s k = seated_plain s (joined (view (S c))) refl k
  seated_deed (joins n m) s k = seated_join (at S c s) (record { card = c; node = n; mode = m }) l
      (rw (at_same S c s) k.1) (rw (at_same S c s) k.2) (seated_other S c s l (out_of_line k.0) h)
  seated_deed parts s k = seated_other S c s (without c l)
      (λ i. without_gone c (cards_of l) L.once (subst (In c) (cards_without c l) i)) (seated_without S c l h)
  seated_deed (finishes j a) s k = seated_same S c s l k h

  pub seated_step : (r : Result ℕ MemoryFault)
      → Seated (at S c (advanced (S c) r).0) (lined c (cond (accepted r) (deed (S c)) plain) l)
  seated_step (Ok v) = seated_deed (deed (S c)) (goes (S c) v).0 (seat_goes (S c) v)
  seated_step (Err e) = go e.refusal
    where
      stays : SameSeat (S c) (S c)
      stays = (refl, refl)

      go : (r : Refusal) → Seated (at S c (returns_by (S c) e r).0) l
      go OutOfRange = seated_same S c (S c) l stays h
      go Already = seated_same S c (S c) l stays h
      go NoTransaction = seated_same S c (S c) l stays h
      go Doomed = seated_same S c (begin_of (S c)) l
          (ap link (view_begin (S c)), ap reader (view_begin (S c))) h
      go Full = seated_same S c (S c) l stays h
