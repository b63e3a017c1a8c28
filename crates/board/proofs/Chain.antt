-- The line as it stands in the cells, over the cards as the line sees them.
use Rattle.std.proofs.Common.{◌≡◌, ℕ, zero, suc, true, false, cond, eqb, ◌⊎◌, List, [], ◌∷◌, ◌++◌, sym, refl, ◌∙◌}
use Rattle.std.proofs.Common.{subst, inl, inr, arith}
use mathlib.Core.Logic.{⊎_map}
use Rattle.std.proofs.lemmas.Bool.{cases_eq, eq-eqb, ne_eqb}
use Rattle.board.proofs.Cells.{next, prev, spin}
use Rattle.board.proofs.Views.{View, away, comes_w, comes_r, waits_w, waits_r, holds_w, turn_r, active_r, sees_r}
use Rattle.board.proofs.Views.{wakes_r, hands}
use Rattle.board.proofs.Views.{node, link, joined, reader, active, target, waking, hand, granted, Cells}

-- a list of cards without one of them
abbrev pub without : ℕ → List ℕ → List ℕ
without c [] = []
without c (d ∷ l) = cond (eqb d c) l (d ∷ without c l)

-- a card of the view v stands behind the view p (away: it is first)
pub record Spot (f : ℕ → ℕ) (p v : View) : Type 0 where
  pub in_line : joined v ≡ true
  pub from : (link p ≡ 0) ⊎ (f (next (node p)) ≡ link v)
  pub ahead : reader v ≡ true → f (prev (node v)) ≡ link p
  pub turnw : reader v ≡ false → granted f v ≡ true → link p ≡ 0
  pub turnr : reader v ≡ true → granted f v ≡ true → (link p ≡ 0) ⊎ (active p ≡ true)
  pub aim : (target p ≡ 0) ⊎ ((target p ≡ link v) × (granted f v ≡ false) × (waking p ≡ true → reader v ≡ true))
  pub owed : active p ≡ true → reader v ≡ true → granted f v ≡ false → target p ≡ link v

pub record End (f : ℕ → ℕ) (p : View) : Type 0 where
  pub tail : f 0 ≡ link p
  pub last : (link p ≡ 0) ⊎ (f (next (node p)) ≡ 0)
  pub aimless : target p ≡ 0

-- the card ahead, none (0) or suc c
abbrev pub who : (ℕ → View) → ℕ → View
who V zero = away
who V (suc c) = V c

abbrev pub Chain : (ℕ → ℕ) → (ℕ → View) → ℕ → List ℕ → Type 0
Chain f V p [] = End f (who V p)
Chain f V p (c ∷ l) = Spot f (who V p) (V c) × Chain f V (suc c) l

abbrev pub In : ℕ → List ℕ → Type 0
In c [] = ⊥
In c (d ∷ l) = (c ≡ d) ⊎ In c l

abbrev pub Once : List ℕ → Type 0
Once [] = Unit {0}
Once (c ∷ l) = (In c l → ⊥) × Once l

-- whether a card may be in goes by its own spin alone
pub granted_frame : (f g : ℕ → ℕ) (v : View) → g (spin (node v)) ≡ f (spin (node v)) → granted g v ≡ granted f v
granted_frame f g away h = refl
granted_frame f g (comes_w n) h = refl
granted_frame f g (comes_r n) h = refl
granted_frame f g (waits_w n) h = rw h
granted_frame f g (waits_r n) h = rw h
granted_frame f g (holds_w n) h = refl
granted_frame f g (turn_r n) h = refl
granted_frame f g (active_r n) h = refl
granted_frame f g (sees_r n q) h = refl
granted_frame f g (wakes_r n q) h = refl
granted_frame f g (hands n q) h = refl

abbrev pub Ok : (ℕ → View) → ℕ → Type 0
Ok V zero = Unit {0}
Ok V (suc c) = joined (V c) ≡ true

-- the line stays; each place is kept
pub chain_map : (f g : ℕ → ℕ) (V U : ℕ → View) (l : List ℕ)
    → ((p c : ℕ) → In c l → Ok V p → Spot f (who V p) (V c) → Spot g (who U p) (U c))
    → ((p : ℕ) → Ok V p → End f (who V p) → End g (who U p))
    → (p : ℕ) → Ok V p → Chain f V p l → Chain g U p l
chain_map f g V U [] each end p o h = end p o h
chain_map f g V U (c ∷ l) each end p o h = (
  each p c (inl refl) o h.0,
  chain_map f g V U l
      (λ p c i. each p c (inr i)) end (suc c) h.0.in_line h.1,
)

-- one more at the end
pub chain_join : (f g : ℕ → ℕ) (V U : ℕ → View) (me : ℕ) (l : List ℕ)
    → ((p c : ℕ) → In c l → Ok V p → Spot f (who V p) (V c) → Spot g (who U p) (U c))
    → ((p : ℕ) → Ok V p → End f (who V p) → Spot g (who U p) (U me)) → End g (U me)
    → (p : ℕ) → Ok V p → Chain f V p l → Chain g U p (l ++ (me ∷ []))
chain_join f g V U me [] each new end p o h = (new p o h, end)
chain_join f g V U me (c ∷ l) each new end p o h = (
  each p c (inl refl) o h.0,
  chain_join f g V U me l (λ p c i. each p c (inr i)) new end (suc c) h.0.in_line
      h.1,
)

-- whoever is in the chain has joined the line
pub chain_joined : (f : ℕ → ℕ) (V : ℕ → View) (l : List ℕ) (p : ℕ) → Chain f V p l → (c : ℕ) → In c l
    → joined (V c) ≡ true
chain_joined f V (d ∷ l) p h c (inl e) = rw e h.0.in_line
chain_joined f V (d ∷ l) p h c (inr i) = chain_joined f V l (suc d) h.1 c i
chain_joined f V [] p h c i = absurd i

-- the card ahead of one in line
pub chain_pred : (f : ℕ → ℕ) (V : ℕ → View) (l : List ℕ) (a : ℕ) → joined (V a) ≡ true → Chain f V (suc a) l → (c : ℕ)
    → In c l → (x : ℕ) × (joined (V x) ≡ true) × Spot f (V x) (V c)
chain_pred f V [] a o h c i = absurd i
chain_pred f V (d ∷ l) a o h c (inl e) = (a, o, rw e h.0)
chain_pred f V (d ∷ l) a o h c (inr i) = chain_pred f V l d h.0.in_line h.1 c i

-- the spot of a card in line
pub chain_place : (f : ℕ → ℕ) (V : ℕ → View) (l : List ℕ) → Chain f V 0 l → (c : ℕ) → In c l
    → (p : ℕ) × Ok V p × Spot f (who V p) (V c)
chain_place f V [] h c i = absurd i
chain_place f V (d ∷ l) h c (inl e) = (0, tt, rw e h.0)
chain_place f V (d ∷ l) h c (inr i) = let w = chain_pred f V l d h.0.in_line h.1 c i in (suc w.0, w.1, w.2)

-- what ends the line
pub chain_end : (f : ℕ → ℕ) (V : ℕ → View) (l : List ℕ) (p : ℕ) → Ok V p → Chain f V p l
    → (e : ℕ) × Ok V e × End f (who V e)
chain_end f V [] p o h = (p, o, h)
chain_end f V (c ∷ l) p o h = chain_end f V l (suc c) h.0.in_line h.1

-- the place behind a card in line, or the end there
pub chain_behind : (f : ℕ → ℕ) (V : ℕ → View) (l : List ℕ) (p : ℕ) → Chain f V p l → (c : ℕ) → In c l
    → End f (V c) ⊎ ((d : ℕ) × In d l × Spot f (V c) (V d))
chain_behind f V [] p h c i = absurd i
chain_behind f V (a ∷ []) p h c (inl e) = inl (rw e h.1)
chain_behind f V (a ∷ b ∷ l) p h c (inl e) = inr (b, inr (inl refl), rw e h.1.0)
chain_behind f V (a ∷ []) p h c (inr i) = absurd i
chain_behind f V (a ∷ b ∷ l) p h c (inr i) = ⊎_map (λ x. x) (λ w. (w.0, inr w.1, w.2))
    (chain_behind f V (b ∷ l) (suc a) h.1 c i)

-- one out of the line
module _ (f g : ℕ → ℕ) (V U : ℕ → View) (me : ℕ)
    (each : (p c : ℕ) → (p ≡ suc me → ⊥) → (c ≡ me → ⊥) → Ok V p → Spot f (who V p) (V c) → Spot g (who U p) (U c))
    (end : (p : ℕ) → (p ≡ suc me → ⊥) → Ok V p → End f (who V p) → End g (who U p))
    (skip : (p c : ℕ) → (p ≡ suc me → ⊥) → (c ≡ me → ⊥) → Ok V p → Spot f (who V p) (V me) → Spot f (V me) (V c)
    → Spot g (who U p) (U c))
    (skip_end : (p : ℕ) → (p ≡ suc me → ⊥) → Ok V p → Spot f (who V p) (V me) → End f (V me) → End g (who U p)) where
  rest_kept : (l : List ℕ) (p : ℕ) → (p ≡ suc me → ⊥) → (In me l → ⊥) → Ok V p → Chain f V p l → Chain g U p l
  rest_kept [] p np n o h = end p np o h
  rest_kept (c ∷ l) p np n o h = (
    each p c np (λ e. n (inl (sym e))) o h.0,
    rest_kept l (suc c)
        (λ e. n (inl (omega arith))) (λ i. n (inr i)) h.0.in_line h.1,
  )

  after_me : (l : List ℕ) (p : ℕ) → (p ≡ suc me → ⊥) → (In me l → ⊥) → Ok V p → Spot f (who V p) (V me)
      → Chain f V (suc me) l → Chain g U p l
  after_me [] p np n o a h = skip_end p np o a h
  after_me (c ∷ l) p np n o a h = (
    skip p c np (λ e. n (inl (sym e))) o a h.0,
    rest_kept l (suc c)
        (λ e. n (inl (omega arith))) (λ i. n (inr i)) h.0.in_line h.1,
  )

  pub chain_leave : (l : List ℕ) (p : ℕ) → (p ≡ suc me → ⊥) → Once l → In me l → Ok V p → Chain f V p l
      → Chain g U p (without me l)
  chain_leave [] p np u i o h = absurd i
  chain_leave (c ∷ l) p np u i o h = go (cases_eq c me)
      (λ np i. chain_leave l (suc c) np u.1 i h.0.in_line h.1)
    where
      later : (c ≡ me → ⊥) → (me ≡ c) ⊎ In me l → In me l
      later n (inl e) = absurd (n (sym e))
      later n (inr j) = j

      go : (c ≡ me) ⊎ (c ≡ me → ⊥) → ((suc c ≡ suc me → ⊥) → In me l → Chain g U (suc c) (without me l))
          → Chain g U p (without me (c ∷ l))
      go (inl e) ih = rw (eq-eqb c me e) (after_me l p np (subst (λ (x : ℕ). In x l → ⊥) e u.0) o
          (subst (λ (x : ℕ). Spot f (who V p) (V x)) e h.0) (subst (λ (x : ℕ). Chain f V (suc x) l) e h.1))
      go (inr n) ih = rw (ne_eqb c me n) (each p c np n o h.0, ih (λ e. n (omega arith)) (later n i))

abbrev pub Led : (ℕ → ℕ) → (ℕ → View) → List ℕ → Type 0
Led f V [] = Unit {0}
Led f V (c ∷ l) = granted f (V c) ≡ true

abbrev pub Due : (ℕ → ℕ) → (ℕ → View) → ℕ → List ℕ → Type 0
Due f V q [] = ⊥
Due f V q (c ∷ l) = (q ≡ link (V c)) × (granted f (V c) ≡ false)

-- the first in line may be in, or just one card that has left will wake it
abbrev pub Baton : (ℕ → ℕ) → (ℕ → View) → List ℕ → Type 0
Baton f V l = (((d : ℕ) → hand (V d) ≡ 0) × Led f V l)
    ⊎ ((d : ℕ) × (hand (V d) ≡ 0 → ⊥) × ((e : ℕ) → (e ≡ d) ⊎ (hand (V e) ≡ 0)) × Due f V (hand (V d)) l)

abbrev pub Nodes : (ℕ → View) → Type 0
Nodes V = (c d : ℕ) → link (V c) ≡ link (V d) → (c ≡ d) ⊎ (link (V c) ≡ 0)

pub record Line (f : ℕ → ℕ) (V : ℕ → View) (l : List ℕ) : Type 0 where
  pub nodes : Nodes V
  pub cells : (c : ℕ) → Cells f (V c)
  pub members : (c : ℕ) → joined (V c) ≡ true → In c l
  pub once : Once l
  pub chain : Chain f V 0 l
  pub baton : Baton f V l

-- a seat's own side is kept
pub record Seat (f g : ℕ → ℕ) (v u : View) : Type 0 where
  pub joins : joined u ≡ joined v
  pub links : link u ≡ link v
  pub reads : reader u ≡ reader v
  pub grants : granted g u ≡ granted f v
  pub prevs : reader v ≡ true → g (prev (node u)) ≡ f (prev (node v))

-- what the one behind sees of it is kept
pub record Front (f g : ℕ → ℕ) (p o : View) : Type 0 where
  pub link_is : link o ≡ link p
  pub active_is : active o ≡ active p
  pub target_is : target o ≡ target p
  pub waking_is : waking o ≡ waking p
  pub next_is : (link p ≡ 0) ⊎ (g (next (node o)) ≡ f (next (node p)))

-- a link ahead that is kept
from_kept : (a b x y k : ℕ) → a ≡ b → (b ≡ 0) ⊎ (x ≡ y) → (b ≡ 0) ⊎ (y ≡ k) → (a ≡ 0) ⊎ (x ≡ k)
from_kept a b x y k e (inl h) m = inl (e ∙ h)
from_kept a b x y k e (inr h) (inl m) = inl (e ∙ m)
from_kept a b x y k e (inr h) (inr m) = inr (h ∙ m)

-- a spot is kept where both its sides are
pub seat_place : (f g : ℕ → ℕ) (p o v u : View) → Front f g p o → Seat f g v u → Spot f p v → Spot g o u
seat_place f g p o v u A L P = record {
  in_line = L.joins ∙ P.in_line;
  from = from_kept (link o) (link p) (g (next (node o))) (f (next (node p))) (link u) A.link_is A.next_is
      (rw L.links P.from);
  ahead = λ r. L.prevs (sym L.reads ∙ r) ∙ P.ahead (sym L.reads ∙ r) ∙ sym A.link_is;
  turnw = rw (L.reads, L.grants, A.link_is) P.turnw;
  turnr = rw (L.reads, L.grants, A.link_is, A.active_is) P.turnr;
  aim = rw (L.links, L.reads, L.grants, A.target_is, A.waking_is) P.aim;
  owed = rw (L.links, L.reads, L.grants, A.target_is, A.active_is) P.owed;
}

-- the end of the line is kept where the last one is
pub front_end : (f g : ℕ → ℕ) (p o : View) → g 0 ≡ f 0 → Front f g p o → End f p → End g o
front_end f g p o t A E = record {
  tail = t ∙ E.tail ∙ sym A.link_is;
  last = from_kept (link o) (link p) (g (next (node o))) (f (next (node p))) 0 A.link_is A.next_is E.last;
  aimless = A.target_is ∙ E.aimless;
}

-- two views that the line cannot tell apart; of one that is not in line only its hand counts
pub record Like (f g : ℕ → ℕ) (v u : View) : Type 0 where
  pub holds : hand u ≡ hand v
  pub joins : joined u ≡ joined v
  pub seat : joined v ≡ true → Seat f g v u
  pub front : joined v ≡ true → Front f g v u

-- nobody is ahead of the first
front_away : (f g : ℕ → ℕ) → Front f g away away
front_away f g = record { link_is = refl; active_is = refl; target_is = refl; waking_is = refl; next_is = inl refl }

-- what the one behind sees of the card ahead
like_who : (f g : ℕ → ℕ) (V U : ℕ → View) → ((d : ℕ) → Like f g (V d) (U d)) → (p : ℕ) → Ok V p
    → Front f g (who V p) (who U p)
like_who f g V U L zero o = front_away f g
like_who f g V U L (suc c) o = (L c).front o

-- the first may still be in
led_like : (f g : ℕ → ℕ) (V U : ℕ → View) → ((d : ℕ) → Like f g (V d) (U d)) → (l : List ℕ) (p : ℕ) → Chain f V p l
    → Led f V l → Led g U l
led_like f g V U L [] p h k = tt
led_like f g V U L (c ∷ l) p h k = ((L c).seat h.0.in_line).grants ∙ k

-- the wake that is owed is still owed
due_like : (f g : ℕ → ℕ) (V U : ℕ → View) → ((d : ℕ) → Like f g (V d) (U d)) → (q : ℕ) (l : List ℕ) (p : ℕ)
    → Chain f V p l → Due f V q l → Due g U q l
due_like f g V U L q [] p h k = k
due_like f g V U L q (c ∷ l) p h k = let s = (L c).seat h.0.in_line in (k.0 ∙ sym s.links, s.grants ∙ k.1)

-- who is to wake the first
baton_like : (f g : ℕ → ℕ) (V U : ℕ → View) → ((d : ℕ) → Like f g (V d) (U d)) → (l : List ℕ) → Chain f V 0 l
    → Baton f V l → Baton g U l
baton_like f g V U L l h (inl k) = inl (λ d. (L d).holds ∙ k.0 d, led_like f g V U L l 0 h k.1)
baton_like f g V U L l h (inr k) = inr (
  k.0,
  rw (L k.0).holds k.1,
  λ e. rw (L e).holds (k.2 e),
  rw
      (L k.0).holds (due_like f g V U L (hand (V k.0)) l 0 h k.3),
)

-- nothing that the line sees has changed
pub like_line : (f g : ℕ → ℕ) (V U : ℕ → View) (l : List ℕ) → ((d : ℕ) → Like f g (V d) (U d)) → g 0 ≡ f 0
    → Nodes U → ((c : ℕ) → Cells g (U c)) → Line f V l → Line g U l
like_line f g V U l L t n k I = record {
  nodes = n;
  cells = k;
  members = λ c j. I.members c (sym (L c).joins ∙ j);
  once = I.once;
  chain = chain_map f g V U l (λ p c i o P. seat_place f g (who V p) (who U p) (V c) (U c) (like_who f g V U L p o)
      ((L c).seat P.in_line) P)
      (λ p o e. front_end f g (who V p) (who U p) t (like_who f g V U L p o) e) 0 tt I.chain;
  baton = baton_like f g V U L l I.chain I.baton;
}
