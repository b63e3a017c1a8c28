-- Moves within the line: a card that has left wakes the first; a reader becomes active, looks at the one behind it
-- and wakes it. The cards in line and their links stay.
use Rattle.std.proofs.Common.{◌≡◌, ℕ, zero, suc, Bool, true, false, ◌⊎◌, List, [], ◌∷◌, sym, refl, ap, ◌∙◌, subst}
use Rattle.std.proofs.Common.{inl, inr, ⊎_elim, arith}
use Rattle.std.proofs.lemmas.Bool.Decides.{nat_tests}
use Rattle.std.proofs.lemmas.Bool.{cases_eq}
use Rattle.board.proofs.Cells.{at, next, prev, state, spin}
use Rattle.board.proofs.Cells.{at_same, at_other, at_all, clash}
use Rattle.board.proofs.Views.{link_node, View, away, comes_w, comes_r, waits_w, waits_r, holds_w, turn_r, active_r}
use Rattle.board.proofs.Views.{sees_r}
use Rattle.board.proofs.Views.{wakes_r}
use Rattle.board.proofs.Views.{hands, node, link, joined, reader, active, target, waking, hand, granted, Cells}
use Rattle.board.proofs.Chain.{Spot, End, who, Chain, In, Once, Ok, granted_frame, chain_map, chain_behind}
use Rattle.board.proofs.Chain.{Led, Due, Baton, Nodes, Line, Seat, Front, seat_place, front_end}

-- a card in line has a node
pub joined_link : (v : View) → joined v ≡ true → link v ≡ suc (node v)
joined_link away h = cc
joined_link (comes_w n) h = refl
joined_link (comes_r n) h = refl
joined_link (waits_w n) h = refl
joined_link (waits_r n) h = refl
joined_link (holds_w n) h = refl
joined_link (turn_r n) h = refl
joined_link (active_r n) h = refl
joined_link (sees_r n q) h = refl
joined_link (wakes_r n q) h = refl
joined_link (hands n q) h = refl

-- two cards with one node are one
pub holder : (V : ℕ → View) → Nodes V → (a b m : ℕ) → link (V a) ≡ suc m → joined (V b) ≡ true → node (V b) ≡ m
    → b ≡ a
holder V N a b m e j k = let q = joined_link (V b) j in go q (N b a (q ∙ ap suc k ∙ sym e))
  where
    go : link (V b) ≡ suc (node (V b)) → (b ≡ a) ⊎ (link (V b) ≡ 0) → b ≡ a
    go q (inl h) = h
    go q (inr z) = absurd (omega arith)

-- a card's cells stand as they did: the state always, the others while it is not in line
pub cells_frame : (f g : ℕ → ℕ) (v : View)
    → (link v ≡ suc (node v) → g (state (node v)) ≡ f (state (node v)))
    → (link v ≡ suc (node v) → joined v ≡ false → g (spin (node v)) ≡ f (spin (node v)))
    → (link v ≡ suc (node v) → joined v ≡ false → g (next (node v)) ≡ f (next (node v)))
    → (link v ≡ suc (node v) → joined v ≡ false → g (prev (node v)) ≡ f (prev (node v)))
    → Cells f v → Cells g v
cells_frame f g away a b c d h = tt
cells_frame f g (comes_w n) a b c d h = (a refl ∙ h.0, b refl refl ∙ h.1, c refl refl ∙ h.2)
cells_frame f g (comes_r n) a b c d h = (a refl ∙ h.0, b refl refl ∙ h.1, c refl refl ∙ h.2, d refl refl ∙ h.3)
cells_frame f g (waits_w n) a b c d h = a refl ∙ h
cells_frame f g (waits_r n) a b c d h = a refl ∙ h
cells_frame f g (holds_w n) a b c d h = a refl ∙ h
cells_frame f g (turn_r n) a b c d h = a refl ∙ h
cells_frame f g (active_r n) a b c d h = a refl ∙ h
cells_frame f g (sees_r n q) a b c d h = a refl ∙ h
cells_frame f g (wakes_r n q) a b c d h = a refl ∙ h
cells_frame f g (hands n q) a b c d h = tt

-- a card in line whose prev and spin stand as they did
pub seat_frame : (f g : ℕ → ℕ) (v : View) → (reader v ≡ true → g (prev (node v)) ≡ f (prev (node v)))
    → g (spin (node v)) ≡ f (spin (node v)) → Seat f g v v
seat_frame f g v a b = record { joins = refl; links = refl; reads = refl; grants = granted_frame f g v b; prevs = a }

-- a card in line whose next stands as it did
pub front_frame : (f g : ℕ → ℕ) (v : View) → g (next (node v)) ≡ f (next (node v)) → Front f g v v
front_frame f g v a = record { link_is = refl; active_is = refl; target_is = refl; waking_is = refl; next_is = inr a }

-- nobody ahead
pub front_none : (f g : ℕ → ℕ) → Front f g away away
front_none f g = record { link_is = refl; active_is = refl; target_is = refl; waking_is = refl; next_is = inl refl }

-- links stay where the changed card keeps its own or gives it up
pub nodes_at : (V : ℕ → View) (c : ℕ) (u : View) → (link u ≡ link (V c)) ⊎ (link u ≡ 0) → Nodes V → Nodes (at V c u)
nodes_at V c u k N a b e = at_all
    (λ (a : ℕ) (x : View). link x ≡ link (at V c u b) → (a ≡ b) ⊎ (link x ≡ 0)) V c u
    (at_all (λ (b : ℕ) (y : View). link u ≡ link y → (c ≡ b) ⊎ (link u ≡ 0)) V c u
    (λ _. inl refl) (λ b n e. own k b e) b)
    (λ a n. at_all (λ (b : ℕ) (y : View). link (V a) ≡ link y → (a ≡ b) ⊎ (link (V a) ≡ 0)) V c u
    (λ e. other k a e) (λ b _ e. N a b e) b)
    a e
  where
    own : (link u ≡ link (V c)) ⊎ (link u ≡ 0) → (b : ℕ) → link u ≡ link (V b) → (c ≡ b) ⊎ (link u ≡ 0)
    own (inr z) b e = inr z
    own (inl z) b e = rw z (N c b (sym z ∙ e))

    other : (link u ≡ link (V c)) ⊎ (link u ≡ 0) → (a : ℕ) → link (V a) ≡ link u → (a ≡ c) ⊎ (link (V a) ≡ 0)
    other (inr z) a e = inr (e ∙ z)
    other (inl z) a e = N a c (e ∙ z)

-- a store of 0 to the spin of the node m
module _ (f : ℕ → ℕ) (m : ℕ) where
  unfoldable pub woken : ℕ → ℕ
  woken = at f (spin m) 0

  w_tail : woken 0 ≡ f 0
  unfolding woken
  w_tail = at_other f (spin m) 0 0 (omega arith)

  w_next : (k : ℕ) → woken (next k) ≡ f (next k)
  unfolding woken
  w_next k = at_other f (spin m) 0 (next k) (omega arith)

  w_prev : (k : ℕ) → woken (prev k) ≡ f (prev k)
  unfolding woken
  w_prev k = at_other f (spin m) 0 (prev k) (omega arith)

  w_state : (k : ℕ) → woken (state k) ≡ f (state k)
  unfolding woken
  w_state k = at_other f (spin m) 0 (state k) (omega arith)

  w_spin : (k : ℕ) → (k ≡ m → ⊥) → woken (spin k) ≡ f (spin k)
  unfolding woken
  w_spin k h = at_other f (spin m) 0 (spin k) (omega arith)

  -- the one that waits there may now be in
  w_granted : (v : View) → joined v ≡ true → link v ≡ suc m → granted woken v ≡ true
  unfolding woken
  w_granted away j e = cc
  w_granted (comes_w n) j e = cc
  w_granted (comes_r n) j e = cc
  w_granted (waits_w n) j e = grind (arith, nat_tests)
  w_granted (waits_r n) j e = grind (arith, nat_tests)
  w_granted (holds_w n) j e = refl
  w_granted (turn_r n) j e = refl
  w_granted (active_r n) j e = refl
  w_granted (sees_r n q) j e = refl
  w_granted (wakes_r n q) j e = refl
  w_granted (hands n q) j e = cc

-- the node is that of a card in line: who isn't in line keeps its cells
w_cells : (f : ℕ → ℕ) (m : ℕ) (V : ℕ → View) → Nodes V → (a : ℕ) → joined (V a) ≡ true → link (V a) ≡ suc m
    → (d : ℕ) → Cells f (V d) → Cells (woken f m) (V d)
w_cells f m V N a ja la d = cells_frame f (woken f m) (V d)
    (λ _. w_state f m (node (V d))) (λ q j. w_spin f m (node (V d)) (apart q j))
    (λ _ _. w_next f m (node (V d))) (λ _ _. w_prev f m (node (V d)))
  where
    apart : link (V d) ≡ suc (node (V d)) → joined (V d) ≡ false → node (V d) ≡ m → ⊥
    apart q j e = ⊎_elim (λ h. clash (joined (V a)) ja (ap (λ (x : ℕ). joined (V x)) (sym h) ∙ j))
        (λ z. omega arith) (N d a (q ∙ ap suc e ∙ sym la))

-- the card that is first in line, by its link
pub due_card : (f : ℕ → ℕ) (V : ℕ → View) (q : ℕ) (l : List ℕ) → Due f V q l → Chain f V 0 l
    → (a : ℕ) × (joined (V a) ≡ true) × (link (V a) ≡ q)
due_card f V q [] d h = absurd d
due_card f V q (a ∷ l) d h = (a, h.0.in_line, sym d.0)

-- a card that has left wakes the first in line and is idle
module _ (f : ℕ → ℕ) (V : ℕ → View) (l : List ℕ) (I : Line f V l) (c n m : ℕ) (is : V c ≡ hands n (suc m)) where
  hand_same : (d : ℕ) → joined (V d) ≡ true → at V c away d ≡ V d
  hand_same d j = at_other V c away d (λ e. clash (joined (V d)) j (ap (λ (x : ℕ). joined (V x)) e ∙ ap joined is))

  -- its baton: the first in line waits for it, and nobody else hands anything
  pub hand_due : Due f V (suc m) l × ((e : ℕ) → (e ≡ c) ⊎ (hand (V e) ≡ 0))
  hand_due = go I.baton
    where
      go : Baton f V l → Due f V (suc m) l × ((e : ℕ) → (e ≡ c) ⊎ (hand (V e) ≡ 0))
      go (inl k) = let z = sym (ap hand is) ∙ k.0 c in absurd (omega arith)
      go (inr k) = at_it (k.2 c)
        where
          at_it : (c ≡ k.0) ⊎ (hand (V c) ≡ 0) → Due f V (suc m) l × ((e : ℕ) → (e ≡ c) ⊎ (hand (V e) ≡ 0))
          at_it (inl e) = (
            subst (λ (x : ℕ). Due f V x l) (ap (λ (d : ℕ). hand (V d)) (sym e) ∙ ap hand is) k.3,
            subst (λ (x : ℕ). (e : ℕ) → (e ≡ x) ⊎ (hand (V e) ≡ 0)) (sym e) k.2,
          )
          at_it (inr z) = let y = sym (ap hand is) ∙ z in absurd (omega arith)

  hand_front : (p : ℕ) → Ok V p → Front f (woken f m) (who V p) (who (at V c away) p)
  hand_front zero o = front_none f (woken f m)
  hand_front (suc d) o = rw (hand_same d o) (front_frame f (woken f m) (V d) (w_next f m (node (V d))))

  hand_chain : (l : List ℕ) → Once l → Due f V (suc m) l → Chain f V 0 l
      → Chain (woken f m) (at V c away) 0 l × Led (woken f m) (at V c away) l
  hand_chain [] u d h = absurd d
  hand_chain (a ∷ l) u d h =
      ((here, there), rw (hand_same a h.0.in_line) (w_granted f m (V a) h.0.in_line (sym d.0)))
    where
      here : Spot (woken f m) away (at V c away a)
      here = let P = h.0 in rw (hand_same a P.in_line) (record {
        in_line = P.in_line;
        from = inl refl;
        ahead = λ r. w_prev f m (node (V a)) ∙ P.ahead r;
        turnw = λ _ _. refl;
        turnr = λ _ _. inl refl;
        aim = inl refl;
        owed = λ r _ _. cc;
      })

      -- a card behind the first has another node
      apart : (b : ℕ) → In b l → joined (V b) ≡ true → node (V b) ≡ m → ⊥
      apart b i j e = u.0 (subst (λ (x : ℕ). In x l) (holder V I.nodes a b m (sym d.0) j e) i)

      there : Chain (woken f m) (at V c away) (suc a) l
      there = chain_map f (woken f m) V (at V c away) l
          (λ p b i o P. rw (hand_same b P.in_line)
          (seat_place f (woken f m) (who V p) (who (at V c away) p) (V b) (V b) (hand_front p o)
          (seat_frame f (woken f m) (V b) (λ _. w_prev f m (node (V b)))
          (w_spin f m (node (V b)) (apart b i P.in_line))) P))
          (λ p o E. front_end f (woken f m) (who V p) (who (at V c away) p) (w_tail f m) (hand_front p o) E)
          (suc a) h.0.in_line h.1

  pub hand_line : Line (woken f m) (at V c away) l
  hand_line =
      let D = hand_due in let C = hand_chain l I.once D.0 I.chain in
      let A = due_card f V (suc m) l D.0 I.chain in record {
        nodes = nodes_at V c away (inr refl) I.nodes;
        cells = at_all (λ (d : ℕ) (v : View). Cells (woken f m) v) V c away tt
            (λ d nd. w_cells f m V I.nodes A.0 A.1 A.2 d (I.cells d));
        members = at_all (λ (d : ℕ) (v : View). joined v ≡ true → In d l) V c away
            (λ j. clash false j refl) (λ d _. I.members d);
        once = I.once;
        chain = C.0;
        baton = inl (
          at_all (λ (d : ℕ) (v : View). hand v ≡ 0) V c away refl
              (λ d nd. ⊎_elim (λ e. absurd (nd e)) (λ z. z) (D.1 d)),
          C.1,
        );
      }

-- a card in line changes in its place, from the view V c to u, and perhaps the one behind it: what is to be shown of
-- the other fronts and seats, of the place behind the card or the end there, and of the cells
module _ (f g : ℕ → ℕ) (V : ℕ → View) (l : List ℕ) (I : Line f V l) (c : ℕ) (u : View)
    (jc : joined (V c) ≡ true) (ju : joined u ≡ true) (lu : link u ≡ link (V c)) (hu : hand u ≡ hand (V c))
    (tail : g 0 ≡ f 0)
    (others : (d : ℕ) → (d ≡ c → ⊥) → joined (V d) ≡ true → Front f g (V d) (V d))
    (seat : (p d : ℕ) → In d l → Ok V p → (p ≡ suc c → ⊥) → Spot f (who V p) (V d) → Seat f g (V d) (at V c u d))
    (behind : (d : ℕ) → In d l → Spot f (V c) (V d) → Spot g u (at V c u d))
    (end : End f (V c) → End g u)
    (stand : (d : ℕ) → Cells g (at V c u d)) where
  local_front : (p : ℕ) → Ok V p → (p ≡ suc c → ⊥) → Front f g (who V p) (who (at V c u) p)
  local_front zero o n = front_none f g
  local_front (suc d) o n = rw (at_other V c u d (λ e. n (ap suc e))) (others d (λ e. n (ap suc e)) o)

  local_each : (p d : ℕ) → In d l → Ok V p → Spot f (who V p) (V d) → Spot g (who (at V c u) p) (at V c u d)
  local_each p d i o P = ⊎_elim
      (λ e. subst (λ (x : ℕ). Spot g (who (at V c u) x) (at V c u d)) (sym e)
      (rw (at_same V c u) (behind d i (subst (λ (x : ℕ). Spot f (who V x) (V d)) e P))))
      (λ n. seat_place f g (who V p) (who (at V c u) p) (V d) (at V c u d) (local_front p o n) (seat p d i o n P) P)
      (cases_eq p (suc c))

  local_end : (p : ℕ) → Ok V p → End f (who V p) → End g (who (at V c u) p)
  local_end p o E = ⊎_elim
      (λ e. subst (λ (x : ℕ). End g (who (at V c u) x)) (sym e)
      (rw (at_same V c u) (end (subst (λ (x : ℕ). End f (who V x)) e E))))
      (λ n. front_end f g (who V p) (who (at V c u) p) tail (local_front p o n) E)
      (cases_eq p (suc c))

  local_hand : (d : ℕ) → hand (at V c u d) ≡ hand (V d)
  local_hand d = at_all (λ (d : ℕ) (v : View). hand v ≡ hand (V d)) V c u hu (λ d n. refl) d

  local_head : (h : ℕ) (k : List ℕ) → l ≡ h ∷ k → Seat f g (V h) (at V c u h)
  local_head h k e = seat 0 h (rw e (inl refl)) tt (omega arith)
      (subst (λ (l : List ℕ). Chain f V 0 l) e I.chain).0

  local_led : (k : List ℕ) → l ≡ k → Led f V k → Led g (at V c u) k
  local_led [] e h = tt
  local_led (a ∷ k) e h = (local_head a k e).grants ∙ h

  local_due : (k : List ℕ) → l ≡ k → (q : ℕ) → Due f V q k → Due g (at V c u) q k
  local_due [] e q h = h
  local_due (a ∷ k) e q h = (h.0 ∙ sym (local_head a k e).links, (local_head a k e).grants ∙ h.1)

  local_baton : Baton f V l → Baton g (at V c u) l
  local_baton (inl k) = inl (λ d. local_hand d ∙ k.0 d, local_led l refl k.1)
  local_baton (inr k) = inr (
    k.0,
    rw (local_hand k.0) k.1,
    λ e. rw (local_hand e) (k.2 e),
    rw (local_hand k.0) (local_due l refl (hand (V k.0)) k.3),
  )

  pub local_line : Line g (at V c u) l
  local_line = record {
    nodes = nodes_at V c u (inl lu) I.nodes;
    cells = stand;
    members = at_all (λ (d : ℕ) (v : View). joined v ≡ true → In d l) V c u
        (λ j. I.members c jc) (λ d _. I.members d);
    once = I.once;
    chain = chain_map f g V (at V c u) l local_each local_end 0 tt I.chain;
    baton = local_baton I.baton;
  }

-- who is in line and may not be in waits, and its state says which
pub waits_reader : (f : ℕ → ℕ) (v : View) → joined v ≡ true → granted f v ≡ false → Cells f v
    → (reader v ≡ true → f (state (node v)) ≡ 1) × (f (state (node v)) ≡ 1 → reader v ≡ true)
waits_reader f away j g k = clash false j refl
waits_reader f (comes_w n) j g k = clash false j refl
waits_reader f (comes_r n) j g k = clash false j refl
waits_reader f (waits_w n) j g k = (λ r. clash false r refl, λ e. absurd (omega arith))
waits_reader f (waits_r n) j g k = (λ _. k, λ _. refl)
waits_reader f (holds_w n) j g k = clash true refl g
waits_reader f (turn_r n) j g k = clash true refl g
waits_reader f (active_r n) j g k = clash true refl g
waits_reader f (sees_r n q) j g k = clash true refl g
waits_reader f (wakes_r n q) j g k = clash true refl g
waits_reader f (hands n q) j g k = clash false j refl

-- whom a card in line looks at or wakes stands right behind it and waits; a card that wakes, wakes a reader
pub aimed : (f : ℕ → ℕ) (p v : View) (m : ℕ) → Spot f p v → target p ≡ suc m
    → (link v ≡ suc m) × (granted f v ≡ false) × (waking p ≡ true → reader v ≡ true)
aimed f p v m P e = go P.aim
  where
    go : (target p ≡ 0) ⊎ ((target p ≡ link v) × (granted f v ≡ false) × (waking p ≡ true → reader v ≡ true))
        → (link v ≡ suc m) × (granted f v ≡ false) × (waking p ≡ true → reader v ≡ true)
    go (inl z) = absurd (omega arith)
    go (inr h) = (sym h.0 ∙ e, h.1, h.2)

-- the one behind is a reader that waits: it will be woken
see_wakes : (f : ℕ → ℕ) (v : View) (n m : ℕ) → Cells f v → f (state m) ≡ 1 → Spot f (sees_r n (suc m)) v
    → Spot f (wakes_r n (suc m)) v
see_wakes f v n m k e P = let A = aimed f (sees_r n (suc m)) v m P refl in record {
  in_line = P.in_line;
  from = P.from;
  ahead = P.ahead;
  turnw = P.turnw;
  turnr = P.turnr;
  owed = P.owed;
  aim = inr (
    sym A.0,
    A.1,
    λ _. (waits_reader f v P.in_line A.1 k).1
        (ap (λ (x : ℕ). f (state x)) (link_node v m A.0) ∙ e),
  );
}

-- the one behind is no reader that waits: nothing is owed to it
see_in : (f : ℕ → ℕ) (v : View) (n m : ℕ) → Cells f v → (f (state m) ≡ 1 → ⊥) → Spot f (sees_r n (suc m)) v
    → Spot f (active_r n) v
see_in f v n m k e P = let A = aimed f (sees_r n (suc m)) v m P refl in record {
  in_line = P.in_line;
  from = P.from;
  ahead = P.ahead;
  turnw = P.turnw;
  turnr = P.turnr;
  aim = inl refl;
  owed = λ _ r g. absurd (e
      (ap (λ (x : ℕ). f (state x)) (sym (link_node v m A.0))
      ∙ (waits_reader f v P.in_line A.1 k).0 r));
}

-- no cell changes, and one card keeps its own side
same_seat : (f : ℕ → ℕ) (V : ℕ → View) (c : ℕ) (u : View) → Seat f f (V c) u → (d : ℕ) → Seat f f (V d) (at V c u d)
same_seat f V c u s d = at_all (λ (d : ℕ) (x : View). Seat f f (V d) x) V c u s
    (λ d _. seat_frame f f (V d) (λ _. refl) refl) d

-- an active reader has looked at the one behind it
module _ (f : ℕ → ℕ) (V : ℕ → View) (l : List ℕ) (I : Line f V l) (c n m : ℕ) (is : V c ≡ sees_r n (suc m)) where
  not_me : (d : ℕ) → Spot f (V c) (V d) → d ≡ c → ⊥
  not_me d P e = clash (granted f (V d)) (ap (λ (x : ℕ). granted f (V x)) e ∙ ap (granted f) is)
      (aimed f (V c) (V d) m P (ap target is)).1

  see_with : (u : View) → joined u ≡ true → link u ≡ suc n → hand u ≡ 0 → Seat f f (sees_r n (suc m)) u → Cells f u
      → ((v : View) → Cells f v → Spot f (sees_r n (suc m)) v → Spot f u v) → Line f (at V c u) l
  see_with u ju lu hu s k move = local_line f f V l I c u
      (ap joined is) ju (lu ∙ sym (ap link is)) (hu ∙ sym (ap hand is)) refl
      (λ d _ _. front_frame f f (V d) refl)
      (λ p d i o np P. same_seat f V c u (rw is s) d)
      (λ d i P. rw (at_other V c u d (not_me d P))
      (move (V d) (I.cells d) (subst (λ (x : View). Spot f x (V d)) is P)))
      (λ E. let z = sym (ap target is) ∙ E.aimless in absurd (omega arith))
      (at_all (λ (d : ℕ) (v : View). Cells f v) V c u k (λ d _. I.cells d))

  pub see_line_wakes : f (state m) ≡ 1 → Line f (at V c (wakes_r n (suc m))) l
  see_line_wakes e = see_with (wakes_r n (suc m)) refl refl refl
      (record { joins = refl; links = refl; reads = refl; grants = refl; prevs = λ _. refl })
      (subst (Cells f) is (I.cells c)) (λ v k. see_wakes f v n m k e)

  pub see_line_in : (f (state m) ≡ 1 → ⊥) → Line f (at V c (active_r n)) l
  see_line_in e = see_with (active_r n) refl refl refl
      (record { joins = refl; links = refl; reads = refl; grants = refl; prevs = λ _. refl })
      (subst (Cells f) is (I.cells c)) (λ v k. see_in f v n m k e)

-- behind one that is neither away nor an active reader nobody may be in
pub blocked : (f : ℕ → ℕ) (p v : View) → Spot f p v → active p ≡ false → (link p ≡ 0 → ⊥) → granted f v ≡ false
blocked f p v P a n = go (reader v) refl (granted f v) refl
  where
    go : (r : Bool) → reader v ≡ r → (b : Bool) → granted f v ≡ b → granted f v ≡ false
    go r e false k = k
    go false e true k = absurd (n (P.turnw e k))
    go true e true k = ⊎_elim (λ z. absurd (n z)) (λ z. clash (active p) z a) (P.turnr e k)

-- the state of the node n becomes that of an active reader
module _ (f : ℕ → ℕ) (n : ℕ) where
  unfoldable pub lit : ℕ → ℕ
  lit = at f (state n) 3

  l_tail : lit 0 ≡ f 0
  unfolding lit
  l_tail = at_other f (state n) 3 0 (omega arith)

  l_next : (k : ℕ) → lit (next k) ≡ f (next k)
  unfolding lit
  l_next k = at_other f (state n) 3 (next k) (omega arith)

  l_prev : (k : ℕ) → lit (prev k) ≡ f (prev k)
  unfolding lit
  l_prev k = at_other f (state n) 3 (prev k) (omega arith)

  l_spin : (k : ℕ) → lit (spin k) ≡ f (spin k)
  unfolding lit
  l_spin k = at_other f (state n) 3 (spin k) (omega arith)

  l_state : (k : ℕ) → (k ≡ n → ⊥) → lit (state k) ≡ f (state k)
  unfolding lit
  l_state k h = at_other f (state n) 3 (state k) (omega arith)

  l_here : lit (state n) ≡ 3
  unfolding lit
  l_here = at_same f (state n) 3

-- a reader whose turn has come becomes active, and nobody behind it may be in yet
module _ (f : ℕ → ℕ) (V : ℕ → View) (l : List ℕ) (I : Line f V l) (c n : ℕ) (is : V c ≡ turn_r n) where
  lit_blocked : (d : ℕ) → Spot f (V c) (V d) → granted f (V d) ≡ false
  lit_blocked d P = blocked f (V c) (V d) P (ap active is) (λ z. let y = sym (ap link is) ∙ z in omega arith)

  lit_not_me : (d : ℕ) → Spot f (V c) (V d) → d ≡ c → ⊥
  lit_not_me d P e = clash (granted f (V d)) (ap (λ (x : ℕ). granted f (V x)) e ∙ ap (granted f) is) (lit_blocked d P)

  lit_next : (d : ℕ) → Spot f (V c) (V d) → f (next n) ≡ link (V d)
  lit_next d P = ⊎_elim (λ z. let y = sym (ap link is) ∙ z in absurd (omega arith))
      (λ e. ap (λ (v : View). f (next (node v))) (sym is) ∙ e) P.from

  lit_last : (link (V c) ≡ 0) ⊎ (f (next (node (V c))) ≡ 0) → f (next n) ≡ 0
  lit_last (inl z) = let y = sym (ap link is) ∙ z in absurd (omega arith)
  lit_last (inr e) = ap (λ (v : View). f (next (node v))) (sym is) ∙ e

  -- every other card has another node
  lit_apart : (d : ℕ) → (d ≡ c → ⊥) → link (V d) ≡ suc (node (V d)) → node (V d) ≡ n → ⊥
  lit_apart d nd q e = ⊎_elim nd (λ z. omega arith) (I.nodes d c (q ∙ ap suc e ∙ sym (ap link is)))

  lit_cells : (d : ℕ) → (d ≡ c → ⊥) → Cells (lit f n) (V d)
  lit_cells d nd = let k = node (V d) in cells_frame f (lit f n) (V d) (λ q. l_state f n k (lit_apart d nd q))
      (λ _ _. l_spin f n k) (λ _ _. l_next f n k) (λ _ _. l_prev f n k) (I.cells d)

  -- it goes on as u, whose target is what its next names
  lit_with : (u : View) → joined u ≡ true → link u ≡ suc n → node u ≡ n → reader u ≡ true
      → granted (lit f n) u ≡ true → hand u ≡ 0 → target u ≡ f (next n) → active u ≡ true → waking u ≡ false
      → Cells (lit f n) u → Line (lit f n) (at V c u) l
  lit_with u ju lu nu ru gu hu tu au wu k = local_line f (lit f n) V l I c u
      (ap joined is) ju (lu ∙ sym (ap link is)) (hu ∙ sym (ap hand is)) (l_tail f n)
      (λ d _ _. front_frame f (lit f n) (V d) (l_next f n (node (V d))))
      (λ p d i o np P. at_all (λ (d : ℕ) (x : View). Seat f (lit f n) (V d) x) V c u seat others d)
      behind end (at_all (λ (d : ℕ) (v : View). Cells (lit f n) v) V c u k lit_cells)
    where
      seat : Seat f (lit f n) (V c) u
      seat = rw is (record {
        joins = ju;
        links = lu;
        reads = ru;
        grants = gu;
        prevs = λ _. ap (λ (x : ℕ). lit f n (prev x)) nu ∙ l_prev f n n;
      })

      others : (d : ℕ) → (d ≡ c → ⊥) → Seat f (lit f n) (V d) (V d)
      others d _ = seat_frame f (lit f n) (V d) (λ _. l_prev f n (node (V d))) (l_spin f n (node (V d)))

      my_next : lit f n (next (node u)) ≡ f (next n)
      my_next = ap (λ (x : ℕ). lit f n (next x)) nu ∙ l_next f n n

      behind : (d : ℕ) → In d l → Spot f (V c) (V d) → Spot (lit f n) u (at V c u d)
      behind d i P =
          let b = granted_frame f (lit f n) (V d) (l_spin f n (node (V d))) ∙ lit_blocked d P in
          rw (at_other V c u d (lit_not_me d P)) (record {
            in_line = P.in_line;
            from = inr (my_next ∙ lit_next d P);
            ahead = λ r. l_prev f n (node (V d)) ∙ P.ahead r ∙ ap link is ∙ sym lu;
            turnw = λ _ t. clash (granted (lit f n) (V d)) t b;
            turnr = λ _ t. clash (granted (lit f n) (V d)) t b;
            aim = inr (tu ∙ lit_next d P, b, λ w. clash (waking u) w wu);
            owed = λ _ _ _. tu ∙ lit_next d P;
          })

      end : End f (V c) → End (lit f n) u
      end E = record {
        tail = l_tail f n ∙ E.tail ∙ ap link is ∙ sym lu;
        last = inr (my_next ∙ lit_last E.last);
        aimless = tu ∙ lit_last E.last;
      }

  pub lit_line_in : f (next n) ≡ 0 → Line (lit f n) (at V c (active_r n)) l
  lit_line_in e = lit_with (active_r n) refl refl refl refl refl refl (sym e) refl refl (l_here f n)

  pub lit_line_sees : (k : ℕ) → f (next n) ≡ suc k → Line (lit f n) (at V c (sees_r n (suc k))) l
  lit_line_sees k e = lit_with (sees_r n (suc k)) refl refl refl refl refl refl (sym e) refl refl (l_here f n)

-- an active reader wakes the reader behind it
module _ (f : ℕ → ℕ) (V : ℕ → View) (l : List ℕ) (I : Line f V l) (c n m : ℕ) (is : V c ≡ wakes_r n (suc m)) where
  wake_aimed : (d : ℕ) → Spot f (V c) (V d) → (link (V d) ≡ suc m) × (granted f (V d) ≡ false) × (reader (V d) ≡ true)
  wake_aimed d P = let A = aimed f (V c) (V d) m P (ap target is) in (A.0, A.1, A.2 (ap waking is))

  wake_not_me : (d : ℕ) → Spot f (V c) (V d) → d ≡ c → ⊥
  wake_not_me d P e = clash (granted f (V d)) (ap (λ (x : ℕ). granted f (V x)) e ∙ ap (granted f) is)
      (wake_aimed d P).1

  -- the card right behind
  wake_card : (d : ℕ) × In d l × Spot f (V c) (V d)
  wake_card = ⊎_elim (λ E. let z = sym (ap target is) ∙ E.aimless in absurd (omega arith)) (λ w. w)
      (chain_behind f V l 0 I.chain c (I.members c (ap joined is)))

  -- the woken node is that of the card right behind, of no other
  wake_apart : (p d : ℕ) → Ok V p → (p ≡ suc c → ⊥) → Spot f (who V p) (V d) → node (V d) ≡ m → ⊥
  wake_apart p d o np P e =
      let W = wake_card in let A = wake_aimed W.0 W.2 in
      let h = holder V I.nodes W.0 d m A.0 P.in_line e in
      let r : reader (V d) ≡ true = ap (λ (x : ℕ). reader (V x)) h ∙ A.2 in
      let k : f (prev (node (V d))) ≡ suc n =
      ap (λ (x : ℕ). f (prev (node (V x)))) h ∙ W.2.ahead A.2 ∙ ap link is in
      go p o np (sym (P.ahead r) ∙ k)
    where
      go : (p : ℕ) → Ok V p → (p ≡ suc c → ⊥) → link (who V p) ≡ suc n → ⊥
      go zero o np k = omega arith
      go (suc e) o np k = ⊎_elim (λ h. np (ap suc h)) (λ z. omega arith) (I.nodes e c (k ∙ sym (ap link is)))

  pub wake_line : Line (woken f m) (at V c (active_r n)) l
  wake_line = local_line f (woken f m) V l I c (active_r n)
      (ap joined is) refl (sym (ap link is)) (sym (ap hand is)) (w_tail f m)
      (λ d _ _. front_frame f (woken f m) (V d) (w_next f m (node (V d))))
      (λ p d i o np P. at_all (λ (d : ℕ) (x : View). (node (V d) ≡ m → ⊥) → Seat f (woken f m) (V d) x)
      V c (active_r n) (λ _. seat) others d (wake_apart p d o np P))
      behind (λ E. let z = sym (ap target is) ∙ E.aimless in absurd (omega arith))
      (at_all (λ (d : ℕ) (v : View). Cells (woken f m) v) V c (active_r n)
      (w_state f m n ∙ subst (Cells f) is (I.cells c))
      (λ d nd. let W = wake_card in
      w_cells f m V I.nodes W.0 W.2.in_line (wake_aimed W.0 W.2).0 d (I.cells d)))
    where
      seat : Seat f (woken f m) (V c) (active_r n)
      seat = rw is (record
          { joins = refl; links = refl; reads = refl; grants = refl; prevs = λ _. w_prev f m n })

      others : (d : ℕ) → (d ≡ c → ⊥) → (node (V d) ≡ m → ⊥) → Seat f (woken f m) (V d) (V d)
      others d _ h = seat_frame f (woken f m) (V d) (λ _. w_prev f m (node (V d))) (w_spin f m (node (V d)) h)

      linked : (d : ℕ) → Spot f (V c) (V d) → woken f m (next n) ≡ link (V d)
      linked d P = ⊎_elim (λ z. let y = sym (ap link is) ∙ z in absurd (omega arith))
          (λ e. w_next f m n ∙ ap (λ (v : View). f (next (node v))) (sym is) ∙ e) P.from

      behind : (d : ℕ) → In d l → Spot f (V c) (V d) → Spot (woken f m) (active_r n) (at V c (active_r n) d)
      behind d i P =
          let A = wake_aimed d P in let b = w_granted f m (V d) P.in_line A.0 in
          rw (at_other V c (active_r n) d (wake_not_me d P)) (record {
            in_line = P.in_line;
            from = inr (linked d P);
            ahead = λ r. w_prev f m (node (V d)) ∙ P.ahead r ∙ ap link is;
            turnw = λ r _. clash (reader (V d)) A.2 r;
            turnr = λ _ _. inr refl;
            aim = inl refl;
            owed = λ _ _ t. clash (granted (woken f m) (V d)) b t;
          })
