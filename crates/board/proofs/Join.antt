-- A card joins the line at its end.
use Rattle.std.proofs.Common.{◌≡◌, ℕ, zero, suc, true, false, ◌⊎◌, List, [], ◌∷◌, ◌++◌, sym, refl, ap, ◌∙◌, subst}
use Rattle.std.proofs.Common.{inl, inr, ⊎_elim, arith}
use Rattle.board.proofs.Cells.{at, at_same, at_other, at_all, clash, next, prev, state, spin}
use Rattle.board.proofs.Views.{link_node, View, away, comes_w, comes_r, waits_w, waits_r}
use Rattle.board.proofs.Views.{holds_w, turn_r, active_r, sees_r, wakes_r, hands}
use Rattle.board.proofs.Views.{node, link, joined, reader, active, target, hand, granted, Cells}
use Rattle.board.proofs.Chain.{Spot, End, who, Chain, In, Once, Ok, chain_join, chain_joined, chain_end}
use Rattle.board.proofs.Chain.{Led, Due, Baton, Line, Seat, Front, seat_place}
use Rattle.board.proofs.Moves.{joined_link, cells_frame, seat_frame, front_frame, front_none, nodes_at}

-- who is in a list that is one longer
in_join : (c d : ℕ) (l : List ℕ) → In c l → In c (l ++ (d ∷ []))
in_join c d [] i = absurd i
in_join c d (a ∷ l) (inl e) = inl e
in_join c d (a ∷ l) (inr i) = inr (in_join c d l i)

-- the last is in
in_last : (c : ℕ) (l : List ℕ) → In c (l ++ (c ∷ []))
in_last c [] = inl refl
in_last c (a ∷ l) = inr (in_last c l)

-- whoever is in a list with one more
in_split : (c d : ℕ) (l : List ℕ) → In c (l ++ (d ∷ [])) → In c l ⊎ (c ≡ d)
in_split c d [] (inl e) = inr e
in_split c d [] (inr i) = absurd i
in_split c d (a ∷ l) (inl e) = inl (inl e)
in_split c d (a ∷ l) (inr i) = ⊎_elim (λ j. inl (inr j)) inr (in_split c d l i)

-- one more that was not in
once_join : (d : ℕ) (l : List ℕ) → Once l → (In d l → ⊥) → Once (l ++ (d ∷ []))
once_join d [] u n = (λ i. i, tt)
once_join d (a ∷ l) u n =
    (λ i. ⊎_elim u.0 (λ e. n (inl (sym e))) (in_split a d l i), once_join d l u.1 (λ i. n (inr i)))

-- an active reader is one whose state stands at 3
pub active_state : (f : ℕ → ℕ) (v : View) → joined v ≡ true → Cells f v
    → (active v ≡ true → f (state (node v)) ≡ 3) × (f (state (node v)) ≡ 3 → active v ≡ true)
active_state f away j k = clash false j refl
active_state f (comes_w n) j k = clash false j refl
active_state f (comes_r n) j k = clash false j refl
active_state f (waits_w n) j k = (λ a. clash false a refl, λ e. absurd (omega arith))
active_state f (waits_r n) j k = (λ a. clash false a refl, λ e. absurd (omega arith))
active_state f (holds_w n) j k = (λ a. clash false a refl, λ e. absurd (omega arith))
active_state f (turn_r n) j k = (λ a. clash false a refl, λ e. absurd (omega arith))
active_state f (active_r n) j k = (λ _. k, λ _. refl)
active_state f (sees_r n q) j k = (λ _. k, λ _. refl)
active_state f (wakes_r n q) j k = (λ _. k, λ _. refl)
active_state f (hands n q) j k = clash false j refl

-- a card seen as v, with the node n, joins behind the tail and is seen as u; the cells go from f to g
pub record Joining (f g : ℕ → ℕ) (v : View) (n : ℕ) (u : View) : Type 0 where
  -- before: out of line, with a node that names nobody
  pub outside : joined v ≡ false
  pub has : link v ≡ suc n
  pub handless : hand v ≡ 0
  pub names_nobody : f (next n) ≡ 0
  -- after: in line with that node, and nobody to look at or to wake
  pub in_line : joined u ≡ true
  pub keeps : link u ≡ suc n
  pub aimless : target u ≡ 0
  pub still_handless : hand u ≡ 0
  pub stands : Cells g u
  -- the tail names it, and so does the one that was last; a reader's prev is the old tail; no other cell changes
  pub tail : g 0 ≡ suc n
  pub linked : (m : ℕ) → f 0 ≡ suc m → g (next m) ≡ suc n
  pub backed : reader u ≡ true → g (prev n) ≡ f 0
  pub kept : (a : ℕ) → (a ≡ 0 → ⊥) → (a ≡ prev n → ⊥) → ((m : ℕ) → f 0 ≡ suc m → a ≡ next m → ⊥) → g a ≡ f a
  -- it may be in where it is first, or is a reader behind an active reader
  pub first_in : f 0 ≡ 0 → granted g u ≡ true
  pub writer_in : reader u ≡ false → granted g u ≡ true → f 0 ≡ 0
  pub reader_in : reader u ≡ true → granted g u ≡ true → (f 0 ≡ 0) ⊎ ((m : ℕ) → f 0 ≡ suc m → f (state m) ≡ 3)
  pub reader_waits : reader u ≡ true → granted g u ≡ false → (m : ℕ) → f 0 ≡ suc m → f (state m) ≡ 3 → ⊥

module _ (f g : ℕ → ℕ) (V : ℕ → View) (l : List ℕ) (I : Line f V l) (c n : ℕ) (u : View)
    (J : Joining f g (V c) n u) where
  other : (d : ℕ) → joined (V d) ≡ true → d ≡ c → ⊥
  other d j e = clash (joined (V d)) j (ap (λ (x : ℕ). joined (V x)) e ∙ J.outside)

  same : (d : ℕ) → joined (V d) ≡ true → at V c u d ≡ V d
  same d j = at_other V c u d (other d j)

  my_node : node u ≡ n
  my_node = link_node u n J.keeps

  -- the tail's node is that of a card in line, with nobody behind
  tail_card : (m : ℕ) → f 0 ≡ suc m → (d : ℕ) × (joined (V d) ≡ true) × (link (V d) ≡ suc m) × (f (next m) ≡ 0)
  tail_card m e = let w = chain_end f V l 0 tt I.chain in go w.0 w.1 w.2
    where
      go : (p : ℕ) → Ok V p → End f (who V p)
          → (d : ℕ) × (joined (V d) ≡ true) × (link (V d) ≡ suc m) × (f (next m) ≡ 0)
      go zero o E = let t = E.tail in absurd (omega arith)
      go (suc d) o E = let k = sym E.tail ∙ e in (
        d,
        o,
        k,
        ⊎_elim (λ z. absurd (omega arith))
            (λ h. ap (λ (x : ℕ). f (next x)) (sym (link_node (V d) m k)) ∙ h) E.last,
      )

  -- every other card has another node; who is out of line has not the tail's
  apart_node : (d : ℕ) → (d ≡ c → ⊥) → link (V d) ≡ suc (node (V d)) → node (V d) ≡ n → ⊥
  apart_node d nd q e = ⊎_elim nd (λ z. omega arith) (I.nodes d c (q ∙ ap suc e ∙ sym J.has))

  apart_tail : (d : ℕ) → joined (V d) ≡ false → link (V d) ≡ suc (node (V d)) → (m : ℕ) → f 0 ≡ suc m
      → node (V d) ≡ m → ⊥
  apart_tail d j q m e h = let T = tail_card m e in
      ⊎_elim (λ x. clash (joined (V d)) (ap (λ (y : ℕ). joined (V y)) x ∙ T.1) j)
      (λ z. omega arith) (I.nodes d T.0 (q ∙ ap suc h ∙ sym T.2))

  k_spin : (k : ℕ) → g (spin k) ≡ f (spin k)
  k_spin k = J.kept (spin k) (omega arith) (omega arith) (λ m _. omega arith)

  k_state : (k : ℕ) → g (state k) ≡ f (state k)
  k_state k = J.kept (state k) (omega arith) (omega arith) (λ m _. omega arith)

  k_prev : (k : ℕ) → (k ≡ n → ⊥) → g (prev k) ≡ f (prev k)
  k_prev k h = J.kept (prev k) (omega arith) (omega arith) (λ m _. omega arith)

  k_next : (k : ℕ) → ((m : ℕ) → f 0 ≡ suc m → k ≡ m → ⊥) → g (next k) ≡ f (next k)
  k_next k h = J.kept (next k) (omega arith) (omega arith) (λ m e q. h m e (omega arith))

  k_seat : (d : ℕ) → joined (V d) ≡ true → Seat f g (V d) (V d)
  k_seat d j = seat_frame f g (V d)
      (λ _. k_prev (node (V d)) (apart_node d (other d j) (joined_link (V d) j))) (k_spin (node (V d)))

  -- who stands ahead of another is not the last
  k_front : (p d : ℕ) → Ok V p → Spot f (who V p) (V d) → Front f g (who V p) (who (at V c u) p)
  k_front zero d o P = front_none f g
  k_front (suc e) d o P = rw (same e o) (front_frame f g (V e) (k_next (node (V e)) not_last))
    where
      not_last : (m : ℕ) → f 0 ≡ suc m → node (V e) ≡ m → ⊥
      not_last m t q =
          let w = (tail_card m t).3 in let j = joined_link (V e) o in let y = joined_link (V d) P.in_line in
          ⊎_elim (λ z. omega arith) (λ z. let x = sym (ap (λ (x : ℕ). f (next x)) q) ∙ z in omega arith) P.from

  -- the new place
  new : (p : ℕ) → Ok V p → End f (who V p) → Spot g (who (at V c u) p) (at V c u c)
  new zero o E = rw (at_same V c u) (record {
    in_line = J.in_line;
    from = inl refl;
    ahead = λ r. subst (λ (x : ℕ). g (prev x) ≡ 0) (sym my_node) (J.backed r ∙ E.tail);
    turnw = λ _ _. refl;
    turnr = λ _ _. inl refl;
    aim = inl refl;
    owed = λ a _ _. clash false a refl;
  })
  new (suc d) o E =
      let q = joined_link (V d) o in let t = E.tail ∙ q in let A = active_state f (V d) o (I.cells d) in
      rw (at_same V c u, same d o) (record {
        in_line = J.in_line;
        from = inr (J.linked (node (V d)) t ∙ sym J.keeps);
        ahead = λ r. subst (λ (x : ℕ). g (prev x) ≡ link (V d)) (sym my_node) (J.backed r ∙ E.tail);
        turnw = λ r k. sym E.tail ∙ J.writer_in r k;
        turnr = λ r k. ⊎_elim (λ z. inl (sym E.tail ∙ z)) (λ h. inr (A.1 (h (node (V d)) t))) (J.reader_in r k);
        aim = inl E.aimless;
        owed = λ a r k. absurd (J.reader_waits r k (node (V d)) t (A.0 a));
      })

  new_end : End g (at V c u c)
  new_end = rw (at_same V c u) (record {
    tail = J.tail ∙ sym J.keeps;
    last = inr (ap (λ (x : ℕ). g (next x)) my_node ∙ k_next n apart ∙ J.names_nobody);
    aimless = J.aimless;
  })
    where
      apart : (m : ℕ) → f 0 ≡ suc m → n ≡ m → ⊥
      apart m e q = let T = tail_card m e in
          ⊎_elim (λ x. other T.0 T.1 x) (λ z. omega arith)
          (I.nodes T.0 c (T.2 ∙ ap suc (sym q) ∙ sym J.has))

  head_led : (k : List ℕ) (p : ℕ) → Chain f V p k → Led f V k → (k ≡ [] → f 0 ≡ 0) → Led g (at V c u) (k ++ (c ∷ []))
  head_led [] p h x e = rw (at_same V c u) (J.first_in (e refl))
  head_led (a ∷ k) p h x e = rw (same a h.0.in_line) ((k_seat a h.0.in_line).grants ∙ x)

  head_due : (q : ℕ) (k : List ℕ) (p : ℕ) → Chain f V p k → Due f V q k → Due g (at V c u) q (k ++ (c ∷ []))
  head_due q [] p h x = absurd x
  head_due q (a ∷ k) p h x = rw (same a h.0.in_line) (x.0, (k_seat a h.0.in_line).grants ∙ x.1)

  join_hand : (d : ℕ) → hand (at V c u d) ≡ hand (V d)
  join_hand d = at_all (λ (d : ℕ) (v : View). hand v ≡ hand (V d)) V c u
      (J.still_handless ∙ sym J.handless) (λ d n. refl) d

  join_baton : Baton f V l → Baton g (at V c u) (l ++ (c ∷ []))
  join_baton (inl k) = inl (
    λ d. join_hand d ∙ k.0 d,
    head_led l 0 I.chain k.1 (λ e. (subst (λ (k : List ℕ). Chain f V 0 k) e I.chain).tail),
  )
  join_baton (inr k) = inr (
    k.0,
    rw (join_hand k.0) k.1,
    λ e. rw (join_hand e) (k.2 e),
    rw (join_hand k.0) (head_due (hand (V k.0)) l 0 I.chain k.3),
  )

  join_cells : (d : ℕ) → (d ≡ c → ⊥) → Cells g (V d)
  join_cells d nd = let k = node (V d) in cells_frame f g (V d) (λ _. k_state k) (λ _ _. k_spin k)
      (λ q j. k_next k (apart_tail d j q)) (λ q j. k_prev k (apart_node d nd q)) (I.cells d)

  joined_line : Line g (at V c u) (l ++ (c ∷ []))
  joined_line = record {
    nodes = nodes_at V c u (inl (J.keeps ∙ sym J.has)) I.nodes;
    cells = at_all (λ (d : ℕ) (v : View). Cells g v) V c u J.stands join_cells;
    members = at_all (λ (d : ℕ) (v : View). joined v ≡ true → In d (l ++ (c ∷ []))) V c u
        (λ _. in_last c l) (λ d _ j. in_join d c l (I.members d j));
    once = once_join c l I.once (λ i. clash (joined (V c)) (chain_joined f V l 0 I.chain c i) J.outside);
    chain = chain_join f g V (at V c u) c l
        (λ p d i o P. rw (same d P.in_line)
        (seat_place f g (who V p) (who (at V c u) p) (V d) (V d) (k_front p d o P) (k_seat d P.in_line) P))
        new new_end 0 tt I.chain;
    baton = join_baton I.baton;
  }

-- a joining commit keeps the line
pub join_line : (f g : ℕ → ℕ) (V : ℕ → View) (l : List ℕ) → Line f V l → (c n : ℕ) (v u : View) → V c ≡ v
    → Joining f g v n u → Line g (at V c u) (l ++ (c ∷ []))
join_line f g V l I c n v u is J =
    joined_line f g V l I c n u (subst (λ (v : View). Joining f g v n u) (sym is) J)
