-- A card leaves the line.
use Rattle.std.proofs.Common.{◌≡◌, ℕ, zero, suc, true, false, ◌⊎◌, List, [], ◌∷◌, sym, refl, ap, ◌∙◌, subst, inl, inr}
use Rattle.std.proofs.Common.{⊎_elim, arith}
use Rattle.std.proofs.lemmas.Bool.{cases_eq, eq-eqb, ne_eqb}
use Rattle.board.proofs.Cells.{at, at_same, at_other, at_all, clash, next, prev, state, spin}
use Rattle.board.proofs.Views.{link_node, View, away, comes_w, comes_r, waits_w, waits_r}
use Rattle.board.proofs.Views.{holds_w, turn_r, active_r, sees_r, wakes_r, hands}
use Rattle.board.proofs.Views.{node, link, joined, reader, active, target, hand, granted, Cells}
use Rattle.board.proofs.Chain.{without, Spot, End, who, Chain, In, Once, Ok, granted_frame, chain_behind, chain_place}
use Rattle.board.proofs.Chain.{chain_pred, chain_leave, Led, Due, Baton, Line, Front, seat_place, front_end}
use Rattle.board.proofs.Lists.{without_once}
use Rattle.board.proofs.Moves.{joined_link, holder, cells_frame}
use Rattle.board.proofs.Moves.{seat_frame, front_frame, front_none, nodes_at}

-- who is in a list without one of its cards
in_without : (c d : ℕ) (l : List ℕ) → (d ≡ c → ⊥) → In d l → In d (without c l)
in_without c d [] n i = i
in_without c d (a ∷ l) n i = go (cases_eq a c) (in_without c d l n) i
  where
    go : (a ≡ c) ⊎ (a ≡ c → ⊥) → (In d l → In d (without c l)) → (d ≡ a) ⊎ In d l → In d (without c (a ∷ l))
    go (inl e) r (inl h) = absurd (n (h ∙ e))
    go (inl e) r (inr j) = rw (eq-eqb a c e) j
    go (inr k) r (inl h) = rw (ne_eqb a c k) (inl h)
    go (inr k) r (inr j) = rw (ne_eqb a c k) (inr (r j))

-- an active reader is a reader, and has a node
active_reader : (v : View) → active v ≡ true → (reader v ≡ true) × (link v ≡ suc (node v))
active_reader away a = clash false a refl
active_reader (comes_w n) a = clash false a refl
active_reader (comes_r n) a = clash false a refl
active_reader (waits_w n) a = clash false a refl
active_reader (waits_r n) a = clash false a refl
active_reader (holds_w n) a = clash false a refl
active_reader (turn_r n) a = clash false a refl
active_reader (active_r n) a = (refl, refl)
active_reader (sees_r n q) a = (refl, refl)
active_reader (wakes_r n q) a = (refl, refl)
active_reader (hands n q) a = clash false a refl

-- a card seen as v, with the node n, leaves its place between the links b ahead and q behind, either of which may be
-- 0, and is seen as u; the cells go from f to g
pub record Leaving (f g : ℕ → ℕ) (v : View) (n b q : ℕ) (u : View) : Type 0 where
  -- before: in line and let in, an active reader or a writer, with nobody to look at or to wake
  pub in_line : joined v ≡ true
  pub let_in : granted f v ≡ true
  pub aimless : target v ≡ 0
  pub has : link v ≡ suc n
  pub handless : hand v ≡ 0
  pub kind : (active v ≡ true) ⊎ (reader v ≡ false)
  pub names : f (next n) ≡ q
  -- after: out of line
  pub outside : joined u ≡ false
  pub keeps : (link u ≡ link v) ⊎ (link u ≡ 0)
  pub stands : Cells g u
  -- the one behind, or the tail, names the one ahead, and the other way round; no other cell changes
  pub tail : q ≡ 0 → g 0 ≡ b
  pub backed : (k : ℕ) → q ≡ suc k → g (prev k) ≡ b
  pub linked : (m : ℕ) → b ≡ suc m → g (next m) ≡ q
  pub kept : (a : ℕ) → (q ≡ 0 → a ≡ 0 → ⊥) → ((k : ℕ) → q ≡ suc k → a ≡ prev k → ⊥)
      → ((m : ℕ) → b ≡ suc m → a ≡ next m → ⊥) → g a ≡ f a

-- whom it leaves the first place to: nobody or one that may be in, or one that it will wake
abbrev pub Handover : (ℕ → ℕ) → (ℕ → View) → View → ℕ → ℕ → View → Type 0
Handover f V v b q u =
    ((hand u ≡ 0) × (b ≡ 0 → (d : ℕ) → Spot f v (V d) → granted f (V d) ≡ true))
    ⊎ ((hand u ≡ q) × (b ≡ 0) × (q ≡ 0 → ⊥) × ((d : ℕ) → Spot f v (V d) → granted f (V d) ≡ false))

module _ (f g : ℕ → ℕ) (V : ℕ → View) (l : List ℕ) (I : Line f V l) (c n b q : ℕ) (u : View)
    (Q : Leaving f g (V c) n b q u) (ahd : (p : ℕ) → Spot f (who V p) (V c) → link (who V p) ≡ b)
    (after : Handover f V (V c) b q u) where
  my_next : f (next (node (V c))) ≡ q
  my_next = ap (λ (x : ℕ). f (next x)) (link_node (V c) n Q.has) ∙ Q.names

  -- the link behind is that of the card right behind, or 0 at the end
  next_link : (d : ℕ) → Spot f (V c) (V d) → q ≡ link (V d)
  next_link d P = let h = Q.has in ⊎_elim (λ z. absurd (omega arith)) (λ e. sym my_next ∙ e) P.from

  end_next : End f (V c) → q ≡ 0
  end_next E = let h = Q.has in ⊎_elim (λ z. absurd (omega arith)) (λ e. sym my_next ∙ e) E.last

  behind : End f (V c) ⊎ ((d : ℕ) × In d l × Spot f (V c) (V d))
  behind = chain_behind f V l 0 I.chain c (I.members c Q.in_line)

  -- the node behind is a card's right behind
  succ : (k : ℕ) → q ≡ suc k → (d : ℕ) × (link (V d) ≡ suc k) × Spot f (V c) (V d)
  succ k e = ⊎_elim (λ E. let z = end_next E in absurd (omega arith))
      (λ w. (w.0, sym (next_link w.0 w.2) ∙ e, w.2)) behind

  -- the node ahead is a card's in line, and names this one
  pred : (m : ℕ) → b ≡ suc m → (x : ℕ) × (joined (V x) ≡ true) × (link (V x) ≡ suc m) × (f (next m) ≡ suc n)
  pred m e = let w = chain_place f V l I.chain c (I.members c Q.in_line) in go w.0 w.1 w.2
    where
      go : (p : ℕ) → Ok V p → Spot f (who V p) (V c)
          → (x : ℕ) × (joined (V x) ≡ true) × (link (V x) ≡ suc m) × (f (next m) ≡ suc n)
      go zero o P = let z = ahd 0 P in absurd (omega arith)
      go (suc x) o P = let k = ahd (suc x) P ∙ e in (
        x,
        o,
        k,
        ⊎_elim (λ z. absurd (omega arith))
            (λ h. ap (λ (y : ℕ). f (next y)) (sym (link_node (V x) m k)) ∙ h ∙ Q.has) P.from,
      )

  k_spin : (k : ℕ) → g (spin k) ≡ f (spin k)
  k_spin k = Q.kept (spin k) (λ _. omega arith) (λ _ _. omega arith) (λ _ _. omega arith)

  k_state : (k : ℕ) → g (state k) ≡ f (state k)
  k_state k = Q.kept (state k) (λ _. omega arith) (λ _ _. omega arith) (λ _ _. omega arith)

  k_prev : (a : ℕ) → ((k : ℕ) → q ≡ suc k → a ≡ k → ⊥) → g (prev a) ≡ f (prev a)
  k_prev a h = Q.kept (prev a) (λ _. omega arith) (λ k e z. h k e (omega arith)) (λ _ _. omega arith)

  k_next : (a : ℕ) → ((m : ℕ) → b ≡ suc m → a ≡ m → ⊥) → g (next a) ≡ f (next a)
  k_next a h = Q.kept (next a) (λ _. omega arith) (λ _ _. omega arith) (λ m e z. h m e (omega arith))

  k_granted : (v : View) → granted g v ≡ granted f v
  k_granted v = granted_frame f g v (k_spin (node v))

  same : (d : ℕ) → (d ≡ c → ⊥) → at V c u d ≡ V d
  same d h = at_other V c u d h

  same_who : (p : ℕ) → (p ≡ suc c → ⊥) → who (at V c u) p ≡ who V p
  same_who zero h = refl
  same_who (suc d) h = same d (λ e. h (ap suc e))

  -- one card has one place
  card_is : (p : ℕ) → Ok V p → link (who V p) ≡ suc n → p ≡ suc c
  card_is zero o e = absurd (omega arith)
  card_is (suc d) o e = ⊎_elim (λ h. ap suc h) (λ z. absurd (omega arith)) (I.nodes d c (e ∙ sym Q.has))

  -- who names another than the card that leaves is not the one ahead of it
  k_front : (p x : ℕ) → Ok V p → (x ≡ suc n → ⊥) → (link (who V p) ≡ 0) ⊎ (f (next (node (who V p))) ≡ x)
      → Front f g (who V p) (who V p)
  k_front zero x o nd h = front_none f g
  k_front (suc d) x o nd h = front_frame f g (V d) (k_next (node (V d)) not_ahead)
    where
      not_ahead : (m : ℕ) → b ≡ suc m → node (V d) ≡ m → ⊥
      not_ahead m e z = let w = (pred m e).3 in let j = joined_link (V d) o in
          ⊎_elim (λ y. omega arith) (λ y. nd (sym y ∙ ap (λ (y : ℕ). f (next y)) z ∙ w)) h

  -- the places elsewhere
  each : (p d : ℕ) → (p ≡ suc c → ⊥) → (d ≡ c → ⊥) → Ok V p → Spot f (who V p) (V d)
      → Spot g (who (at V c u) p) (at V c u d)
  each p d np nd o P = rw (same d nd, same_who p np)
      (seat_place f g (who V p) (who V p) (V d) (V d) (k_front p (link (V d)) o another P.from)
      (seat_frame f g (V d) (λ r. k_prev (node (V d)) (not_behind r)) (k_spin (node (V d)))) P)
    where
      another : link (V d) ≡ suc n → ⊥
      another e = ⊎_elim nd (λ z. omega arith) (I.nodes d c (e ∙ sym Q.has))

      not_behind : reader (V d) ≡ true → (k : ℕ) → q ≡ suc k → node (V d) ≡ k → ⊥
      not_behind r k e z =
          let S = succ k e in let h = holder V I.nodes S.0 d k S.1 P.in_line z in
          np (card_is p o (sym (P.ahead r)
          ∙ subst (λ (x : ℕ). (reader (V x) ≡ true → f (prev (node (V x))) ≡ suc n)) (sym h)
          (λ r. S.2.ahead r ∙ Q.has) r))

  end : (p : ℕ) → (p ≡ suc c → ⊥) → Ok V p → End f (who V p) → End g (who (at V c u) p)
  end p np o E = rw (same_who p np) (front_end f g (who V p) (who V p)
      (Q.kept 0 (λ e _. not_last e) (λ _ _. omega arith) (λ _ _. omega arith))
      (k_front p 0 o (omega arith) E.last) E)
    where
      not_last : q ≡ 0 → ⊥
      not_last e = ⊎_elim (λ F. np (card_is p o (sym E.tail ∙ F.tail ∙ Q.has)))
          (λ w. let z = next_link w.0 w.2 in let j = joined_link (V w.0) w.2.in_line in omega arith) behind

  calm : (p : ℕ) → Spot f (who V p) (V c) → target (who V p) ≡ 0
  calm p P = ⊎_elim (λ z. z) (λ w. clash (granted f (V c)) Q.let_in w.1) P.aim

  linked : (p : ℕ) → Ok V p → Spot f (who V p) (V c) → (link (who V p) ≡ 0) ⊎ (g (next (node (who V p))) ≡ q)
  linked zero o P = inl refl
  linked (suc x) o P = let j = joined_link (V x) o in inr (Q.linked (node (V x)) (sym (ahd (suc x) P) ∙ j))

  -- the place behind the card becomes one behind the one ahead
  skip : (p d : ℕ) → (p ≡ suc c → ⊥) → (d ≡ c → ⊥) → Ok V p → Spot f (who V p) (V c) → Spot f (V c) (V d)
      → Spot g (who (at V c u) p) (at V c u d)
  skip p d np nd o P R =
      let j = joined_link (V d) R.in_line in let nl = next_link d R in let h = Q.has in let t = Q.aimless in
      rw (same d nd, same_who p np) (record {
        in_line = R.in_line;
        from = ⊎_elim inl (λ e. inr (e ∙ nl)) (linked p o P);
        ahead = λ r. Q.backed (node (V d)) (nl ∙ j) ∙ sym (ahd p P);
        turnw = λ r k. let z = R.turnw r (sym (k_granted (V d)) ∙ k) in absurd (omega arith);
        turnr = λ r k. ⊎_elim (λ z. absurd (omega arith)) (λ a. P.turnr (active_reader (V c) a).0 Q.let_in)
            (R.turnr r (sym (k_granted (V d)) ∙ k));
        aim = inl (calm p P);
        owed = λ a r k. ⊎_elim
            (λ ac. let z = R.owed ac r (sym (k_granted (V d)) ∙ k) in absurd (omega arith))
            (λ w. let z = P.turnw w Q.let_in in let y = (active_reader (who V p) a).1 in absurd (omega arith))
            Q.kind;
      })

  skip_end : (p : ℕ) → (p ≡ suc c → ⊥) → Ok V p → Spot f (who V p) (V c) → End f (V c) → End g (who (at V c u) p)
  skip_end p np o P E = let z = end_next E in rw (same_who p np) (record {
    tail = Q.tail z ∙ sym (ahd p P);
    last = ⊎_elim inl (λ e. inr (e ∙ z)) (linked p o P);
    aimless = calm p P;
  })

  -- the first leaves
  first_leaves : (k : List ℕ) → Spot f away (V c) → Chain f V (suc c) k → (In c k → ⊥) → ((d : ℕ) → hand (V d) ≡ 0)
      → Baton g (at V c u) k
  first_leaves k P h nin none = let z = ahd 0 P in ⊎_elim
      (λ A. inl (at_all (λ (d : ℕ) (v : View). hand v ≡ 0) V c u A.0 (λ d _. none d), led k h nin (A.1 (sym z))))
      (λ B. let e = sym (ap hand (at_same V c u) ∙ B.0) in inr (
        c,
        subst (λ (x : ℕ). x ≡ 0 → ⊥) e B.2,
        at_all (λ (e : ℕ) (v : View). (e ≡ c) ⊎ (hand v ≡ 0)) V c u (inl refl) (λ e _. inr (none e)),
        subst (λ (x : ℕ). Due g (at V c u) x k) e (due k h nin B.2 B.3),
      ))
      after
    where
      led : (k : List ℕ) → Chain f V (suc c) k → (In c k → ⊥)
          → ((d : ℕ) → Spot f (V c) (V d) → granted f (V d) ≡ true) → Led g (at V c u) k
      led [] h nin A = tt
      led (d ∷ k) h nin A = rw (same d (λ e. nin (inl (sym e)))) (k_granted (V d) ∙ A d h.0)

      due : (k : List ℕ) → Chain f V (suc c) k → (In c k → ⊥) → (q ≡ 0 → ⊥)
          → ((d : ℕ) → Spot f (V c) (V d) → granted f (V d) ≡ false) → Due g (at V c u) q k
      due [] h nin nz B = nz (end_next h)
      due (d ∷ k) h nin nz B =
          rw (same d (λ e. nin (inl (sym e)))) (next_link d h.0, k_granted (V d) ∙ B d h.0)

  leave_baton : (k : List ℕ) → Chain f V 0 k → Once k → In c k → Baton f V k → Baton g (at V c u) (without c k)
  leave_baton [] h o i B = absurd i
  leave_baton (a ∷ k) h o i B = go (cases_eq a c) i B
    where
      no_hand : (hand u ≡ 0) → (d : ℕ) → hand (at V c u d) ≡ hand (V d)
      no_hand z d = at_all (λ (d : ℕ) (v : View). hand v ≡ hand (V d)) V c u (z ∙ sym Q.handless) (λ d _. refl) d

      -- one that is not first hands nothing
      quiet : (joined (V a) ≡ true) → (a ≡ c → ⊥) → In c k → hand u ≡ 0
      quiet ja na j = ⊎_elim (λ A. A.0)
          (λ B. let w = chain_pred f V k a ja h.1 c j in let z = ahd (suc w.0) w.2 in
          let y = joined_link (V w.0) w.1 in let x = B.1 in absurd (omega arith))
          after

      go : (a ≡ c) ⊎ (a ≡ c → ⊥) → (c ≡ a) ⊎ In c k → Baton f V (a ∷ k) → Baton g (at V c u) (without c (a ∷ k))
      go (inl e) _ (inl B) = rw (eq-eqb a c e)
          (first_leaves k (subst (λ (x : ℕ). Spot f away (V x)) e h.0)
          (subst (λ (x : ℕ). Chain f V (suc x) k) e h.1) (subst (λ (x : ℕ). In x k → ⊥) e o.0) B.0)
      go (inl e) _ (inr B) = clash (granted f (V a)) (ap (λ (x : ℕ). granted f (V x)) e ∙ Q.let_in) B.3.1
      go (inr n) (inl e) B = absurd (n (sym e))
      go (inr n) (inr j) (inl B) = let z = quiet h.0.in_line n j in
          rw (ne_eqb a c n) (inl (λ d. no_hand z d ∙ B.0 d, rw (same a n) (k_granted (V a) ∙ B.1)))
      go (inr n) (inr j) (inr B) = let z = quiet h.0.in_line n j in
          rw (ne_eqb a c n) (inr (
            B.0,
            rw (no_hand z B.0) B.1,
            λ e. rw (no_hand z e) (B.2 e),
            rw (no_hand z B.0, same a n) (B.3.0, k_granted (V a) ∙ B.3.1),
          ))

  -- a card that is not in line has another node than those whose cells change
  apart : (d x : ℕ) → joined (V d) ≡ false → link (V d) ≡ suc (node (V d)) → joined (V x) ≡ true → (k : ℕ)
      → link (V x) ≡ suc k → node (V d) ≡ k → ⊥
  apart d x j w jx k e h = ⊎_elim (λ z. clash (joined (V d)) (ap (λ (y : ℕ). joined (V y)) z ∙ jx) j)
      (λ z. omega arith) (I.nodes d x (w ∙ ap suc h ∙ sym e))

  leave_cells : (d : ℕ) → (d ≡ c → ⊥) → Cells g (V d)
  leave_cells d nd = let k = node (V d) in cells_frame f g (V d) (λ _. k_state k) (λ _ _. k_spin k)
      (λ w j. k_next k (λ m e h. let T = pred m e in apart d T.0 j w T.1 m T.2 h))
      (λ w j. k_prev k (λ m e h. let T = succ m e in apart d T.0 j w T.2.in_line m T.1 h)) (I.cells d)

  left_line : Line g (at V c u) (without c l)
  left_line = record {
    nodes = nodes_at V c u Q.keeps I.nodes;
    cells = at_all (λ (d : ℕ) (v : View). Cells g v) V c u Q.stands leave_cells;
    members = at_all (λ (d : ℕ) (v : View). joined v ≡ true → In d (without c l)) V c u
        (λ j. clash (joined u) j Q.outside) (λ d nd j. in_without c d l nd (I.members d j));
    once = without_once c l I.once;
    chain = chain_leave f g V (at V c u) c each end skip skip_end l 0 (omega arith)
        I.once (I.members c Q.in_line) tt I.chain;
    baton = leave_baton l I.chain I.once (I.members c Q.in_line) I.baton;
  }

-- a leaving commit keeps the line
pub leave_line : (f g : ℕ → ℕ) (V : ℕ → View) (l : List ℕ) → Line f V l → (c n b q : ℕ) (v u : View) → V c ≡ v
    → Leaving f g v n b q u → ((p : ℕ) → Spot f (who V p) v → link (who V p) ≡ b) → Handover f V v b q u
    → Line g (at V c u) (without c l)
leave_line f g V l I c n b q v u is Q ahd after = left_line f g V l I c n b q u
    (subst (λ (v : View). Leaving f g v n b q u) (sym is) Q)
    (subst (λ (v : View). (p : ℕ) → Spot f (who V p) v → link (who V p) ≡ b) (sym is) ahd)
    (subst (λ (v : View). Handover f V v b q u) (sym is) after)
