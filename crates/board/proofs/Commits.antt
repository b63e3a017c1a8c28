-- Each commit that the line sees, from what its transaction read and wrote.
use Rattle.std.proofs.Common.{◌≡◌, ℕ, suc, Bool, true, false, eqb, ◌⊎◌, List, [], ◌∷◌, ◌++◌, sym, refl, ap, ◌∙◌}
use Rattle.std.proofs.Common.{subst, inl, inr, ⊎_elim, arith}
use Rattle.std.proofs.lemmas.Bool.{ne_eqb}
use Rattle.board.proofs.Cells.{at, next, prev, state, spin}
use Rattle.board.proofs.Chain.{without}
use Rattle.board.proofs.Cells.{at_same, at_other, clash}
use Rattle.board.proofs.Views.{link_node, View, away, comes_w, comes_r, waits_w, waits_r, holds_w, turn_r, active_r}
use Rattle.board.proofs.Views.{sees_r}
use Rattle.board.proofs.Views.{wakes_r}
use Rattle.board.proofs.Views.{hands, node, link, joined, reader, active, target, hand, granted, Cells}
use Rattle.board.proofs.Chain.{Spot, who, Line}
use Rattle.board.proofs.Moves.{joined_link, blocked}
use Rattle.board.proofs.Join.{join_line}
use Rattle.board.proofs.Leave.{leave_line}

-- a reader's state is not 2, and a writer's is
reader_state : (f : ℕ → ℕ) (v : View) → reader v ≡ true → joined v ≡ true → Cells f v → f (state (node v)) ≡ 2 → ⊥
reader_state f away r j k e = clash false j refl
reader_state f (comes_w n) r j k e = clash false j refl
reader_state f (comes_r n) r j k e = clash false j refl
reader_state f (waits_w n) r j k e = clash false r refl
reader_state f (waits_r n) r j k e = omega arith
reader_state f (holds_w n) r j k e = clash false r refl
reader_state f (turn_r n) r j k e = omega arith
reader_state f (active_r n) r j k e = omega arith
reader_state f (sees_r n q) r j k e = omega arith
reader_state f (wakes_r n q) r j k e = omega arith
reader_state f (hands n q) r j k e = clash false j refl

-- a writer in line has state 2
writer_state : (f : ℕ → ℕ) (v : View) → reader v ≡ false → joined v ≡ true → Cells f v → f (state (node v)) ≡ 2
writer_state f away r j k = clash false j refl
writer_state f (comes_w n) r j k = clash false j refl
writer_state f (comes_r n) r j k = clash false j refl
writer_state f (waits_w n) r j k = k
writer_state f (waits_r n) r j k = clash true refl r
writer_state f (holds_w n) r j k = k
writer_state f (turn_r n) r j k = clash true refl r
writer_state f (active_r n) r j k = clash true refl r
writer_state f (sees_r n q) r j k = clash true refl r
writer_state f (wakes_r n q) r j k = clash true refl r
writer_state f (hands n q) r j k = clash false j refl

-- what a function changed at one or two places is elsewhere
at2 : (f : ℕ → ℕ) (a x b y d : ℕ) → (d ≡ a → ⊥) → (d ≡ b → ⊥) → at (at f a x) b y d ≡ f d
at2 f a x b y d h k = at_other (at f a x) b y d k ∙ at_other f a x d h

-- a function changed, seen under another
at_under : (f : ℕ → ℕ) (a x b y : ℕ) → (a ≡ b → ⊥) → at (at f a x) b y a ≡ x
at_under f a x b y h = at_other (at f a x) b y a h ∙ at_same f a x

-- a fact of a node, by its link
at_link : (P : ℕ → Type 0) (m k : ℕ) → suc m ≡ suc k → P m → P k
at_link P m k e h = let q : m ≡ k = omega arith in subst P q h

-- a card that has just joined behind another waits
spin_shut : (g : ℕ → ℕ) (n : ℕ) → g (spin n) ≡ 1 → eqb (g (spin n)) 0 ≡ false
spin_shut g n e = ne_eqb (g (spin n)) 0 (λ z. omega arith)

-- joins
module _ (f : ℕ → ℕ) (V : ℕ → View) (l : List ℕ) (I : Line f V l) (c n : ℕ) where
  -- a writer behind nobody is in
  pub join_w_first : V c ≡ comes_w n → f 0 ≡ 0 → Line (at f 0 (suc n)) (at V c (holds_w n)) (l ++ (c ∷ []))
  join_w_first is e = let K = subst (Cells f) is (I.cells c) in
      join_line f (at f 0 (suc n)) V l I c n (comes_w n) (holds_w n) is (record {
        outside = refl;
        has = refl;
        handless = refl;
        names_nobody = K.2;
        in_line = refl;
        keeps = refl;
        aimless = refl;
        still_handless = refl;
        stands = at_other f 0 (suc n) (state n) (omega arith) ∙ K.0;
        tail = at_same f 0 (suc n);
        linked = λ m z. absurd (omega arith);
        backed = λ r. clash false r refl;
        kept = λ a h _ _. at_other f 0 (suc n) a h;
        first_in = λ _. refl;
        writer_in = λ _ _. e;
        reader_in = λ r. clash false r refl;
        reader_waits = λ r. clash false r refl;
      })

  -- a writer behind the node m waits
  pub join_w_next : (m : ℕ) → V c ≡ comes_w n → f 0 ≡ suc m
      → Line (at (at f 0 (suc n)) (next m) (suc n)) (at V c (waits_w n)) (l ++ (c ∷ []))
  join_w_next m is e =
      let K = subst (Cells f) is (I.cells c) in
      let g : ℕ → ℕ = at (at f 0 (suc n)) (next m) (suc n) in
      let old : (d : ℕ) → (d ≡ 0 → ⊥) → (d ≡ next m → ⊥) → g d ≡ f d = at2 f 0 (suc n) (next m) (suc n) in
      let shut : granted g (waits_w n) ≡ false = spin_shut g n (old (spin n) (omega arith) (omega arith) ∙ K.1) in
      join_line f g V l I c n (comes_w n) (waits_w n) is (record {
        outside = refl;
        has = refl;
        handless = refl;
        names_nobody = K.2;
        in_line = refl;
        keeps = refl;
        aimless = refl;
        still_handless = refl;
        stands = old (state n) (omega arith) (omega arith) ∙ K.0;
        tail = at_under f 0 (suc n) (next m) (suc n) (omega arith);
        linked = λ k z. at_link (λ (x : ℕ). g (next x) ≡ suc n) m k (sym e ∙ z)
            (at_same (at f 0 (suc n)) (next m) (suc n));
        backed = λ r. clash false r refl;
        kept = λ a h _ k. old a h (k m e);
        first_in = λ z. absurd (omega arith);
        writer_in = λ _ k. clash (granted g (waits_w n)) k shut;
        reader_in = λ r. clash false r refl;
        reader_waits = λ r. clash false r refl;
      })

  -- a reader behind nobody has its turn
  pub join_r_first : V c ≡ comes_r n → f 0 ≡ 0 → Line (at f 0 (suc n)) (at V c (turn_r n)) (l ++ (c ∷ []))
  join_r_first is e = let K = subst (Cells f) is (I.cells c) in
      join_line f (at f 0 (suc n)) V l I c n (comes_r n) (turn_r n) is (record {
        outside = refl;
        has = refl;
        handless = refl;
        names_nobody = K.2;
        in_line = refl;
        keeps = refl;
        aimless = refl;
        still_handless = refl;
        stands = at_other f 0 (suc n) (state n) (omega arith) ∙ K.0;
        tail = at_same f 0 (suc n);
        linked = λ m z. absurd (omega arith);
        backed = λ r. at_other f 0 (suc n) (prev n) (omega arith) ∙ K.3 ∙ sym e;
        kept = λ a h _ _. at_other f 0 (suc n) a h;
        first_in = λ _. refl;
        writer_in = λ r. clash true refl r;
        reader_in = λ _ _. inl e;
        reader_waits = λ _ k. clash true refl k;
      })

  -- the three writes of a reader behind the node m
  unfoldable pub joined_r : ℕ → ℕ → ℕ
  joined_r m = at (at (at f 0 (suc n)) (prev n) (suc m)) (next m) (suc n)

  at3 : (m d : ℕ) → (d ≡ 0 → ⊥) → (d ≡ prev n → ⊥) → (d ≡ next m → ⊥) → joined_r m d ≡ f d
  unfolding joined_r
  at3 m d h i j = at_other (at (at f 0 (suc n)) (prev n) (suc m)) (next m) (suc n) d j
      ∙ at2 f 0 (suc n) (prev n) (suc m) d h i

  -- the cells of the node that it came with
  own_state : (m : ℕ) → V c ≡ comes_r n → joined_r m (state n) ≡ 1
  own_state m is = at3 m (state n) (omega arith) (omega arith) (omega arith) ∙ (subst (Cells f) is (I.cells c)).0

  own_spin : (m : ℕ) → V c ≡ comes_r n → joined_r m (spin n) ≡ 1
  own_spin m is = at3 m (spin n) (omega arith) (omega arith) (omega arith) ∙ (subst (Cells f) is (I.cells c)).1

  -- a reader behind the node m goes on as u, and is let in just where m's reader is active
  join_r_with : (m : ℕ) (u : View) → V c ≡ comes_r n → f 0 ≡ suc m → joined u ≡ true → link u ≡ suc n → target u ≡ 0
      → hand u ≡ 0 → reader u ≡ true → Cells (joined_r m) u → (granted (joined_r m) u ≡ true → f (state m) ≡ 3)
      → (granted (joined_r m) u ≡ false → f (state m) ≡ 3 → ⊥) → Line (joined_r m) (at V c u) (l ++ (c ∷ []))
  unfolding joined_r
  join_r_with m u is e ju lu tu hu ru k let_in waits = let K = subst (Cells f) is (I.cells c) in
      join_line f (joined_r m) V l I c n (comes_r n) u is (record {
        outside = refl;
        has = refl;
        handless = refl;
        names_nobody = K.2;
        in_line = ju;
        keeps = lu;
        aimless = tu;
        still_handless = hu;
        stands = k;
        tail = at_other (at (at f 0 (suc n)) (prev n) (suc m)) (next m) (suc n) 0 (omega arith)
            ∙ at_under f 0 (suc n) (prev n) (suc m) (omega arith);
        linked = λ k z. at_link (λ (x : ℕ). joined_r m (next x) ≡ suc n) m k (sym e ∙ z)
            (at_same (at (at f 0 (suc n)) (prev n) (suc m)) (next m) (suc n));
        backed = λ _. at_under (at f 0 (suc n)) (prev n) (suc m) (next m) (suc n) (omega arith) ∙ sym e;
        kept = λ a h i j. at3 m a h i (j m e);
        first_in = λ z. absurd (omega arith);
        writer_in = λ r. clash (reader u) ru r;
        reader_in = λ _ t. inr (λ k z. at_link (λ (x : ℕ). f (state x) ≡ 3) m k (sym e ∙ z) (let_in t));
        reader_waits = λ _ t k z w. waits t (at_link (λ (x : ℕ). f (state x) ≡ 3) k m (sym z ∙ e) w);
      })

  pub join_r_turn : (m : ℕ) → V c ≡ comes_r n → f 0 ≡ suc m → f (state m) ≡ 3
      → Line (joined_r m) (at V c (turn_r n)) (l ++ (c ∷ []))
  join_r_turn m is e s = join_r_with m (turn_r n) is e refl refl refl refl refl (own_state m is)
      (λ _. s) (λ t. clash true refl t)

  pub join_r_wait : (m : ℕ) → V c ≡ comes_r n → f 0 ≡ suc m → (f (state m) ≡ 3 → ⊥)
      → Line (joined_r m) (at V c (waits_r n)) (l ++ (c ∷ []))
  join_r_wait m is e s = join_r_with m (waits_r n) is e refl refl refl refl refl (own_state m is)
      (λ t. clash (granted (joined_r m) (waits_r n)) t (spin_shut (joined_r m) n (own_spin m is))) (λ _. s)

-- who may leave: a card seen as v, in line with the node n, let in, an active reader or a writer
record Leaver (f : ℕ → ℕ) (v : View) (n : ℕ) : Type 0 where
  in_line : joined v ≡ true
  let_in : granted f v ≡ true
  aimless : target v ≡ 0
  has : link v ≡ suc n
  handless : hand v ≡ 0
  kind : (active v ≡ true) ⊎ (reader v ≡ false)

-- a writer taken out of the line
writer_leaves : (f : ℕ → ℕ) (n : ℕ) → Leaver f (holds_w n) n
writer_leaves f n = record
    { in_line = refl; let_in = refl; aimless = refl; has = refl; handless = refl; kind = inr refl }

-- a reader taken out of the line
reader_leaves : (f : ℕ → ℕ) (n : ℕ) → Leaver f (active_r n) n
reader_leaves f n = record
    { in_line = refl; let_in = refl; aimless = refl; has = refl; handless = refl; kind = inl refl }

-- leaves, by the links b ahead and q behind: alone, first, last, and between two
module _ (f : ℕ → ℕ) (V : ℕ → View) (l : List ℕ) (I : Line f V l) (c n b : ℕ) (v : View) (is : V c ≡ v)
    (K : Leaver f v n) (ahd : (p : ℕ) → Spot f (who V p) v → link (who V p) ≡ b) where
  next_of : (d : ℕ) → Spot f v (V d) → f (next n) ≡ suc (node (V d))
  next_of d P = let j = joined_link (V d) P.in_line in let h = K.has in
      ⊎_elim (λ z. absurd (omega arith))
      (λ e. ap (λ (x : ℕ). f (next x)) (sym (link_node v n K.has)) ∙ e ∙ j) P.from

  leave_only : b ≡ 0 → f (next n) ≡ 0 → Line (at f 0 0) (at V c away) (without c l)
  leave_only eb eq = leave_line f (at f 0 0) V l I c n b 0 v away is (record {
    in_line = K.in_line;
    let_in = K.let_in;
    aimless = K.aimless;
    has = K.has;
    handless = K.handless;
    kind = K.kind;
    names = eq;
    outside = refl;
    keeps = inr refl;
    stands = tt;
    tail = λ _. at_same f 0 0 ∙ sym eb;
    backed = λ k z. absurd (omega arith);
    linked = λ m z. absurd (omega arith);
    kept = λ a h _ _. at_other f 0 0 a (h refl);
  })
      ahd (inl (refl, λ _ d P. let z = next_of d P in absurd (omega arith)))

  leave_first : (k : ℕ) (u : View) → b ≡ 0 → f (next n) ≡ suc k → joined u ≡ false
      → (link u ≡ link v) ⊎ (link u ≡ 0) → Cells (at f (prev k) 0) u
      → ((hand u ≡ 0) × ((d : ℕ) → Spot f v (V d) → granted f (V d) ≡ true))
      ⊎ ((hand u ≡ suc k) × ((d : ℕ) → Spot f v (V d) → granted f (V d) ≡ false))
      → Line (at f (prev k) 0) (at V c u) (without c l)
  leave_first k u eb eq ju lu st af = leave_line f (at f (prev k) 0) V l I c n b (suc k) v u is (record {
    in_line = K.in_line;
    let_in = K.let_in;
    aimless = K.aimless;
    has = K.has;
    handless = K.handless;
    kind = K.kind;
    names = eq;
    outside = ju;
    keeps = lu;
    stands = st;
    tail = λ z. absurd (omega arith);
    backed = λ j z. at_link (λ (x : ℕ). at f (prev k) 0 (prev x) ≡ b) k j z (at_same f (prev k) 0 ∙ sym eb);
    linked = λ m z. absurd (omega arith);
    kept = λ a _ h _. at_other f (prev k) 0 a (h k refl);
  })
      ahd (⊎_elim (λ A. inl (A.0, λ _. A.1)) (λ B. inr (B.0, eb, omega arith, B.1)) af)

  leave_last : (m : ℕ) → b ≡ suc m → f (next n) ≡ 0
      → Line (at (at f (next m) 0) 0 (suc m)) (at V c away) (without c l)
  leave_last m eb eq = let g : ℕ → ℕ = at (at f (next m) 0) 0 (suc m) in
      leave_line f g V l I c n b 0 v away is (record {
        in_line = K.in_line;
        let_in = K.let_in;
        aimless = K.aimless;
        has = K.has;
        handless = K.handless;
        kind = K.kind;
        names = eq;
        outside = refl;
        keeps = inr refl;
        stands = tt;
        tail = λ _. at_same (at f (next m) 0) 0 (suc m) ∙ sym eb;
        backed = λ k z. absurd (omega arith);
        linked = λ j z. at_link (λ (x : ℕ). g (next x) ≡ 0) m j (sym eb ∙ z)
            (at_under f (next m) 0 0 (suc m) (omega arith));
        kept = λ a h _ k. at2 f (next m) 0 0 (suc m) a (k m eb) (h refl);
      })
      ahd (inl (refl, λ z. absurd (omega arith)))

  leave_mid : (m k : ℕ) → b ≡ suc m → f (next n) ≡ suc k
      → Line (at (at f (next m) (suc k)) (prev k) (suc m)) (at V c away) (without c l)
  leave_mid m k eb eq = let g : ℕ → ℕ = at (at f (next m) (suc k)) (prev k) (suc m) in
      leave_line f g V l I c n b (suc k) v away is (record {
        in_line = K.in_line;
        let_in = K.let_in;
        aimless = K.aimless;
        has = K.has;
        handless = K.handless;
        kind = K.kind;
        names = eq;
        outside = refl;
        keeps = inr refl;
        stands = tt;
        tail = λ z. absurd (omega arith);
        backed = λ j z. at_link (λ (x : ℕ). g (prev x) ≡ b) k j z
            (at_same (at f (next m) (suc k)) (prev k) (suc m) ∙ sym eb);
        linked = λ j z. at_link (λ (x : ℕ). g (next x) ≡ suc k) m j (sym eb ∙ z)
            (at_under f (next m) (suc k) (prev k) (suc m) (omega arith));
        kept = λ a _ h j. at2 f (next m) (suc k) (prev k) (suc m) a (j m eb) (h k refl);
      })
      ahd (inl (refl, λ z. absurd (omega arith)))

-- a writer leaves: it is first
module _ (f : ℕ → ℕ) (V : ℕ → View) (l : List ℕ) (I : Line f V l) (c n : ℕ) (is : V c ≡ holds_w n) where
  pub out_w_only : f (next n) ≡ 0 → Line (at f 0 0) (at V c away) (without c l)
  out_w_only e =
      leave_only f V l I c n 0 (holds_w n) is (writer_leaves f n) (λ p P. P.turnw refl refl) refl e

  pub out_w_first : (k : ℕ) → f (next n) ≡ suc k → Line (at f (prev k) 0) (at V c (hands n (suc k))) (without c l)
  out_w_first k e =
      leave_first f V l I c n 0 (holds_w n) is (writer_leaves f n) (λ p P. P.turnw refl refl) k (hands n (suc k))
      refl e refl (inl refl) tt (inr (refl, λ d P. blocked f (holds_w n) (V d) P refl (λ z. omega arith)))

-- a reader leaves, whose prev was read as b
module _ (f : ℕ → ℕ) (V : ℕ → View) (l : List ℕ) (I : Line f V l) (c n : ℕ) (is : V c ≡ active_r n)
    (b : ℕ) (pb : f (prev n) ≡ b) where
  ahead_of : (p : ℕ) → Spot f (who V p) (active_r n) → link (who V p) ≡ b
  ahead_of p P = sym (P.ahead refl) ∙ pb

  pub out_r_only : b ≡ 0 → f (next n) ≡ 0 → Line (at f 0 0) (at V c away) (without c l)
  out_r_only = leave_only f V l I c n b (active_r n) is (reader_leaves f n) ahead_of

  pub out_r_last : (m : ℕ) → b ≡ suc m → f (next n) ≡ 0
      → Line (at (at f (next m) 0) 0 (suc m)) (at V c away) (without c l)
  out_r_last = leave_last f V l I c n b (active_r n) is (reader_leaves f n) ahead_of

  pub out_r_mid : (m k : ℕ) → b ≡ suc m → f (next n) ≡ suc k
      → Line (at (at f (next m) (suc k)) (prev k) (suc m)) (at V c away) (without c l)
  out_r_mid = leave_mid f V l I c n b (active_r n) is (reader_leaves f n) ahead_of

  -- the one behind: a reader there may be in, and its node is the one that next names
  behind_in : (d : ℕ) → Spot f (active_r n) (V d) → reader (V d) ≡ true → granted f (V d) ≡ true
  behind_in d P r = go (granted f (V d)) refl (joined_link (V d) P.in_line)
    where
      go : (x : Bool) → granted f (V d) ≡ x → link (V d) ≡ suc (node (V d)) → granted f (V d) ≡ true
      go true h j = h
      go false h j = let w = P.owed refl r h in absurd (omega arith)

  behind_state : (k : ℕ) → f (next n) ≡ suc k → (d : ℕ) → Spot f (active_r n) (V d)
      → f (state (node (V d))) ≡ f (state k)
  behind_state k e d P =
      let z = ⊎_elim (λ z. absurd (omega arith)) (λ h. sym h ∙ e) P.from in
      ap (λ (x : ℕ). f (state x)) (link_node (V d) k z)

  -- behind the first stands a writer: it will be woken
  pub out_r_hands : (k : ℕ) → b ≡ 0 → f (next n) ≡ suc k → f (state k) ≡ 2
      → Line (at f (prev k) 0) (at V c (hands n (suc k))) (without c l)
  out_r_hands k eb e s =
      leave_first f V l I c n b (active_r n) is (reader_leaves f n) ahead_of k (hands n (suc k))
      eb e refl (inl refl) tt (inr (refl, λ d P. shut d P (reader (V d)) refl (granted f (V d)) refl))
    where
      shut : (d : ℕ) → Spot f (active_r n) (V d) → (r : Bool) → reader (V d) ≡ r → (x : Bool) → granted f (V d) ≡ x
          → granted f (V d) ≡ false
      shut d P r h false q = q
      shut d P false h true q = let z = P.turnw h q in absurd (omega arith)
      shut d P true h true q =
          absurd (reader_state f (V d) h P.in_line (I.cells d) (behind_state k e d P ∙ s))

  -- behind the first stands a reader: it may be in
  pub out_r_idle : (k : ℕ) → b ≡ 0 → f (next n) ≡ suc k → (f (state k) ≡ 2 → ⊥)
      → Line (at f (prev k) 0) (at V c away) (without c l)
  out_r_idle k eb e s =
      leave_first f V l I c n b (active_r n) is (reader_leaves f n) ahead_of k away
      eb e refl (inr refl) tt (inl (refl, λ d P. behind_in d P (is_reader d P (reader (V d)) refl)))
    where
      is_reader : (d : ℕ) → Spot f (active_r n) (V d) → (r : Bool) → reader (V d) ≡ r → reader (V d) ≡ true
      is_reader d P true h = h
      is_reader d P false h =
          absurd (s (sym (behind_state k e d P) ∙ writer_state f (V d) h P.in_line (I.cells d)))
