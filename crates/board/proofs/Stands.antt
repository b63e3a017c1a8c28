-- The line in the cells, and who is inside: from what every run keeps.
use Rattle.std.proofs.Common.{◌≡◌, ℕ, suc, true, false, ◌⊎◌, List, [], ◌∷◌, ◌++◌, sym, refl, ap, ◌∙◌, subst, inl, inr}
use Rattle.std.proofs.Common.{⊎_elim, append_assoc, arith}
use Rattle.memory.specs.Meaning.{standing}
use Rattle.stages.specs.declared.stage.Mode.{Mode}
use Rattle.stages.specs.declared.stage.Mode.TheVariants.{Read, Write}
use Rattle.stages.specs.declared.stage.Addition.{Addition}
use Rattle.stages.specs.declared.stage.Addition.TheVariants.{A1, A2}
use Rattle.stages.specs.declared.stage.Stage.{Stage}
use Rattle.stages.specs.declared.stage.Stage.TheVariants.{Adds}
use Rattle.lock.specs.Lock.{Size, stage_of}
use Rattle.board.specs.Book.{Book, Place}
use Rattle.board.specs.Promise as promise
use Rattle.board.specs.Promise.{cells_of, LineStands, InsideStands}
use Rattle.board.proofs.Cells.{clash, next, prev, state}
use Rattle.board.proofs.Views.{link_node, View, away, comes_w, comes_r, waits_w, waits_r, holds_w, turn_r, active_r}
use Rattle.board.proofs.Views.{sees_r}
use Rattle.board.proofs.Views.{wakes_r}
use Rattle.board.proofs.Views.{hands}
use Rattle.board.proofs.Views.{view, node, link, joined, reader, active, granted}
use Rattle.board.proofs.Chain.{Spot, End, Chain, In, Once, chain_pred}
use Rattle.board.proofs.Inv.{cards_of, reads_mode, Seated, Inv}
use Rattle.board.proofs.Moves.{joined_link}
use Rattle.board.proofs.Join.{active_state}

-- Of one view.

-- an active reader is a reader, and it is let in
pub active_is : (f : ℕ → ℕ) (v : View) → active v ≡ true → (reader v ≡ true) × (granted f v ≡ true)
active_is f away a = clash false a refl
active_is f (comes_w n) a = clash false a refl
active_is f (comes_r n) a = clash false a refl
active_is f (waits_w n) a = clash false a refl
active_is f (waits_r n) a = clash false a refl
active_is f (holds_w n) a = clash false a refl
active_is f (turn_r n) a = clash false a refl
active_is f (active_r n) a = (refl, refl)
active_is f (sees_r n q) a = (refl, refl)
active_is f (wakes_r n q) a = (refl, refl)
active_is f (hands n q) a = clash false a refl

-- Of a list of places, and of the chain of their cards.

-- the place of a card on a node
abbrev pub place : ℕ → ℕ → Mode → Place
place c n m = record { card = c; node = n; mode = m }

-- the card of a place is among the cards
pub in_mid : (x : List Place) (p : Place) (y : List Place) → In p.card (cards_of (x ++ p ∷ y))
in_mid [] p y = inl refl
in_mid (a ∷ x) p y = inr (in_mid x p y)

-- the chain from a place on
pub chain_from : (f : ℕ → ℕ) (V : ℕ → View) (x : List Place) (p : Place) (y : List Place) (k : ℕ)
    → Chain f V k (cards_of (x ++ p ∷ y)) → (joined (V p.card) ≡ true) × Chain f V (suc p.card) (cards_of y)
chain_from f V [] p y k h = (h.0.in_line, h.1)
chain_from f V (a ∷ x) p y k h = chain_from f V x p y (suc a.card) h.1

-- a place is first, or stands behind a card in line
pub first_or_behind : (f : ℕ → ℕ) (V : ℕ → View) (x : List Place) (p : Place) (y : List Place)
    → Chain f V 0 (cards_of (x ++ p ∷ y))
    → ((x ≡ []) × Spot f away (V p.card))
    ⊎ ((a : ℕ) × (joined (V a) ≡ true) × Spot f (V a) (V p.card))
first_or_behind f V [] p y h = inl (refl, h.0)
first_or_behind f V (a ∷ x) p y h =
    inr (chain_pred f V (cards_of (x ++ p ∷ y)) a.card h.0.in_line h.1 p.card (in_mid x p y))

-- the node and the mode of a place are those of its card
pub seat_in : (S : ℕ → Stage) (x : List Place) (p : Place) (y : List Place) → Seated S (x ++ p ∷ y)
    → (link (view (S p.card)) ≡ suc p.node) × (reader (view (S p.card)) ≡ reads_mode p.mode)
seat_in S [] p y h = (h.0, h.1)
seat_in S (a ∷ x) p y h = seat_in S x p y h.2

-- no card comes again behind a place
pub once_in : (x : List Place) (p : Place) (y : List Place) → Once (cards_of (x ++ p ∷ y))
    → In p.card (cards_of y) → ⊥
once_in [] p y h = h.0
once_in (a ∷ x) p y h = once_in x p y h.1

-- ahead of a reader that is let in stand active readers
pub ahead_active : (f : ℕ → ℕ) (V : ℕ → View) (l : List ℕ) (a : ℕ) → joined (V a) ≡ true → Chain f V (suc a) l
    → (d : ℕ) → In d l → reader (V d) ≡ true → granted f (V d) ≡ true → active (V a) ≡ true
ahead_active f V [] a o h d i r g = absurd i
ahead_active f V (e ∷ l) a o h d (inl q) r g =
    let j = joined_link (V a) o in
    ⊎_elim (λ z. absurd (omega arith)) (λ z. z)
    (h.0.turnr (ap (λ (x : ℕ). reader (V x)) (sym q) ∙ r) (ap (λ (x : ℕ). granted f (V x)) (sym q) ∙ g))
ahead_active f V (e ∷ l) a o h d (inr i) r g =
    let A = active_is f (V e) (ahead_active f V l e h.0.in_line h.1 d i r g) in
    let j = joined_link (V a) o in
    ⊎_elim (λ z. absurd (omega arith)) (λ z. z) (h.0.turnr A.0 A.1)

-- a mode is known by whether it reads
same_mode : (m n : Mode) → reads_mode m ≡ reads_mode n → m ≡ n
same_mode Read Read e = refl
same_mode Read Write e = clash true refl e
same_mode Write Read e = clash true refl (sym e)
same_mode Write Write e = refl

-- the place of a card in line
pub place_of : (S : ℕ → Stage) (l : List Place) (c n : ℕ) (m : Mode) → Seated S l → In c (cards_of l)
    → link (view (S c)) ≡ suc n → reader (view (S c)) ≡ reads_mode m
    → promise.In l (place c n m)
place_of S [] c n m s i k r = absurd i
place_of S (p ∷ l) c n m s (inl e) k r = ([], l, ap (λ (q : Place). q ∷ l) here)
  where
    same_node : p.node ≡ n
    same_node =
        let a = s.0 in
        let b : link (view (S p.card)) ≡ suc n = ap (λ (x : ℕ). link (view (S x))) (sym e) ∙ k in omega arith

    mode_is : p.mode ≡ m
    mode_is = same_mode p.mode m (sym s.1 ∙ ap (λ (x : ℕ). reader (view (S x))) (sym e) ∙ r)

    here : p ≡ place c n m
    here = λ i. record { card = sym e i; node = same_node i; mode = mode_is i }
place_of S (p ∷ l) c n m s (inr i) k r =
    let w = place_of S l c n m s.2 i k r in (p ∷ w.0, w.1, ap (λ (q : List Place). p ∷ q) w.2)

-- The promise of a book that keeps the invariant.

-- a card in the middle of an add holds the lock as a writer does
adds_view : (n : ℕ) (a : Addition) → view (Adds n a) ≡ holds_w n
adds_view n (A1 k x) = refl
adds_view n (A2 k x v) = refl

module _ (z : Size) (b : Book) (I : Inv z b) where
  -- the standing values, the stages, and the cards as the line sees them
  abbrev F : ℕ → ℕ
  F = standing b.board.lock.meaning

  abbrev S : ℕ → Stage
  S = stage_of b.board.lock

  abbrev V : ℕ → View
  V d = view (S d)

  -- a place has the node and the mode of its card
  abbrev SeatOf : Place → Type 0
  SeatOf p = (link (V p.card) ≡ suc p.node) × (reader (V p.card) ≡ reads_mode p.mode)

  -- the chain of a line that is split
  chain_is : (l : List Place) → b.line ≡ l → Chain F V 0 (cards_of l)
  chain_is l e = subst (λ (l : List Place). Chain F V 0 (cards_of l)) e I.kept.line.chain

  -- its seats
  seated_is : (l : List Place) → b.line ≡ l → Seated S l
  seated_is l e = subst (Seated S) e I.seated

  -- its cards, each once
  once_is : (l : List Place) → b.line ≡ l → Once (cards_of l)
  once_is l e = subst (λ (l : List Place). Once (cards_of l)) e I.kept.line.once

  -- so has every place in line
  seat : (x : List Place) (p : Place) (y : List Place) → b.line ≡ x ++ p ∷ y → SeatOf p
  seat x p y e = seat_in S x p y (seated_is (x ++ p ∷ y) e)

  -- the facts of two that stand one right behind the other
  spot : (p q : Place) → promise.RightAhead b.line p q → Spot F (V p.card) (V q.card)
  spot p q w = (chain_from F V w.0 p (q ∷ w.1) 0 (chain_is (w.0 ++ p ∷ q ∷ w.1) w.2)).1.0

  -- their seats
  seat_front : (p q : Place) → promise.RightAhead b.line p q → SeatOf p
  seat_front p q w = seat w.0 p (q ∷ w.1) w.2

  seat_back : (p q : Place) → promise.RightAhead b.line p q → SeatOf q
  seat_back p q w = seat (w.0 ++ p ∷ []) q w.1 (w.2 ∙ sym (append_assoc w.0 (p ∷ []) (q ∷ w.1)))

  -- two that stand one ahead of the other, with the list between them and behind
  ahead_is : (p q : Place) (w : promise.Ahead b.line p q) → b.line ≡ w.0 ++ p ∷ (w.1 ++ q ∷ w.2)
  ahead_is p q w = w.3 ∙ append_assoc w.0 (p ∷ w.1) (q ∷ w.2)

  -- the facts of the last
  end_of : (p : Place) → promise.Last b.line p → End F (V p.card)
  end_of p w = (chain_from F V w.0 p [] 0 (chain_is (w.0 ++ p ∷ []) w.1)).1

  -- a cell of a card's node, by the place's node
  cell_at : (c n m : ℕ) (g : ℕ → ℕ) → link (V c) ≡ suc n → F (g (node (V c))) ≡ m → F (g n) ≡ m
  cell_at c n m g e h = ap (λ (x : ℕ). F (g x)) (sym (link_node (V c) n e)) ∙ h

  -- the line stands in the cells
  pub line_stands : LineStands (cells_of b) b.line
  line_stands = record {
    linked = λ p q w.
        let s = seat_front p q w in let t = seat_back p q w in
        ⊎_elim (λ z. absurd (omega arith)) (λ e. cell_at p.card p.node (suc q.node) next s.0 (e ∙ t.0))
        (spot p q w).from;
    ended = λ p w.
        let s = seat w.0 p [] w.1 in
        ⊎_elim (λ z. absurd (omega arith)) (λ e. cell_at p.card p.node 0 next s.0 e) (end_of p w).last;
    tailed = λ p w. (end_of p w).tail ∙ (seat w.0 p [] w.1).0;
    emptied = λ e. (chain_is [] e).tail;
    backed = λ p q w r.
        let s = seat_front p q w in let t = seat_back p q w in
        cell_at q.card q.node (suc p.node) prev t.0 ((spot p q w).ahead (t.1 ∙ ap reads_mode r) ∙ s.0);
    headed = λ p w r.
        let s = seat [] p w.0 w.1 in
        cell_at p.card p.node 0 prev s.0 ((chain_is (p ∷ w.0) w.1).0.ahead (s.1 ∙ ap reads_mode r));
    once = λ p q w e. once p q w e;
    apart = λ p q w e.
        let s = seat w.0 p (w.1 ++ q ∷ w.2) (ahead_is p q w) in let t = seat (w.0 ++ p ∷ w.1) q w.2 w.3 in
        ⊎_elim (λ h. once p q w h) (λ h. absurd (omega arith))
        (I.kept.line.nodes p.card q.card (s.0 ∙ ap suc e ∙ sym t.0));
  }
    where
      once : (p q : Place) → promise.Ahead b.line p q → p.card ≡ q.card → ⊥
      once p q w e = once_in w.0 p (w.1 ++ q ∷ w.2) (once_is (w.0 ++ p ∷ (w.1 ++ q ∷ w.2)) (ahead_is p q w))
          (subst (λ (x : ℕ). In x (cards_of (w.1 ++ q ∷ w.2))) (sym e) (in_mid w.1 q w.2))

  -- the place of a card that is in line
  pub in_place : (c n : ℕ) (m : Mode) → joined (V c) ≡ true → link (V c) ≡ suc n → reader (V c) ≡ reads_mode m
      → promise.In b.line (place c n m)
  in_place c n m j k r = place_of S b.line c n m I.seated (I.kept.line.members c j) k r

  -- a card inside to write holds the lock
  inside_view : (c n : ℕ) → promise.WritesInside b c n → V c ≡ holds_w n
  inside_view c n (inl e) = ap view e
  inside_view c n (inr w) = ap view w.1 ∙ adds_view n w.0

  -- a writer that is let in is first
  pub holder_first : (c n : ℕ) → V c ≡ holds_w n → promise.First b.line (place c n Write)
  holder_first c n v = go (in_place c n Write (ap joined v) (ap link v) (ap reader v))
    where
      go : promise.In b.line (place c n Write)
          → promise.First b.line (place c n Write)
      go w = ⊎_elim
          (λ h. (w.1, w.2 ∙ ap (λ (x : List Place). x ++ place c n Write ∷ w.1) h.0))
          (λ h. let j = joined_link (V h.0) h.1 in
          let o : link (V h.0) ≡ 0 = h.2.turnw (ap reader v) (ap (granted F) v) in absurd (omega arith))
          (first_or_behind F V w.0 (place c n Write) w.1
          (chain_is (w.0 ++ place c n Write ∷ w.1) w.2))

  -- no card behind a writer that is let in is an active reader
  none_behind : (c n d k : ℕ) → V c ≡ holds_w n → V d ≡ active_r k → d ≡ c
  none_behind c n d k v u = let w = holder_first c n v in
      go w.0 (chain_is (place c n Write ∷ w.0) w.1)
      (subst (λ (l : List Place). In d (cards_of l)) w.1 (I.kept.line.members d (ap joined u)))
    where
      go : (y : List Place) → Chain F V 0 (c ∷ cards_of y) → In d (c ∷ cards_of y) → d ≡ c
      go y h (inl e) = e
      go y h (inr i) = clash (active (V c))
          (ahead_active F V (cards_of y) c h.0.in_line h.1 d i (ap reader u) (ap (granted F) u)) (ap active v)

  -- one line has one first card
  heads : (c d n k : ℕ) {x y : List Place} → b.line ≡ place c n Write ∷ x
      → b.line ≡ place d k Write ∷ y → d ≡ c
  heads c d n k p q = let u = ap cards_of p in let v = ap cards_of q in cc

  -- who is inside
  pub inside_stands : InsideStands (cells_of b) b
  inside_stands = record {
    first = λ c n w. holder_first c n (inside_view c n w);
    alone = λ c d n k w o. alone c d n k (inside_view c n w) o;
    reading = λ c n e. let v : V c ≡ active_r n = ap view e in
        in_place c n Read (ap joined v) (ap link v) (ap reader v);
    behind_active = λ c n e a w. let v : V c ≡ active_r n = ap view e in
        let h = chain_from F V w.0 a (w.1 ++ place c n Read ∷ w.2) 0
        (chain_is (w.0 ++ a ∷ (w.1 ++ place c n Read ∷ w.2)) (ahead_is a _ w)) in
        let s = seat w.0 a (w.1 ++ place c n Read ∷ w.2) (ahead_is a _ w) in
        cell_at a.card a.node 3 state s.0
        ((active_state F (V a.card) h.0 (I.kept.line.cells a.card)).0
        (ahead_active F V (cards_of (w.1 ++ place c n Read ∷ w.2)) a.card
        h.0 h.1 c (in_mid w.1 (place c n Read) w.2) (ap reader v) (ap (granted F) v)));
    active_reads = λ a w h.
        let s = seat w.0 a w.1 w.2 in
        let j = (chain_from F V w.0 a w.1 0 (chain_is (w.0 ++ a ∷ w.1) w.2)).0 in
        let o = (active_state F (V a.card) j (I.kept.line.cells a.card)).1
        (ap (λ (x : ℕ). F (state x)) (link_node (V a.card) a.node s.0) ∙ h) in
        same_mode a.mode Read (sym s.1 ∙ (active_is F (V a.card) o).0);
  }
    where
      alone : (c d n k : ℕ) → V c ≡ holds_w n → promise.WritesInside b d k ⊎ promise.ReadsInside b d k → d ≡ c
      alone c d n k v (inl w) =
          heads c d n k (holder_first c n v).1 (holder_first d k (inside_view d k w)).1
      alone c d n k v (inr e) = none_behind c n d k v (ap view e)
