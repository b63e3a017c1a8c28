-- The tablet's line call: what it finds in the cells and the cards' stages is the book's line.
use Rattle.std.proofs.Common.{◌≡◌, ℕ, zero, suc, ◌<◌, ◌≤◌, Bool, true, false, cond, eqb, ◌⊎◌, List, [], ◌∷◌, map}
use Rattle.std.proofs.Common.{length, get_or, Ok, Err, sym, refl, ap, ◌∙◌, subst, inl, inr, ⊎_elim, arith}
use Rattle.std.proofs.lemmas.Bool.{cases_lt, lt-ltb, eq-eqb, ne_eqb}
use Rattle.memory.specs.declared.fault.Refusal.TheVariants.{OutOfRange}
use Rattle.memory.specs.Meaning.{Meaning, standing}
use Rattle.stages.specs.declared.stage.Mode.TheVariants.{Read, Write}
use Rattle.stages.specs.declared.stage.WriterEntry.TheVariants.{W1, W2, W3, W4, W5, W6}
use Rattle.stages.specs.declared.stage.ReaderEntry.TheVariants.{R1, R2, R3, R4, R5, R6, R7, R8, R9, R10, R11, R12}
use Rattle.stages.specs.declared.stage.ReaderEntry.TheVariants.{R13, R14}
use Rattle.stages.specs.declared.stage.Addition.TheVariants.{A1, A2}
use Rattle.stages.specs.declared.stage.WriterExit.TheVariants.{X1, X2, X3, X4, X5}
use Rattle.stages.specs.declared.stage.ReaderExit.TheVariants.{Y1, Y2, Y3, Y4, Y5, Y6, Y7, Y8}
use Rattle.stages.specs.declared.stage.Stage.{Stage}
use Rattle.stages.specs.declared.stage.Stage.TheVariants.{Idle, WriterEnters, ReaderEnters, Inside, Adds}
use Rattle.stages.specs.declared.stage.Stage.TheVariants.{WriterLeaves, ReaderLeaves}
use Rattle.stages.specs.declared.stage.Card.{Card}
use Rattle.lock.specs.Lock.{Size, idle_card, stage_of}
use Rattle.lock.specs.Lines.{line_link, seen, behind, points, has_ahead, leads, first_link, walk, nodes_in_line}
use Rattle.board.specs.Book.{Book, Place}
use Rattle.board.proofs.Ranges.{Within}
use Rattle.board.proofs.Cells.{clash, next}
use Rattle.board.proofs.Views.{link_node, View, view, node, link, joined}
use Rattle.board.proofs.Chain.{Spot, End, Chain, In, Once, chain_pred, chain_behind, chain_joined}
use Rattle.board.proofs.Inv.{cards_of, Seated, Inv}
use Rattle.board.proofs.Lists.{once_few}
use Rattle.board.proofs.Links.{sound_link}
use Rattle.board.proofs.Moves.{joined_link}

-- Tables of the stages.

-- a stage has its node's link in line just where the line sees it there
line_link_view : (g : Stage) → line_link g ≡ cond (joined (view g)) (link (view g)) 0
line_link_view Idle = refl
line_link_view (WriterEnters n W1) = refl
line_link_view (WriterEnters n W2) = refl
line_link_view (WriterEnters n (W3 p)) = refl
line_link_view (WriterEnters n (W4 p)) = refl
line_link_view (WriterEnters n (W5 p)) = refl
line_link_view (WriterEnters n W6) = refl
line_link_view (ReaderEnters n R1) = refl
line_link_view (ReaderEnters n R2) = refl
line_link_view (ReaderEnters n (R3 p)) = refl
line_link_view (ReaderEnters n (R4 p)) = refl
line_link_view (ReaderEnters n (R5 p)) = refl
line_link_view (ReaderEnters n (R6 p)) = refl
line_link_view (ReaderEnters n (R7 p s)) = refl
line_link_view (ReaderEnters n R8) = refl
line_link_view (ReaderEnters n R9) = refl
line_link_view (ReaderEnters n R10) = refl
line_link_view (ReaderEnters n R11) = refl
line_link_view (ReaderEnters n (R12 t)) = refl
line_link_view (ReaderEnters n (R13 t)) = refl
line_link_view (ReaderEnters n (R14 t)) = refl
line_link_view (Inside n Write) = refl
line_link_view (Inside n Read) = refl
line_link_view (Adds n (A1 k a)) = refl
line_link_view (Adds n (A2 k a v)) = refl
line_link_view (WriterLeaves n X1) = refl
line_link_view (WriterLeaves n X2) = refl
line_link_view (WriterLeaves n (X3 t)) = refl
line_link_view (WriterLeaves n (X4 t)) = refl
line_link_view (WriterLeaves n (X5 t)) = refl
line_link_view (ReaderLeaves n Y1) = refl
line_link_view (ReaderLeaves n Y2) = refl
line_link_view (ReaderLeaves n (Y3 p)) = refl
line_link_view (ReaderLeaves n (Y4 p t)) = refl
line_link_view (ReaderLeaves n (Y5 p t)) = refl
line_link_view (ReaderLeaves n (Y6 p t)) = refl
line_link_view (ReaderLeaves n (Y7 p t s)) = refl
line_link_view (ReaderLeaves n (Y8 t)) = refl

-- The cards that point at a link, and the one that leads.

-- one card points at the link
pub ahead_true : (m : Meaning) (k : ℕ) (cs : List Card) (i : ℕ) → i < length cs
    → points m (get_or cs i idle_card).stage k ≡ true → has_ahead m cs k ≡ true
ahead_true m k [] i lt p = absurd (omega arith)
ahead_true m k (r ∷ rs) zero lt p = ap (λ (b : Bool). cond b true (has_ahead m rs k)) p
ahead_true m k (r ∷ rs) (suc i) lt p = go (points m r.stage k) (ahead_true m k rs i (omega arith) p)
  where
    go : (b : Bool) → has_ahead m rs k ≡ true → cond b true (has_ahead m rs k) ≡ true
    go true h = refl
    go false h = h

-- no card points at it
pub ahead_false : (m : Meaning) (k : ℕ) (cs : List Card)
    → ((i : ℕ) → i < length cs → points m (get_or cs i idle_card).stage k ≡ false) → has_ahead m cs k ≡ false
ahead_false m k [] h = refl
ahead_false m k (r ∷ rs) h =
    ap (λ (b : Bool). cond b true (has_ahead m rs k)) (h 0 (omega arith))
    ∙ ahead_false m k rs (λ i lt. h (suc i) (omega arith))

-- the first link is that of the only card that leads
pub first_is : (m : Meaning) (all : List Card) (k : ℕ) (cs : List Card)
    → ((i : ℕ) → i < length cs → leads m all (get_or cs i idle_card).stage ≡ true
    → line_link (get_or cs i idle_card).stage ≡ k)
    → (i : ℕ) → i < length cs → leads m all (get_or cs i idle_card).stage ≡ true → first_link m all cs ≡ k
first_is m all k [] only i lt l = absurd (omega arith)
first_is m all k (r ∷ rs) only zero lt l =
    ap (λ (b : Bool). cond b (line_link r.stage) (first_link m all rs)) l ∙ only 0 (omega arith) l
first_is m all k (r ∷ rs) only (suc i) lt l =
    go (leads m all r.stage) refl (first_is m all k rs (λ j lt. only (suc j) (omega arith)) i (omega arith) l)
  where
    go : (b : Bool) → leads m all r.stage ≡ b → first_link m all rs ≡ k
        → cond b (line_link r.stage) (first_link m all rs) ≡ k
    go true e h = only 0 (omega arith) e
    go false e h = h

-- nobody leads: no link
pub first_none : (m : Meaning) (all cs : List Card)
    → ((i : ℕ) → i < length cs → leads m all (get_or cs i idle_card).stage ≡ false) → first_link m all cs ≡ 0
first_none m all [] h = refl
first_none m all (r ∷ rs) h =
    ap (λ (b : Bool). cond b (line_link r.stage) (first_link m all rs)) (h 0 (omega arith))
    ∙ first_none m all rs (λ i lt. h (suc i) (omega arith))

-- a walk from nobody
walk_none : (m : Meaning) (f : ℕ) → walk m f 0 ≡ []
unfolding walk
walk_none m zero = refl
walk_none m (suc f) = refl

-- what stands behind a card: the end, or one that is not first
behind_tail : (f : ℕ → ℕ) (V : ℕ → View) (a : ℕ) (l : List ℕ) (p : ℕ) → Chain f V p (a ∷ l) → (c : ℕ) → In c (a ∷ l)
    → End f (V c) ⊎ ((d : ℕ) × In d l × Spot f (V c) (V d))
behind_tail f V a [] p h c (inl e) = inl (rw e h.1)
behind_tail f V a (b ∷ l) p h c (inl e) = inr (b, inl refl, rw e h.1.0)
behind_tail f V a l p h c (inr i) = chain_behind f V l (suc a) h.1 c i

-- The line call on a book that keeps the invariant.

module _ (z : Size) (W : Within z) (b : Book) (I : Inv z b) where
  -- the memory, the records, the standing values, the stages, and the cards as the line sees them
  abbrev M : Meaning
  M = b.board.lock.meaning

  abbrev R : List Card
  R = b.board.lock.cards

  abbrev F : ℕ → ℕ
  F = standing M

  abbrev S : ℕ → Stage
  S = stage_of b.board.lock

  abbrev V : ℕ → View
  V d = view (S d)

  -- a card in line is on the board
  pub joined_there : (c : ℕ) → joined (V c) ≡ true → c < z.cards
  joined_there c j = ⊎_elim (λ lt. lt)
      (λ le. clash (joined (V c)) j (ap (λ (g : Stage). joined (view g)) (I.kept.absent c le)))
      (cases_lt c z.cards)

  -- and so is its node
  node_there : (c n : ℕ) → link (V c) ≡ suc n → n < z.nodes
  node_there c n e = let k = sound_link z.nodes z.counters (S c) (I.kept.sound c) in omega arith

  -- a card on the board has a record
  in_records : (c : ℕ) → c < z.cards → c < length R
  in_records c lt = let w = W.cards in let k = I.kept.cards in omega arith

  -- the link of a card in line
  link_in : (c : ℕ) → joined (V c) ≡ true → line_link (S c) ≡ suc (node (V c))
  link_in c j = line_link_view (S c) ∙ ap (λ (b : Bool). cond b (link (V c)) 0) j ∙ joined_link (V c) j

  -- a card that is not in line has none
  link_out : (c : ℕ) → joined (V c) ≡ false → line_link (S c) ≡ 0
  link_out c j = line_link_view (S c) ∙ ap (λ (b : Bool). cond b (link (V c)) 0) j

  -- what stands in the next of a node
  behind_is : (n : ℕ) → n < z.nodes → behind M (suc n) ≡ F (next n)
  behind_is n lt = let w = W.nodes in
      ap (λ (b : Bool). seen
      (cond b (Ok (F (next n))) (Err (record { refusal = OutOfRange; card = 0; cell = next n }))))
      (lt-ltb (next n) 137 (omega arith))

  -- whether a card in line points at a link
  points_in : (a k : ℕ) → joined (V a) ≡ true → points M (S a) k ≡ eqb (F (next (node (V a)))) k
  points_in a k j = ap (λ (x : ℕ). cond (eqb x 0) false (eqb (behind M x) k)) (link_in a j)
      ∙ ap (λ (x : Bool). cond x false (eqb (behind M (suc (node (V a)))) k))
      (ne_eqb (suc (node (V a))) 0 (λ e. omega arith))
      ∙ ap (λ (x : ℕ). eqb x k) (behind_is (node (V a)) (node_there a (node (V a)) (joined_link (V a) j)))

  -- a card that is not in line does not
  points_out : (a k : ℕ) → joined (V a) ≡ false → points M (S a) k ≡ false
  points_out a k j = ap (λ (x : ℕ). cond (eqb x 0) false (eqb (behind M x) k)) (link_out a j)

  -- a card that is not in line does not lead
  leads_out : (c : ℕ) → joined (V c) ≡ false → leads M R (S c) ≡ false
  leads_out c j = ap (λ (x : ℕ). cond (eqb x 0) false (cond (has_ahead M R x) false true)) (link_out c j)

  -- a card in line leads just if nobody is ahead of it
  leads_by : (c : ℕ) (t : Bool) → joined (V c) ≡ true → has_ahead M R (suc (node (V c))) ≡ t
      → leads M R (S c) ≡ cond t false true
  leads_by c t j h = ap (λ (x : ℕ). cond (eqb x 0) false (cond (has_ahead M R x) false true)) (link_in c j)
      ∙ ap (λ (x : Bool). cond x false (cond (has_ahead M R (suc (node (V c)))) false true))
      (ne_eqb (suc (node (V c))) 0 (λ e. omega arith))
      ∙ ap (λ (x : Bool). cond x false true) h

  -- a card behind another does not lead
  behind_waits : (a c : ℕ) → joined (V a) ≡ true → joined (V c) ≡ true → Spot F (V a) (V c) → leads M R (S c) ≡ false
  behind_waits a c ja jc P = leads_by c true jc
      (ahead_true M (suc (node (V c))) R a (in_records a (joined_there a ja))
      (points_in a (suc (node (V c))) ja ∙ eq-eqb (F (next (node (V a)))) (suc (node (V c))) points_at))
    where
      points_at : F (next (node (V a))) ≡ suc (node (V c))
      points_at = let k = joined_link (V a) ja in
          ⊎_elim (λ e. absurd (omega arith)) (λ e. e ∙ joined_link (V c) jc) P.from

  -- the first leads
  first_leads : (c : ℕ) (l : List ℕ) → Chain F V 0 (c ∷ l) → Once (c ∷ l) → cards_of b.line ≡ c ∷ l
      → leads M R (S c) ≡ true
  first_leads c l h u e = leads_by c false h.0.in_line (ahead_false M (suc (node (V c))) R none)
    where
      lc : link (V c) ≡ suc (node (V c))
      lc = joined_link (V c) h.0.in_line

      other : (a : ℕ) → joined (V a) ≡ true → End F (V a) ⊎ ((d : ℕ) × In d l × Spot F (V a) (V d))
          → F (next (node (V a))) ≡ suc (node (V c)) → ⊥
      other a j (inl k) q = let o = joined_link (V a) j in ⊎_elim (λ x. omega arith) (λ x. omega arith) k.last
      other a j (inr w) q = let o = joined_link (V a) j in
          ⊎_elim (λ x. omega arith)
          (λ x. ⊎_elim (λ p. u.0 (subst (λ (y : ℕ). In y l) p w.1))
          (λ p. let k = lc in let y = x ∙ p in omega arith)
          (I.kept.line.nodes w.0 c (sym x ∙ q ∙ sym lc)))
          w.2.from

      by_view : (a : ℕ) (t : Bool) → joined (V a) ≡ t → points M (S a) (suc (node (V c))) ≡ false
      by_view a false j = points_out a (suc (node (V c))) j
      by_view a true j = points_in a (suc (node (V c))) j
          ∙ ne_eqb (F (next (node (V a)))) (suc (node (V c)))
          (other a j (behind_tail F V c l 0 h a (subst (In a) e (I.kept.line.members a j))))

      none : (a : ℕ) → a < length R → points M (get_or R a idle_card).stage (suc (node (V c))) ≡ false
      none a lt = by_view a (joined (V a)) refl

  -- only the first leads
  only_leads : (c : ℕ) (l : List ℕ) → Chain F V 0 (c ∷ l) → cards_of b.line ≡ c ∷ l
      → (a : ℕ) → leads M R (S a) ≡ true → line_link (S a) ≡ suc (node (V c))
  only_leads c l h e a lead = by_view (joined (V a)) refl
    where
      by_place : joined (V a) ≡ true → In a (c ∷ l) → line_link (S a) ≡ suc (node (V c))
      by_place j (inl p) = link_in a j ∙ ap (λ (x : ℕ). suc (node (V x))) p
      by_place j (inr i) = let w = chain_pred F V l c h.0.in_line h.1 a i in
          clash (leads M R (S a)) lead (behind_waits w.0 a w.1 j w.2)

      by_view : (t : Bool) → joined (V a) ≡ t → line_link (S a) ≡ suc (node (V c))
      by_view true j = by_place j (subst (In a) e (I.kept.line.members a j))
      by_view false j = clash (leads M R (S a)) lead (leads_out a j)

  -- the first link found is that of the first in line
  found_first : (p : Place) (l : List Place) → b.line ≡ p ∷ l → first_link M R R ≡ suc p.node
  found_first p l e =
      let h = subst (λ (x : List Place). Chain F V 0 (cards_of x)) e I.kept.line.chain in
      let u = subst (λ (x : List Place). Once (cards_of x)) e I.kept.line.once in
      let s = subst (Seated S) e I.seated in
      let q = ap cards_of e in
      first_is M R (suc (node (V p.card))) R (λ a lt lead. only_leads p.card (cards_of l) h q a lead) p.card
      (in_records p.card (joined_there p.card h.0.in_line)) (first_leads p.card (cards_of l) h u q)
      ∙ ap suc (link_node (V p.card) p.node s.0)

  -- or of nobody
  found_none : b.line ≡ [] → first_link M R R ≡ 0
  found_none e = first_none M R R (λ a lt. by_view a (joined (V a)) refl)
    where
      by_view : (a : ℕ) (t : Bool) → joined (V a) ≡ t → leads M R (S a) ≡ false
      by_view a true j = absurd (subst (λ (x : List Place). In a (cards_of x)) e (I.kept.line.members a j))
      by_view a false j = leads_out a j

  -- the walk from a place in line goes through those behind it
  walk_line : (p : Place) (l : List Place) (k f : ℕ) → Chain F V k (cards_of (p ∷ l)) → Seated S (p ∷ l)
      → suc (length (cards_of l)) ≤ f → walk M f (suc p.node) ≡ p.node ∷ map (λ (q : Place). q.node) l
  unfolding walk
  walk_line p l k zero h s le = absurd (omega arith)
  walk_line p [] k (suc f) h s le =
      ap (λ (x : ℕ). p.node ∷ walk M f x) (behind_is p.node (node_there p.card p.node s.0) ∙ nobody)
      ∙ ap (λ (x : List ℕ). p.node ∷ x) (walk_none M f)
    where
      nobody : F (next p.node) ≡ 0
      nobody = let a = s.0 in
          ap (λ (x : ℕ). F (next x)) (sym (link_node (V p.card) p.node s.0))
          ∙ ⊎_elim (λ e. absurd (omega arith)) (λ e. e) h.1.last
  walk_line p (q ∷ l) k (suc f) h s le =
      ap (λ (x : ℕ). p.node ∷ walk M f x) (behind_is p.node (node_there p.card p.node s.0) ∙ somebody)
      ∙ ap (λ (x : List ℕ). p.node ∷ x) (walk_line q l (suc p.card) f h.1 s.2 (omega arith))
    where
      somebody : F (next p.node) ≡ suc q.node
      somebody = let a = s.0 in
          ap (λ (x : ℕ). F (next x)) (sym (link_node (V p.card) p.node s.0))
          ∙ ⊎_elim (λ e. absurd (omega arith)) (λ e. e ∙ s.2.0) h.1.0.from

  -- there are never more than eight in line
  line_few : length (cards_of b.line) ≤ 8
  line_few = once_few 8 (cards_of b.line) I.kept.line.once
      (λ c i. let lt = joined_there c (chain_joined F V (cards_of b.line) 0 I.kept.line.chain c i) in
      let w = W.cards in omega arith)

  -- the tablet's line call answers the book's line
  pub line_is_walked : nodes_in_line M R ≡ map (λ (q : Place). q.node) b.line
  line_is_walked = go b.line refl
    where
      go : (l : List Place) → b.line ≡ l → walk M 8 (first_link M R R) ≡ map (λ (q : Place). q.node) l
      go [] e = ap (walk M 8) (found_none e) ∙ walk_none M 8
      go (p ∷ l) e = ap (walk M 8) (found_first p l e)
          ∙ walk_line p l 0 8 (subst (λ (x : List Place). Chain F V 0 (cards_of x)) e I.kept.line.chain)
          (subst (Seated S) e I.seated) (subst (λ (x : List Place). length (cards_of x) ≤ 8) e line_few)
