-- What the answer to a request, an abort or a reuse says is so, and so to every call.
use Rattle.std.proofs.Common.{◌≡◌, ℕ, ◌<◌, Bool, true, false, cond, ltb, ◌⊎◌, [], ◌∷◌, length, Some, None, Ok, Option}
use Rattle.std.proofs.Common.{Result, sym, refl, ap, ◌∙◌, subst, inl, inr, arith}
use Rattle.std.proofs.lemmas.Bool.{ltb-true, cond_both}
use Rattle.std.proofs.lemmas.Bool.Decides.{nat_tests}
use Rattle.memory.specs.declared.fault.MemoryFault.{MemoryFault}
use Rattle.memory.specs.declared.call.MemoryCall.TheVariants as memory-call
use Rattle.memory.specs.Meaning.{Meaning, Outcome, Tx, none, standing, tx_of}
use Rattle.memory.specs.Calls.{performed}
use Rattle.stages.specs.declared.answer.Answer.{Answer}
use Rattle.stages.specs.declared.answer.Answer.TheVariants.{Done, Count}
use Rattle.stages.specs.declared.layout.Field.{Field}
use Rattle.stages.specs.declared.layout.Field.TheVariants.{Next, Prev, State, Spin}
use Rattle.stages.specs.declared.stage.Mode.{Mode}
use Rattle.stages.specs.declared.stage.Mode.TheVariants.{Read, Write}
use Rattle.stages.specs.declared.stage.Addition.TheVariants.{A1}
use Rattle.stages.specs.declared.stage.WriterExit.TheVariants.{X1}
use Rattle.stages.specs.declared.stage.ReaderExit.TheVariants.{Y1}
use Rattle.stages.specs.declared.stage.Stage.{Stage}
use Rattle.stages.specs.declared.stage.Stage.TheVariants.{Idle, WriterEnters, ReaderEnters, Inside, Adds}
use Rattle.stages.specs.declared.stage.Stage.TheVariants.{WriterLeaves, ReaderLeaves}
use Rattle.stages.specs.Layout.{node_cell, counter_cell}
use Rattle.stages.specs.Rows.{begin_of}
use Rattle.lock.specs.declared.fault.LockFault.{LockFault}
use Rattle.lock.specs.declared.fault.LockFault.TheVariants.{NoCard, NotAllowed, NoPlace, NotFree}
use Rattle.lock.specs.declared.values.NodeValues.{NodeValues}
use Rattle.lock.specs.Lock.{Size, LockState, Turn, staged, refuses, free, stores, entry_stores}
use Rattle.lock.specs.Lock.{first_stage, enter_by, enter_at, inside_by, leave_at, add_at, count_by, show_at, drop_by}
use Rattle.lock.specs.Lock.{reuse_stores, reuse_by, reuse_at}
use Rattle.door.specs.declared.fault.DoorFault.{DoorFault}
use Rattle.door.specs.declared.request.Request.{Request}
use Rattle.door.specs.declared.request.Request.TheVariants.{Enter, Leave, Add, Show}
use Rattle.door.specs.declared.call.Call.{Call}
use Rattle.door.specs.declared.call.Call.TheVariants as call
use Rattle.door.specs.Door.{called, told, served}
use Rattle.board.specs.Book.{Book, accepted, after}
use Rattle.board.specs.Promise.{stage, entry_under_way, add_under_way}
use Rattle.board.specs.Answers.{phase_of, inside, leaving, state_of, Drops, Fills, RequestSays}
use Rattle.board.specs.Answers.{RefusedOr, TakenOr, Tells}
use Rattle.board.proofs.Ranges.{Within}
use Rattle.board.proofs.Lists.{by_test}
use Rattle.board.proofs.Cells.{at, at_same, clash}
use Rattle.board.proofs.Held.{in_tx, Agrees}
use Rattle.board.proofs.Inv.{Inv}
use Rattle.board.proofs.Model.{Out, out, seen}
use Rattle.board.proofs.Bridge.{Same, bridge}
use Rattle.board.proofs.Rows.{row, row_inside, recorded}
use Rattle.board.proofs.Isolation.{load_accepted, drop_accepted}
use Rattle.board.proofs.Frames as frames
use Rattle.board.proofs.Frames.{stored, stored_other, entry_within, reuse_within}
use Rattle.board.proofs.Turns.{moved, moved_same, same_stage, request_replies, abort_replies}
use Rattle.board.proofs.Said.{begin_phase}
use Rattle.board.proofs.Told.{step_told}
use Rattle.board.proofs.Untouched.{node_stores}

-- what the stores of an enter leave in the node's cells
entry_stored : (f : ℕ → ℕ) (k : ℕ) (o : Mode)
    → let g = stored (entry_stores k o) f in (g (node_cell k State) ≡ state_of o) × (g (node_cell k Spin) ≡ 1)
    × (g (node_cell k Next) ≡ 0) × (o ≡ Read → g (node_cell k Prev) ≡ 0)
entry_stored f k Read =
    (grind (arith, nat_tests), grind (arith, nat_tests), grind (arith, nat_tests), λ _. grind (arith, nat_tests))
entry_stored f k Write = (grind (arith, nat_tests), grind (arith, nat_tests), grind (arith, nat_tests), λ e. cc)

-- what the stores of a reuse leave in them
reuse_stored : (f : ℕ → ℕ) (k : ℕ) (v : NodeValues)
    → let g = stored (reuse_stores k v) f in (g (node_cell k Next) ≡ v.next) × (g (node_cell k Prev) ≡ v.prev)
    × (g (node_cell k State) ≡ v.state) × (g (node_cell k Spin) ≡ v.spin)
reuse_stored f k v =
    (grind (arith, nat_tests), grind (arith, nat_tests), grind (arith, nat_tests), grind (arith, nat_tests))

-- a cell of a node is one of its four
one_of_four : (k x : ℕ) → frames.Within k x → ((f : Field) → x ≡ node_cell k f → ⊥) → ⊥
one_of_four k x w h =
    let a = w.0 in let b = w.1 in let p = h Next in let q = h Prev in let r = h State in let s = h Spin in omega arith

-- the entry of a card that enters
entry_of : (c k : ℕ) (o : Mode) → entry_under_way c (first_stage k o) ≡ record { card = c; node = k; mode = o } ∷ []
entry_of c k Read = refl
entry_of c k Write = refl

-- A card c that there is, on a book that keeps the invariant.
module _ (z : Size) (W : Within z) (b : Book) (I : Inv z b) (c : ℕ) (lt : c < z.cards) where
  abbrev s : LockState
  s = b.board.lock

  abbrev F : ℕ → ℕ
  F = standing s.meaning

  -- the records are long enough for the card
  long : c < length s.cards
  long = let w = W.cards in let l = I.kept.cards in omega arith

  -- what a request that the lock takes leaves
  abbrev pub Took : Request → Turn → Type 0
  Took (Enter o k) p =
      (p.0 ≡ Ok Done) × (stage b c ≡ Idle) × (k < z.nodes) × (free s.cards k ≡ true)
      × (p.1.cards ≡ moved s c (first_stage k o)) × (standing p.1.meaning ≡ stored (entry_stores k o) F)
  Took Leave p =
      (p.0 ≡ Ok Done) × (phase_of (stage b c) ≡ inside)
      × ((h : Stage) × (phase_of h ≡ leaving) × (p.1 ≡ staged s s.meaning c h))
  Took (Add k a) p =
      (p.0 ≡ Ok Done) × (k < z.counters)
      × ((i : ℕ) × (stage b c ≡ Inside i Write) × (p.1 ≡ staged s s.meaning c (Adds i (A1 k a))))
  Took (Show k) p =
      (p.0 ≡ Ok (Count (F (counter_cell z.nodes k)))) × (phase_of (stage b c) ≡ inside) × (k < z.counters)
      × (p.1.cards ≡ s.cards) × (standing p.1.meaning ≡ F)

  -- it is refused and leaves everything, or it is taken
  abbrev pub Judged : Request → Turn → Type 0
  Judged w p = ((f : LockFault) × (p ≡ refuses s f)) ⊎ Took w p

  -- an enter, by the card's stage
  enter_judged : (o : Mode) (k : ℕ) (g : Stage) → stage b c ≡ g → Judged (Enter o k) (enter_at z s c o k g)
  enter_judged o k Idle e =
      cond_both (ltb k z.nodes) _ (refuses s NoPlace) (Judged (Enter o k))
      (λ q. cond_both (free s.cards k) (enter_by s c (first_stage k o) (stores c (entry_stores k o) s.meaning))
      (refuses s NotFree) (Judged (Enter o k))
      (λ r. let D = node_stores z W b I c k lt (ltb-true k z.nodes q) e (entry_stores k o) (entry_within k o) in
      subst (λ (p : Result (Unit {0}) LockFault × Meaning). Judged (Enter o k) (enter_by s c (first_stage k o) p))
      (sym D.1.done) (inr (refl, e, ltb-true k z.nodes q, r, refl, D.1.stands)))
      (λ r. inl (NotFree, refl)))
      (λ q. inl (NoPlace, refl))
  enter_judged o k (WriterEnters i p) e = inl (NotAllowed, refl)
  enter_judged o k (ReaderEnters i p) e = inl (NotAllowed, refl)
  enter_judged o k (Inside i j) e = inl (NotAllowed, refl)
  enter_judged o k (Adds i p) e = inl (NotAllowed, refl)
  enter_judged o k (WriterLeaves i p) e = inl (NotAllowed, refl)
  enter_judged o k (ReaderLeaves i p) e = inl (NotAllowed, refl)

  -- a request of a card inside, by the card's stage
  inside_judged : (w : Request) (k : ℕ → Mode → Turn) (g : Stage) → stage b c ≡ g
      → ((i : ℕ) (o : Mode) → stage b c ≡ Inside i o → Judged w (k i o)) → Judged w (inside_by s k g)
  inside_judged w k Idle e h = inl (NotAllowed, refl)
  inside_judged w k (WriterEnters i p) e h = inl (NotAllowed, refl)
  inside_judged w k (ReaderEnters i p) e h = inl (NotAllowed, refl)
  inside_judged w k (Inside i o) e h = h i o e
  inside_judged w k (Adds i p) e h = inl (NotAllowed, refl)
  inside_judged w k (WriterLeaves i p) e h = inl (NotAllowed, refl)
  inside_judged w k (ReaderLeaves i p) e h = inl (NotAllowed, refl)

  -- a card inside is outside of a transaction
  inside_out : (i : ℕ) (o : Mode) → stage b c ≡ Inside i o → in_tx (stage b c) ≡ false
  inside_out i Read e = ap in_tx e
  inside_out i Write e = ap in_tx e

  -- a leave
  leave_judged : (i : ℕ) (o : Mode) → stage b c ≡ Inside i o → Judged Leave (leave_at s c i o)
  leave_judged i Read e = inr (refl, ap phase_of e, (ReaderLeaves i Y1, refl, refl))
  leave_judged i Write e = inr (refl, ap phase_of e, (WriterLeaves i X1, refl, refl))

  -- an add
  add_judged : (k a i : ℕ) (o : Mode) → stage b c ≡ Inside i o → Judged (Add k a) (add_at z s c k a i o)
  add_judged k a i Read e = inl (NotAllowed, refl)
  add_judged k a i Write e =
      cond_both (ltb k z.counters) (Ok Done, staged s s.meaning c (Adds i (A1 k a))) (refuses s NoPlace)
      (Judged (Add k a)) (λ q. inr (refl, ltb-true k z.counters q, (i, e, refl))) (λ q. inl (NoPlace, refl))

  -- a show is one load, which is accepted
  show_judged : (k i : ℕ) (o : Mode) → stage b c ≡ Inside i o → Judged (Show k) (show_at z s c k i o)
  show_judged k i o e =
      cond_both (ltb k z.counters) (count_by s O.answer O.after) (refuses s NoPlace) (Judged (Show k))
      (λ q. loaded (ltb-true k z.counters q)) (λ q. inl (NoPlace, refl))
    where
      x : ℕ
      x = counter_cell z.nodes k

      O : Outcome ℕ
      O = performed s.meaning (memory-call.Load c x)

      loaded : k < z.counters → Judged (Show k) (count_by s O.answer O.after)
      loaded lk =
          let u = W.cards in let v = W.nodes in let w = W.counters in
          let B = bridge s.meaning I.kept.cells I.kept.txs c (omega arith) (memory-call.Load c x)
          (refl, omega arith) (recorded z.nodes z.counters F (stage b c) (tx_of s.meaning c) v
          (I.kept.sound c) (I.kept.isolated.agrees c)) in
          let E = load_accepted F (tx_of s.meaning) (stage b) I.kept.isolated c x (inside_out i o e) in
          subst (λ (r : Result ℕ MemoryFault). Judged (Show k) (count_by s r O.after))
          (sym (B.answer ∙ ap (λ (o : Out). o.answer) E))
          (inr (refl, ap phase_of e, lk, refl, B.cell ∙ ap (λ (o : Out). o.cell) E))

  -- each request
  served_judged : (w : Request) → Judged w (served z s c w)
  served_judged (Enter o k) = by_test (Judged (Enter o k)) (ltb c z.cards) _ (refuses s NoCard)
      (enter_judged o k (stage b c) refl) (inl (NoCard, refl))
  served_judged Leave = by_test (Judged Leave) (ltb c z.cards) _ (refuses s NoCard)
      (inside_judged Leave (leave_at s c) (stage b c) refl leave_judged) (inl (NoCard, refl))
  served_judged (Add k a) = by_test (Judged (Add k a)) (ltb c z.cards) _ (refuses s NoCard)
      (inside_judged (Add k a) (add_at z s c k a) (stage b c) refl (add_judged k a)) (inl (NoCard, refl))
  served_judged (Show k) = by_test (Judged (Show k)) (ltb c z.cards) _ (refuses s NoCard)
      (inside_judged (Show k) (show_at z s c k) (stage b c) refl (show_judged k)) (inl (NoCard, refl))

  -- the standing values of a book D that has the state t of the lock
  cell_in : (D : Book) (t : LockState) (f : ℕ → ℕ) → D.board.lock ≡ t → standing t.meaning ≡ f → (x : ℕ)
      → standing D.board.lock.meaning x ≡ f x
  cell_in D t f e q x = ap (λ (u : LockState). standing u.meaning x) e ∙ ap (λ (g : ℕ → ℕ). g x) q

  -- the card's stage in it
  stage_in : (D : Book) (t : LockState) (h : Stage) → D.board.lock ≡ t → t.cards ≡ moved s c h → stage D c ≡ h
  stage_in D t h e q = moved_same s D.board.lock c h long (ap (λ (u : LockState). u.cards) e ∙ q)

  -- what a request that was taken says
  took_says : (w : Request) (p : Turn) (D : Book) → D.board.lock ≡ p.1 → Took w p
      → RequestSays z c w s.meaning D.board.lock.meaning b D (told p.0)
  took_says (Enter o k) p D e q =
      let S = entry_stored F k o in let cell = cell_in D p.1 (stored (entry_stores k o) F) e q.5 in (
        ap told q.0,
        record {
          was_idle = ap phase_of q.1;
          there = q.2;
          was_free = q.3;
          under_way = ap (entry_under_way c) (stage_in D p.1 (first_stage k o) e q.4) ∙ entry_of c k o;
          state = cell (node_cell k State) ∙ S.0;
          spin = cell (node_cell k Spin) ∙ S.1;
          next = cell (node_cell k Next) ∙ S.2;
          prev = λ r. cell (node_cell k Prev) ∙ S.3 r;
        },
      )
  took_says Leave p D e q = let H = q.2 in (
    ap told q.0,
    q.1,
    ap phase_of (stage_in D p.1 H.0 e (ap (λ (u : LockState). u.cards) H.2)) ∙ H.1,
    cell_in D p.1 F e (ap (λ (u : LockState). standing u.meaning) H.2),
  )
  took_says (Add k a) p D e q = let H = q.2 in (
    ap told q.0,
    record {
      was_inside = (H.0, H.1);
      there = q.1;
      under_way = ap (add_under_way c)
          (stage_in D p.1 (Adds H.0 (A1 k a)) e (ap (λ (u : LockState). u.cards) H.2));
      cells = cell_in D p.1 F e (ap (λ (u : LockState). standing u.meaning) H.2);
    },
  )
  took_says (Show k) p D e q =
      let cell = cell_in D p.1 F e q.4 in record {
        was_inside = q.1;
        there = q.2;
        answer = ap told q.0 ∙ ap (λ (v : ℕ). Ok (Count v)) (sym (cell (counter_cell z.nodes k)));
        stays = same_stage s D.board.lock c (ap (λ (u : LockState). u.cards) e ∙ q.3);
        cells = cell;
      }

  -- a request that was taken was accepted
  took_accepted : (w : Request) (p : Turn) → Took w p → accepted p.0 ≡ true
  took_accepted (Enter o k) p q = ap accepted q.0
  took_accepted Leave p q = ap accepted q.0
  took_accepted (Add k a) p q = ap accepted q.0
  took_accepted (Show k) p q = ap accepted q.0

  -- a request that the lock judges
  judged_says : (w : Request) (p : Turn) (D : Book) → D.board.lock ≡ p.1 → Judged w p
      → TakenOr b.board D.board
      (λ y. RequestSays z c y s.meaning D.board.lock.meaning b D (told p.0))
      (cond (accepted p.0) (Some w) None)
  judged_says w p D e (inl q) =
      subst (λ (a : Bool). TakenOr b.board D.board
      (λ y. RequestSays z c y s.meaning D.board.lock.meaning b D (told p.0)) (cond a (Some w) None))
      (sym (ap (λ (t : Turn). accepted t.0) q.1)) (e ∙ ap (λ (t : Turn). t.1) q.1)
  judged_says w p D e (inr q) =
      subst (λ (a : Bool). TakenOr b.board D.board
      (λ y. RequestSays z c y s.meaning D.board.lock.meaning b D (told p.0)) (cond a (Some w) None))
      (sym (took_accepted w p q)) (took_says w p D e q)

  -- a drop inside of a transaction
  drop_says : in_tx (stage b c) ≡ true → (D : Book)
      → let o = performed s.meaning (memory-call.Drop c) in
      let p = drop_by s c o.answer o.after in D.board.lock ≡ p.1
      → RefusedOr b.board D.board (λ a. (a ≡ Done) × Drops c s.meaning D.board.lock.meaning b D)
      (told p.0)
  drop_says i D =
      subst (λ (r : Result ℕ MemoryFault). D.board.lock ≡ (drop_by s c r M).1
      → RefusedOr b.board D.board (λ a. (a ≡ Done) × Drops c s.meaning D.board.lock.meaning b D)
      (told (drop_by s c r M).0)) (sym (B.answer ∙ ap (λ (o : Out). o.answer) E))
      (λ e. (
        refl,
        record {
          was_there = λ n. clash (in_tx (stage b c)) i (subst (Agrees F (stage b c)) n (I.kept.isolated.agrees c));
          closed = ap (λ (u : LockState). tx_of u.meaning c) e
              ∙ ap (λ (t : ℕ → Tx). t c) (B.tx ∙ ap (λ (o : Out). o.tx) E) ∙ at_same (tx_of s.meaning) c none;
          cells = cell_in D _ F e (B.cell ∙ ap (λ (o : Out). o.cell) E);
          stays = ap phase_of (stage_in D _ (begin_of (stage b c)) e refl) ∙ begin_phase (stage b c);
        },
      ))
    where
      M : Meaning
      M = (performed s.meaning (memory-call.Drop c)).after

      B : Same (performed s.meaning (memory-call.Drop c)) (seen c (memory-call.Drop c) F (tx_of s.meaning))
      B = let u = W.cards in
          bridge s.meaning I.kept.cells I.kept.txs c (omega arith) (memory-call.Drop c) refl
          (recorded z.nodes z.counters F (stage b c) (tx_of s.meaning c) W.nodes (I.kept.sound c)
          (I.kept.isolated.agrees c))

      E : seen c (memory-call.Drop c) F (tx_of s.meaning) ≡ out F (at (tx_of s.meaning) c none) (Ok 0)
      E = drop_accepted F (tx_of s.meaning) (stage b) I.kept.isolated c i

  -- what a reuse has to answer
  abbrev pub Reused : ℕ → NodeValues → Turn → Type 0
  Reused k v p = (D : Book) → D.board.lock ≡ p.1
      → RefusedOr b.board D.board (λ a. (a ≡ Done) × Fills z c k v s.meaning D.board.lock.meaning b)
      (told p.0)

  -- a reuse, by the card's stage
  reuse_says : (k : ℕ) (v : NodeValues) (g : Stage) → stage b c ≡ g → Reused k v (reuse_at z s c k v g)
  reuse_says k v Idle e =
      cond_both (ltb k z.nodes) _ (refuses s NoPlace) (Reused k v)
      (λ q. cond_both (free s.cards k) (reuse_by s (stores c (reuse_stores k v) s.meaning))
      (refuses s NotFree) (Reused k v)
      (λ r. let N = node_stores z W b I c k lt (ltb-true k z.nodes q) e (reuse_stores k v) (reuse_within k v) in
      subst (λ (p : Result (Unit {0}) LockFault × Meaning). Reused k v (reuse_by s p)) (sym N.1.done)
      (λ D x. let cell = cell_in D _ (stored (reuse_stores k v) F) x N.1.stands in let S = reuse_stored F k v in (
        refl,
        record {
          was_idle = ap phase_of e;
          there = ltb-true k z.nodes q;
          was_free = r;
          next = cell (node_cell k Next) ∙ S.0;
          prev = cell (node_cell k Prev) ∙ S.1;
          state = cell (node_cell k State) ∙ S.2;
          spin = cell (node_cell k Spin) ∙ S.3;
          others = λ y n. cell y
              ∙ stored_other F k y (reuse_stores k v) (reuse_within k v) (λ w. one_of_four k y w n);
        },
      )))
      (λ r D x. x))
      (λ q D x. x)
  reuse_says k v (WriterEnters i p) e = λ D x. x
  reuse_says k v (ReaderEnters i p) e = λ D x. x
  reuse_says k v (Inside i j) e = λ D x. x
  reuse_says k v (Adds i p) e = λ D x. x
  reuse_says k v (WriterLeaves i p) e = λ D x. x
  reuse_says k v (ReaderLeaves i p) e = λ D x. x

-- a reuse of any card
reuse_told : (z : Size) (W : Within z) (b : Book) (I : Inv z b) (c k : ℕ) (v : NodeValues)
    → Tells z (call.Reuse c k v) b.board (after z b (call.Reuse c k v)).board b (after z b (call.Reuse c k v))
    (called z b.board (call.Reuse c k v)).0
unfolding called
reuse_told z W b I c k v =
    cond_both (ltb c z.cards) (reuse_at z b.board.lock c k v (stage b c)) (refuses b.board.lock NoCard)
    (λ (p : Turn). (D : Book) → D.board.lock ≡ p.1
    → RefusedOr b.board D.board
    (λ a. (a ≡ Done) × Fills z c k v b.board.lock.meaning D.board.lock.meaning b) (told p.0))
    (λ q. reuse_says z W b I c (ltb-true c z.cards q) k v (stage b c) refl) (λ q D x. x)
    (after z b (call.Reuse c k v)) refl

-- what the answer to every call says is so
pub all_told : (z : Size) (W : Within z) (b : Book) (I : Inv z b) (k : Call)
    → Tells z k b.board (called z b.board k).1 b (after z b k) (called z b.board k).0
all_told z W b I (call.Request c t k x y) =
    request_replies z b.board c t k x y
    (λ (r : Result Answer DoorFault) (u : LockState) (o : Option Request). (D : Book) → D.board.lock ≡ u
    → TakenOr b.board D.board
    (λ w. RequestSays z c w b.board.lock.meaning D.board.lock.meaning b D r) o)
    (λ r D e. e)
    (λ w lt D e. judged_says z W b I c lt w (served z b.board.lock c w) D e (served_judged z W b I c lt w))
    (after z b (call.Request c t k x y)) refl
all_told z W b I (call.Step c) = step_told z W b I c
all_told z W b I (call.Abort c) =
    abort_replies z b.board c
    (λ (r : Result Answer DoorFault) (u : LockState). (D : Book) → D.board.lock ≡ u
    → RefusedOr b.board D.board
    (λ a. (a ≡ Done) × Drops c b.board.lock.meaning D.board.lock.meaning b D) r)
    (λ f D e. e)
    (λ k lt e i D x. drop_says z W b I c lt
    (sym (row_inside c (stage b c) k (row z.nodes z.counters c (stage b c) (I.kept.sound c) k e)) ∙ i) D x)
    (after z b (call.Abort c)) refl
all_told z W b I (call.Reuse c k v) = reuse_told z W b I c k v
