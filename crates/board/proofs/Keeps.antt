-- Every call keeps the invariant, and none is refused by the memory.
use Rattle.std.proofs.Common.{◌≡◌, ℕ, ◌<◌, ◌≤◌, Bool, true, false, cond, ltb, List, length, Some, None, Ok, Err}
use Rattle.std.proofs.Common.{Option, Result, sym, refl, ap, ◌∙◌, subst, arith}
use Rattle.std.proofs.lemmas.Bool.{ltb-true}
use Rattle.memory.specs.declared.fault.MemoryFault.{MemoryFault}
use Rattle.memory.specs.declared.fault.Refusal.{Refusal}
use Rattle.memory.specs.declared.call.MemoryCall.{MemoryCall}
use Rattle.memory.specs.declared.call.MemoryCall.TheVariants as memory-call
use Rattle.memory.specs.Meaning.{Meaning, Tx, standing, tx_of}
use Rattle.memory.specs.Calls.{performed}
use Rattle.stages.specs.declared.answer.Answer.{Answer}
use Rattle.stages.specs.declared.answer.Answer.TheVariants.{Done}
use Rattle.stages.specs.declared.stage.Mode.{Mode}
use Rattle.stages.specs.declared.stage.Mode.TheVariants.{Read, Write}
use Rattle.stages.specs.declared.stage.Addition.TheVariants.{A1}
use Rattle.stages.specs.declared.stage.WriterExit.TheVariants.{X1}
use Rattle.stages.specs.declared.stage.ReaderExit.TheVariants.{Y1}
use Rattle.stages.specs.declared.stage.Stage.{Stage}
use Rattle.stages.specs.declared.stage.Stage.TheVariants.{Idle, WriterEnters, ReaderEnters, Inside, Adds}
use Rattle.stages.specs.declared.stage.Stage.TheVariants.{WriterLeaves, ReaderLeaves}
use Rattle.stages.specs.Layout.{counter_cell}
use Rattle.stages.specs.Rows.{call_of, begin_of, in_transaction}
use Rattle.lock.specs.declared.fault.LockFault.{LockFault}
use Rattle.lock.specs.declared.fault.LockFault.TheVariants.{NoCard, NotAllowed, NoPlace, NotFree}
use Rattle.lock.specs.declared.values.NodeValues.{NodeValues}
use Rattle.lock.specs.Faults as lock
use Rattle.lock.specs.Lock.{Size, LockState, Turn, stage_of, staged, kept, refuses, of_card, on_free, free, goes}
use Rattle.lock.specs.Lock.{advanced, returns_by}
use Rattle.lock.specs.Lock.{step_by, stepped, drop_by, abort_by, aborted, stores, entry_stores, first_stage, enter_by}
use Rattle.lock.specs.Lock.{enter_at}
use Rattle.lock.specs.Lock.{inside_by, leave_at, add_at, count_by, show_at, reuse_stores, reuse_by, reuse_at, reused}
use Rattle.door.specs.declared.request.Request.{Request}
use Rattle.door.specs.declared.request.Request.TheVariants.{Enter, Leave, Add, Show}
use Rattle.door.specs.Door.{served}
use Rattle.board.specs.Book.{Place, Sum, plain, deed, deed_by, accepted, lined, summed, step_deed}
use Rattle.board.proofs.Ranges.{Within}
use Rattle.board.proofs.Cells.{at, at_all, clash}
use Rattle.board.proofs.Views.{view, link, joined, reader}
use Rattle.board.proofs.Chain.{Line, In, chain_joined}
use Rattle.board.proofs.Held.{in_tx, Isolated}
use Rattle.board.proofs.Sound.{Sound}
use Rattle.board.proofs.Model.{Out, seen}
use Rattle.board.proofs.Inv.{cards_of, Seated, Kept, Counted}
use Rattle.board.proofs.Bridge.{Ranged, Same, bridge, staged_is, staged_length}
use Rattle.board.proofs.Rows.{row, row_inside, recorded, ranged}
use Rattle.board.proofs.Isolation.{Fair, step_isolated, step_fair, restaged, load_accepted, drop_accepted}
use Rattle.board.proofs.Isolation.{load_isolated, drop_isolated}
use Rattle.board.proofs.Sounds.{step_sound, begin_sound}
use Rattle.board.proofs.Counts.{finishing, step_counted, counted_cells, counted_stage, calm_begin, calm_inside}
use Rattle.board.proofs.Links.{views, view_begin}
use Rattle.board.proofs.Steps.{step_line}
use Rattle.board.proofs.Frames.{line_same, line_begin, stored, AllWithin, stored_other, entry_within, reuse_within}
use Rattle.board.proofs.Frames.{enter_line, reuse_line, free_unheld}
use Rattle.board.proofs.Stores.{stores_done, within_below}
use Rattle.board.proofs.Seats.{cards_lined, seated_step, seated_same, seated_other}

-- the invariant of a lock's state with the places l in line and the finished adds q
pub record Safe (z : Size) (s : LockState) (l : List Place) (q : List Sum) : Type 0 where
  pub kept : Kept z s (cards_of l)
  pub seated : Seated (stage_of s) l
  pub counted : Counted z (standing s.meaning) (stage_of s) q

-- an answer that is no refusal of the memory
abbrev pub Fine : Result Answer LockFault → Type 0
Fine (Ok a) = Unit {0}
Fine (Err f) = lock.number f ≡ 8 → ⊥

-- what a call of the lock leaves is safe, and its answer fine
abbrev pub Good : Size → Turn → List Place → List Sum → Type 0
Good z p l q = Safe z p.1 l q × Fine p.0

-- a state is safe by what it looks like through functions
pub safe_by : (z : Size) (s : LockState) (l : List Place) (q : List Sum) (f : ℕ → ℕ) (t : ℕ → Tx) (S : ℕ → Stage)
    → length s.meaning.cells ≡ 137 → length s.meaning.txs ≡ 8 → length s.cards ≡ 8
    → standing s.meaning ≡ f → tx_of s.meaning ≡ t → stage_of s ≡ S
    → Isolated f t S → Line f (views S) (cards_of l) → ((c : ℕ) → z.cards ≤ c → S c ≡ Idle)
    → ((c : ℕ) → Sound z.nodes z.counters (S c)) → Seated S l → Counted z f S q → Safe z s l q
safe_by z s l q f t S cl tl sl ef et eS I L A K W C = record {
  kept = record {
    cells = cl;
    txs = tl;
    cards = sl;
    isolated = subst (λ (g : ℕ → ℕ). Isolated g (tx_of s.meaning) (stage_of s)) (sym ef)
        (subst (λ (u : ℕ → Tx). Isolated f u (stage_of s)) (sym et)
        (subst (λ (T : ℕ → Stage). Isolated f t T) (sym eS) I));
    line = subst (λ (g : ℕ → ℕ). Line g (views (stage_of s)) (cards_of l)) (sym ef)
        (subst (λ (T : ℕ → Stage). Line f (views T) (cards_of l)) (sym eS) L);
    absent = subst (λ (T : ℕ → Stage). (c : ℕ) → z.cards ≤ c → T c ≡ Idle) (sym eS) A;
    sound = subst (λ (T : ℕ → Stage). (c : ℕ) → Sound z.nodes z.counters (T c)) (sym eS) K;
  };
  seated = subst (λ (T : ℕ → Stage). Seated T l) (sym eS) W;
  counted = subst (λ (g : ℕ → ℕ). Counted z g (stage_of s) q) (sym ef)
      (subst (λ (T : ℕ → Stage). Counted z f T q) (sym eS) C);
}

-- a row that was accepted answers no refusal of the memory
goes_fine : (g : Stage) (v : ℕ) → Fine (goes g v).1
goes_fine Idle v = λ e. omega arith
goes_fine (WriterEnters n at) v = tt
goes_fine (ReaderEnters n at) v = tt
goes_fine (Inside n m) v = λ e. omega arith
goes_fine (Adds n at) v = tt
goes_fine (WriterLeaves n at) v = tt
goes_fine (ReaderLeaves n at) v = tt

-- nor does one whose transaction was doomed
advanced_fine : (g : Stage) (r : Result ℕ MemoryFault) → Fair r → Fine (advanced g r).1
advanced_fine g (Ok v) h = goes_fine g v
advanced_fine g (Err e) h = subst (λ (x : Refusal). Fine (returns_by g e x).1) (sym h) tt

-- a lock's state that is safe, on sizes within the ranges, and a card c that there is
module _ (z : Size) (W : Within z) (s : LockState) (l : List Place) (q : List Sum) (h : Safe z s l q)
    (c : ℕ) (here : c < z.cards) where
  abbrev N : ℕ
  N = z.nodes

  abbrev K : ℕ
  K = z.counters

  abbrev m : Meaning
  m = s.meaning

  abbrev S : ℕ → Stage
  S = stage_of s

  low : c < 8
  low = let w = W.cards in omega arith

  -- a call of the card in range, seen through functions
  sees : (k : MemoryCall) → Ranged c k → Same (performed m k) (seen c k (standing m) (tx_of m))
  sees k r = bridge m h.kept.cells h.kept.txs c low k r
      (recorded N K (standing m) (S c) (tx_of m c) W.nodes (h.kept.sound c) (h.kept.isolated.agrees c))

  -- the card's stage, which is sound, in place of the old one
  absent_with : (g : Stage) → (d : ℕ) → z.cards ≤ d → at S c g d ≡ Idle
  absent_with g = at_all (λ (d : ℕ) (x : Stage). z.cards ≤ d → x ≡ Idle) S c g (λ w. absurd (omega arith))
      (λ d _. h.kept.absent d)

  sound_with : (g : Stage) → Sound N K g → (d : ℕ) → Sound N K (at S c g d)
  sound_with g k = at_all (λ (d : ℕ) (x : Stage). Sound N K x) S c g k (λ d _. h.kept.sound d)

  -- a step, by the call of the card's stage
  step_good : (o : Option MemoryCall) → call_of N c (S c) ≡ o
      → Good z (step_by s c o) (lined c (deed_by m (S c) o) l) (summed c (deed_by m (S c) o) q)
  step_good None e = (h, λ x. omega arith)
  step_good (Some k) e =
      let P = seen c k (standing m) (tx_of m) in
      let B = sees k (ranged N K c (S c) W.nodes W.counters (h.kept.sound c) k e) in
      subst (λ (r : Result ℕ MemoryFault). Good z
      ((advanced (S c) r).1, staged s (performed m k).after c (advanced (S c) r).0)
      (lined c (cond (accepted r) (deed (S c)) plain) l) (summed c (cond (accepted r) (deed (S c)) plain) q))
      (sym B.answer) (
        safe_by z (staged s (performed m k).after c (advanced (S c) P.answer).0)
            (lined c (cond (accepted P.answer) (deed (S c)) plain) l)
            (summed c (cond (accepted P.answer) (deed (S c)) plain) q)
            P.cell P.tx (at S c (advanced (S c) P.answer).0)
            B.cells B.txs (staged_length s (performed m k).after c (advanced (S c) P.answer).0
            h.kept.cards)
            B.cell B.tx (staged_is s (performed m k).after c (advanced (S c) P.answer).0
            h.kept.cards low)
            (step_isolated N K (standing m) (tx_of m) S h.kept.isolated c (h.kept.sound c) k e)
            (subst (Line P.cell (views (at S c (advanced (S c) P.answer).0)))
            (sym (cards_lined c (cond (accepted P.answer) (deed (S c)) plain) l))
            (step_line c N K (standing m) (tx_of m) S (cards_of l) k e h.kept.line h.kept.sound
            (h.kept.isolated.agrees c)))
            (absent_with (advanced (S c) P.answer).0)
            (sound_with (advanced (S c) P.answer).0
            (step_sound N K (standing m) S (cards_of l) h.kept.line h.kept.sound c (tx_of m)
            (h.kept.isolated.agrees c) k e))
            (seated_step (standing m) S l h.kept.line h.seated c P.answer)
            (step_counted z (standing m) (tx_of m) S (cards_of l) h.kept.line h.kept.sound q h.counted c
            (h.kept.isolated.agrees c) k e),
        advanced_fine (S c) P.answer
            (step_fair N K (standing m) (tx_of m) S h.kept.isolated c (h.kept.sound c) k e),
      )

  -- the card stands at another stage outside of a transaction, seen alike by the line
  restage_safe : (g : Stage) → in_tx (S c) ≡ false → in_tx g ≡ false → view g ≡ view (S c) → Sound N K g
      → finishing g ≡ false → Safe z (staged s m c g) l q
  restage_safe g o i v k n = safe_by z (staged s m c g) l q (standing m) (tx_of m) (at S c g)
      h.kept.cells h.kept.txs (staged_length s m c g h.kept.cards) refl refl
      (staged_is s m c g h.kept.cards low)
      (restaged (standing m) (tx_of m) S h.kept.isolated c g o i)
      (line_same (standing m) S (cards_of l) c g v h.kept.line)
      (absent_with g) (sound_with g k) (seated_same S c g l (ap link v, ap reader v) h.seated)
      (counted_stage z (standing m) S q c g n h.counted)

  -- an abort inside of a transaction
  drop_good : in_tx (S c) ≡ true
      → Good z (drop_by s c (performed m (memory-call.Drop c)).answer (performed m (memory-call.Drop c)).after) l q
  drop_good i =
      let P = seen c (memory-call.Drop c) (standing m) (tx_of m) in
      let B = sees (memory-call.Drop c) refl in
      let E = drop_accepted (standing m) (tx_of m) S h.kept.isolated c i in
      let D = (performed m (memory-call.Drop c)).after in
      let g = begin_of (S c) in
      subst (λ (r : Result ℕ MemoryFault). Good z (drop_by s c r D) l q)
      (sym (B.answer ∙ ap (λ (o : Out). o.answer) E)) (
        safe_by z (staged s D c g) l q P.cell P.tx (at S c g)
            B.cells B.txs (staged_length s D c g h.kept.cards) B.cell B.tx
            (staged_is s D c g h.kept.cards low)
            (drop_isolated (standing m) (tx_of m) S h.kept.isolated c i)
            (subst (λ (f : ℕ → ℕ). Line f (views (at S c g)) (cards_of l)) (sym (ap (λ (o : Out). o.cell) E))
            (line_begin (standing m) S (cards_of l) c h.kept.line))
            (absent_with g) (sound_with g (begin_sound N K (S c) (h.kept.sound c)))
            (seated_same S c g l (ap link (view_begin (S c)), ap reader (view_begin (S c))) h.seated)
            (subst (λ (f : ℕ → ℕ). Counted z f (at S c g) q) (sym (ap (λ (o : Out). o.cell) E))
            (counted_stage z (standing m) S q c g (calm_begin (S c) ∙ calm_inside (S c) i) h.counted)),
        tt,
      )

  abort_good : (o : Option MemoryCall) → call_of N c (S c) ≡ o → Good z (abort_by s c o) l q
  abort_good None e = (h, λ x. omega arith)
  abort_good (Some k) e = go (in_transaction k) (row_inside c (S c) k (row N K c (S c) (h.kept.sound c) k e))
    where
      go : (b : Bool) → b ≡ in_tx (S c)
          → Good z (cond b (drop_by s c (performed m (memory-call.Drop c)).answer
          (performed m (memory-call.Drop c)).after)
          (refuses s NotAllowed)) l q
      go true x = drop_good (sym x)
      go false x = (h, λ y. omega arith)

  -- a load by the card outside of a transaction
  load_good : (a : ℕ) → a < 137 → in_tx (S c) ≡ false
      → Good z (count_by s (performed m (memory-call.Load c a)).answer (performed m (memory-call.Load c a)).after) l q
  load_good a lt o =
      let P = seen c (memory-call.Load c a) (standing m) (tx_of m) in
      let B = sees (memory-call.Load c a) (refl, lt) in
      let E = load_accepted (standing m) (tx_of m) S h.kept.isolated c a o in
      let D = (performed m (memory-call.Load c a)).after in
      subst (λ (r : Result ℕ MemoryFault). Good z (count_by s r D) l q)
      (sym (B.answer ∙ ap (λ (o : Out). o.answer) E)) (
        safe_by z (kept s D) l q P.cell P.tx S B.cells B.txs h.kept.cards B.cell B.tx refl
            (load_isolated (standing m) (tx_of m) S h.kept.isolated c a o)
            (subst (λ (f : ℕ → ℕ). Line f (views S) (cards_of l)) (sym (ap (λ (o : Out). o.cell) E)) h.kept.line)
            h.kept.absent h.kept.sound h.seated
            (subst (λ (f : ℕ → ℕ). Counted z f S q) (sym (ap (λ (o : Out). o.cell) E)) h.counted),
        tt,
      )

  -- stores into the node n leave the counters
  counters_stay : (n : ℕ) → n < N → (ws : List (ℕ × ℕ)) → AllWithin n ws → (T : ℕ → Stage)
      → Counted z (standing m) T q → Counted z (stored ws (standing m)) T q
  counters_stay n lt ws b T k = counted_cells z (standing m) (stored ws (standing m)) T q
      (λ j. stored_other (standing m) n (counter_cell N j) ws b (λ w. let x = w.1 in omega arith)) k

  -- the card is idle: not in line, and outside of a transaction
  module _ (idle : S c ≡ Idle) where
    idle_outside : in_tx (S c) ≡ false
    idle_outside = ap in_tx idle

    not_in_line : In c (cards_of l) → ⊥
    not_in_line i = clash (joined (view (S c)))
        (chain_joined (standing m) (views S) (cards_of l) 0 h.kept.line.chain c i)
        (ap (λ (x : Stage). joined (view x)) idle)

    first_sound : (n : ℕ) (o : Mode) → n < N → Sound N K (first_stage n o)
    first_sound n Read lt = lt
    first_sound n Write lt = lt

    first_out : (n : ℕ) (o : Mode) → in_tx (first_stage n o) ≡ false
    first_out n Read = refl
    first_out n Write = refl

    first_calm : (n : ℕ) (o : Mode) → finishing (first_stage n o) ≡ false
    first_calm n Read = refl
    first_calm n Write = refl

    -- an enter with a free node
    enter_good : (o : Mode) (n : ℕ) → n < N → free s.cards n ≡ true
        → Good z (enter_by s c (first_stage n o) (stores c (entry_stores n o) m)) l q
    enter_good o n lt fr =
        let u = free_unheld s n fr in
        let R = stores_done c S low idle_outside (entry_stores n o)
        (within_below n (entry_stores n o) (let w = W.nodes in omega arith) (entry_within n o))
        m h.kept.cells h.kept.txs h.kept.isolated in
        let D = R.0 in
        let g = first_stage n o in
        subst (λ (p : Result (Unit {0}) LockFault × Meaning). Good z (enter_by s c g p) l q) (sym R.1.done) (
          safe_by z (staged s D c g) l q (standing D) (tx_of D) (at S c g) R.1.cells R.1.txs
              (staged_length s D c g h.kept.cards) refl refl (staged_is s D c g h.kept.cards low)
              (restaged (standing D) (tx_of D) S R.1.isolated c g idle_outside (first_out n o))
              (subst (λ (f : ℕ → ℕ). Line f (views (at S c g)) (cards_of l)) (sym R.1.stands)
              (enter_line (standing m) S (cards_of l) c n o idle u h.kept.line))
              (absent_with g) (sound_with g (first_sound n o lt)) (seated_other S c g l not_in_line h.seated)
              (subst (λ (f : ℕ → ℕ). Counted z f (at S c g) q) (sym R.1.stands)
              (counters_stay n lt (entry_stores n o) (entry_within n o) (at S c g)
              (counted_stage z (standing m) S q c g (first_calm n o) h.counted))),
          tt,
        )

    -- a reuse of a free node
    reuse_good : (n : ℕ) (v : NodeValues) → n < N → free s.cards n ≡ true
        → Good z (reuse_by s (stores c (reuse_stores n v) m)) l q
    reuse_good n v lt fr =
        let u = free_unheld s n fr in
        let R = stores_done c S low idle_outside (reuse_stores n v)
        (within_below n (reuse_stores n v) (let w = W.nodes in omega arith) (reuse_within n v))
        m h.kept.cells h.kept.txs h.kept.isolated in
        let D = R.0 in
        subst (λ (p : Result (Unit {0}) LockFault × Meaning). Good z (reuse_by s p) l q) (sym R.1.done) (
          safe_by z (kept s D) l q (standing D) (tx_of D) S R.1.cells R.1.txs h.kept.cards refl refl refl
              R.1.isolated
              (subst (λ (f : ℕ → ℕ). Line f (views S) (cards_of l)) (sym R.1.stands)
              (reuse_line (standing m) S (cards_of l) n v u h.kept.line))
              h.kept.absent h.kept.sound h.seated
              (subst (λ (f : ℕ → ℕ). Counted z f S q) (sym R.1.stands)
              (counters_stay n lt (reuse_stores n v) (reuse_within n v) S h.counted)),
          tt,
        )

  -- a node that has to be there and free
  on_free_good : (n : ℕ) (t : Turn) → (n < N → free s.cards n ≡ true → Good z t l q) → Good z (on_free z s n t) l q
  on_free_good n t f = go (ltb n N) (free s.cards n) refl refl
    where
      go : (a b : Bool) → ltb n N ≡ a → free s.cards n ≡ b
          → Good z (cond a (cond b t (refuses s NotFree)) (refuses s NoPlace)) l q
      go true true x y = f (ltb-true n N x) y
      go true false x y = (h, λ e. omega arith)
      go false b x y = (h, λ e. omega arith)

  -- a counter that has to be there
  on_counter_good : (k : ℕ) (t : Turn) → (k < K → Good z t l q) → Good z (cond (ltb k K) t (refuses s NoPlace)) l q
  on_counter_good k t f = go (ltb k K) refl
    where
      go : (a : Bool) → ltb k K ≡ a → Good z (cond a t (refuses s NoPlace)) l q
      go true x = f (ltb-true k K x)
      go false x = (h, λ e. omega arith)

  -- a card that there is
  of_card_good : (t : Turn) → Good z t l q → Good z (of_card z s c t) l q
  of_card_good t g = go (ltb c z.cards)
    where
      go : (b : Bool) → Good z (cond b t (refuses s NoCard)) l q
      go true = g
      go false = (h, λ e. omega arith)

  -- what is not allowed changes nothing
  not_allowed : Good z (refuses s NotAllowed) l q
  not_allowed = (h, λ e. omega arith)

  enter_at_good : (o : Mode) (n : ℕ) (g : Stage) → S c ≡ g → Good z (enter_at z s c o n g) l q
  enter_at_good o n Idle e = on_free_good n (enter_by s c (first_stage n o) (stores c (entry_stores n o) m))
      (enter_good e o n)
  enter_at_good o n (WriterEnters k at) e = not_allowed
  enter_at_good o n (ReaderEnters k at) e = not_allowed
  enter_at_good o n (Inside k j) e = not_allowed
  enter_at_good o n (Adds k at) e = not_allowed
  enter_at_good o n (WriterLeaves k at) e = not_allowed
  enter_at_good o n (ReaderLeaves k at) e = not_allowed

  reuse_at_good : (n : ℕ) (v : NodeValues) (g : Stage) → S c ≡ g → Good z (reuse_at z s c n v g) l q
  reuse_at_good n v Idle e = on_free_good n (reuse_by s (stores c (reuse_stores n v) m)) (reuse_good e n v)
  reuse_at_good n v (WriterEnters k at) e = not_allowed
  reuse_at_good n v (ReaderEnters k at) e = not_allowed
  reuse_at_good n v (Inside k j) e = not_allowed
  reuse_at_good n v (Adds k at) e = not_allowed
  reuse_at_good n v (WriterLeaves k at) e = not_allowed
  reuse_at_good n v (ReaderLeaves k at) e = not_allowed

  inside_good : (k : ℕ → Mode → Turn) → ((n : ℕ) (o : Mode) → S c ≡ Inside n o → Good z (k n o) l q)
      → (g : Stage) → S c ≡ g → Good z (inside_by s k g) l q
  inside_good k f Idle e = not_allowed
  inside_good k f (WriterEnters n at) e = not_allowed
  inside_good k f (ReaderEnters n at) e = not_allowed
  inside_good k f (Inside n o) e = f n o e
  inside_good k f (Adds n at) e = not_allowed
  inside_good k f (WriterLeaves n at) e = not_allowed
  inside_good k f (ReaderLeaves n at) e = not_allowed

  -- the node of a card inside is one of the board's
  inside_node : (n : ℕ) (o : Mode) → S c ≡ Inside n o → n < N
  inside_node n Read e = subst (Sound N K) e (h.kept.sound c)
  inside_node n Write e = subst (Sound N K) e (h.kept.sound c)

  inside_out : (n : ℕ) (o : Mode) → S c ≡ Inside n o → in_tx (S c) ≡ false
  inside_out n Read e = ap in_tx e
  inside_out n Write e = ap in_tx e

  leave_good : (n : ℕ) (o : Mode) → S c ≡ Inside n o → Good z (leave_at s c n o) l q
  leave_good n Read e = (
    restage_safe (ReaderLeaves n Y1) (inside_out n Read e) refl (sym (ap view e))
        (inside_node n Read e) refl,
    tt,
  )
  leave_good n Write e = (
    restage_safe (WriterLeaves n X1) (inside_out n Write e) refl (sym (ap view e))
        (inside_node n Write e) refl,
    tt,
  )

  add_good : (k a n : ℕ) (o : Mode) → S c ≡ Inside n o → Good z (add_at z s c k a n o) l q
  add_good k a n Read e = not_allowed
  add_good k a n Write e = on_counter_good k (Ok Done, staged s m c (Adds n (A1 k a)))
      (λ lt. (
        restage_safe (Adds n (A1 k a)) (inside_out n Write e) refl (sym (ap view e))
            (inside_node n Write e, lt) refl,
        tt,
      ))

  show_good : (k n : ℕ) (o : Mode) → S c ≡ Inside n o → Good z (show_at z s c k n o) l q
  show_good k n o e =
      let O = performed m (memory-call.Load c (counter_cell N k)) in
      on_counter_good k (count_by s O.answer O.after)
      (λ lt. let a = W.nodes in let b = W.counters in load_good (counter_cell N k) (omega arith) (inside_out n o e))

  -- what the lock does on a request
  pub served_good : (w : Request) → Good z (served z s c w) l q
  served_good (Enter o n) = of_card_good (enter_at z s c o n (S c)) (enter_at_good o n (S c) refl)
  served_good Leave = of_card_good (inside_by s (leave_at s c) (S c)) (inside_good (leave_at s c) leave_good (S c) refl)
  served_good (Add k a) = of_card_good (inside_by s (add_at z s c k a) (S c))
      (inside_good (add_at z s c k a) (add_good k a) (S c) refl)
  served_good (Show k) = of_card_good (inside_by s (show_at z s c k) (S c))
      (inside_good (show_at z s c k) (show_good k) (S c) refl)

-- Every call of the board, on sizes within the ranges.
module _ (z : Size) (W : Within z) where
  -- a call of a card that is not there changes nothing
  of_card_keeps : (s : LockState) (l : List Place) (q : List Sum) → Safe z s l q → (c : ℕ) (t : Turn)
      → (c < z.cards → Good z t l q) → Good z (of_card z s c t) l q
  of_card_keeps s l q h c t f = go (ltb c z.cards) refl
    where
      go : (b : Bool) → ltb c z.cards ≡ b → Good z (cond b t (refuses s NoCard)) l q
      go true e = f (ltb-true c z.cards e)
      go false e = (h, λ x. omega arith)

  -- a step, with its deed in the book
  pub step_keeps : (s : LockState) (l : List Place) (q : List Sum) → Safe z s l q → (c : ℕ)
      → Good z (stepped z s c) (lined c (step_deed z s c) l) (summed c (step_deed z s c) q)
  step_keeps s l q h c = go (ltb c z.cards) refl
    where
      o : Option MemoryCall
      o = call_of z.nodes c (stage_of s c)

      go : (b : Bool) → ltb c z.cards ≡ b
          → Good z (cond b (step_by s c (call_of z.nodes c (stage_of s c))) (refuses s NoCard))
          (lined c (cond b (deed_by s.meaning (stage_of s c) (call_of z.nodes c (stage_of s c))) plain) l)
          (summed c (cond b (deed_by s.meaning (stage_of s c) (call_of z.nodes c (stage_of s c))) plain) q)
      go true e = step_good z W s l q h c (ltb-true c z.cards e) (call_of z.nodes c (stage_of s c)) refl
      go false e = (h, λ x. omega arith)

  pub abort_keeps : (s : LockState) (l : List Place) (q : List Sum) → Safe z s l q → (c : ℕ)
      → Good z (aborted z s c) l q
  abort_keeps s l q h c = of_card_keeps s l q h c (abort_by s c (call_of z.nodes c (stage_of s c)))
      (λ lt. abort_good z W s l q h c lt (call_of z.nodes c (stage_of s c)) refl)

  pub reuse_keeps : (s : LockState) (l : List Place) (q : List Sum) → Safe z s l q → (c n : ℕ) (v : NodeValues)
      → Good z (reused z s c n v) l q
  reuse_keeps s l q h c n v = of_card_keeps s l q h c (reuse_at z s c n v (stage_of s c))
      (λ lt. reuse_at_good z W s l q h c lt n v (stage_of s c) refl)
