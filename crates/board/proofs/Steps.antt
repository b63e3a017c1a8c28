-- A step of a card keeps the line.
use Rattle.std.proofs.Common.{◌≡◌, ℕ, zero, suc, Bool, true, false, cond, eqb, ◌⊎◌, List, [], ◌∷◌, ◌++◌, Some, None}
use Rattle.std.proofs.Common.{Ok, Err, Option, Result, sym, refl, ap, ◌∙◌, subst, inl, inr, arith}
use mathlib.Core.Path.{fun_ext}
use Rattle.std.proofs.lemmas.Bool.{cases_eq, eq-eqb, ne_eqb}
use Rattle.memory.specs.declared.write.Write.{Write}
use Rattle.memory.specs.declared.fault.MemoryFault.{MemoryFault}
use Rattle.memory.specs.declared.fault.Refusal.{Refusal}
use Rattle.memory.specs.declared.fault.Refusal.TheVariants.{OutOfRange, Already, NoTransaction, Doomed, Full}
use Rattle.memory.specs.declared.call.MemoryCall.{MemoryCall}
use Rattle.memory.specs.declared.call.MemoryCall.TheVariants as call
use Rattle.memory.specs.Meaning.{Tx, none, live, doomed, value_in, marking, recording}
use Rattle.stages.specs.declared.stage.Mode.TheVariants as mode
use Rattle.stages.specs.declared.stage.WriterEntry.TheVariants.{W1, W2, W3, W4, W5, W6}
use Rattle.stages.specs.declared.stage.ReaderEntry.TheVariants.{R1, R2, R3, R4, R5, R6, R7}
use Rattle.stages.specs.declared.stage.ReaderEntry.TheVariants.{R8, R9, R10, R11, R12, R13, R14}
use Rattle.stages.specs.declared.stage.Addition.TheVariants.{A1, A2}
use Rattle.stages.specs.declared.stage.WriterExit.TheVariants.{X1, X2, X3, X4, X5}
use Rattle.stages.specs.declared.stage.ReaderExit.TheVariants.{Y1, Y2, Y3, Y4, Y5, Y6, Y7, Y8}
use Rattle.stages.specs.declared.stage.Stage.{Stage}
use Rattle.stages.specs.declared.stage.Stage.TheVariants.{Idle, WriterEnters, ReaderEnters, Inside}
use Rattle.stages.specs.declared.stage.Stage.TheVariants.{Adds, WriterLeaves, ReaderLeaves}
use Rattle.stages.specs.Layout.{counter_cell}
use Rattle.stages.specs.Rows.{call_of, begin_of, capped}
use Rattle.lock.specs.Lock.{goes, returns_by, advanced}
use Rattle.board.specs.Book.{Deed, plain, deed, accepted}
use Rattle.board.proofs.Cells.{at, at_other, at_all, clash, next, prev, state, spin}
use Rattle.board.proofs.Views.{View, view, waits_w, waits_r, holds_w, turn_r, hands}
use Rattle.board.proofs.Views.{node, link, Cells}
use Rattle.board.proofs.Chain.{Line, Like, like_line, without}
use Rattle.board.proofs.Held.{reads, writes, in_tx, Valid, Agrees}
use Rattle.board.proofs.Sound.{Sound}
use Rattle.board.proofs.Model.{Out, seen, seen_on, value_seen, mark_seen}
use Rattle.board.proofs.Model.{record_seen, commit_seen, lands, lined_cards}
use Rattle.board.proofs.Moves.{joined_link, cells_frame, seat_frame, front_frame, nodes_at}
use Rattle.board.proofs.Moves.{hand_line, wake_line, woken, lit}
use Rattle.board.proofs.Moves.{see_line_wakes, see_line_in, lit_line_in, lit_line_sees}
use Rattle.board.proofs.Links.{views, view_at, view_begin, sound_link}
use Rattle.board.proofs.Commits.{join_w_first, join_w_next, join_r_first, join_r_turn, join_r_wait, joined_r}
use Rattle.board.proofs.Commits.{out_w_only, out_w_first, out_r_only, out_r_last, out_r_mid, out_r_hands, out_r_idle}

-- a card seen as it was
pub at_stay : (V : ℕ → View) (c : ℕ) (u : View) → u ≡ V c → at V c u ≡ V
at_stay V c u e = fun_ext (at_all (λ (d : ℕ) (v : View). v ≡ V d) V c u e (λ d _. refl))

-- a card is as it was
pub like_refl : (f : ℕ → ℕ) (v : View) → Like f f v v
like_refl f v = record {
  holds = refl;
  joins = refl;
  seat = λ _. seat_frame f f v (λ _. refl) refl;
  front = λ _. front_frame f f v refl;
}

-- the four cells of a node stand as they did
abbrev pub SameNode : (ℕ → ℕ) → (ℕ → ℕ) → ℕ → Type 0
SameNode f g n = (g (next n) ≡ f (next n)) × (g (prev n) ≡ f (prev n)) × (g (state n) ≡ f (state n))
    × (g (spin n) ≡ f (spin n))

-- the tail and the cells of all nodes that cards have stand as they did
pub frame_line : (f g : ℕ → ℕ) (V : ℕ → View) (l : List ℕ) → g 0 ≡ f 0
    → ((d : ℕ) → link (V d) ≡ suc (node (V d)) → SameNode f g (node (V d))) → Line f V l → Line g V l
frame_line f g V l t k I = like_line f g V V l
    (λ d. record {
      holds = refl;
      joins = refl;
      seat = λ j. let q = k d (joined_link (V d) j) in seat_frame f g (V d) (λ _. q.1) q.3;
      front = λ j. front_frame f g (V d) (k d (joined_link (V d) j)).0;
    })
    t I.nodes
    (λ d. cells_frame f g (V d) (λ q. (k d q).2) (λ q _. (k d q).3) (λ q _. (k d q).0) (λ q _. (k d q).1) (I.cells d)) I

-- a card that has seen its spin at 0 goes on
regrade : (f : ℕ → ℕ) (V : ℕ → View) (l : List ℕ) (c : ℕ) (u : View)
    → Like f f (V c) u → link u ≡ link (V c) → Cells f u → Line f V l → Line f (at V c u) l
regrade f V l c u L e k I = like_line f f V (at V c u) l
    (at_all (λ (d : ℕ) (x : View). Like f f (V d) x) V c u L (λ d _. like_refl f (V d)))
    refl (nodes_at V c u (inl e) I.nodes)
    (at_all (λ (d : ℕ) (x : View). Cells f x) V c u k (λ d _. I.cells d)) I

-- a call that leaves the standing values alone
abbrev pub Soft : MemoryCall → Type 0
Soft call.Clear = ⊥
Soft (call.Look a) = Unit {0}
Soft (call.Load c a) = Unit {0}
Soft (call.Store c a v) = ⊥
Soft (call.Begin c) = Unit {0}
Soft (call.Read c a) = Unit {0}
Soft (call.Write c a v) = Unit {0}
Soft (call.Commit c) = ⊥
Soft (call.Drop c) = Unit {0}

-- a read that marks changes no cell
soft_mark : (c a : ℕ) (f : ℕ → ℕ) (t : ℕ → Tx) (w : List Write) (o : Option (List ℕ))
    → (mark_seen c a f t w o).cell ≡ f
soft_mark c a f t w (Some r) = refl
soft_mark c a f t w None = refl

-- a read changes no cell
soft_value : (c a : ℕ) (f : ℕ → ℕ) (t : ℕ → Tx) (r : List ℕ) (w : List Write) (o : Option ℕ)
    → (value_seen c a f t r w o).cell ≡ f
soft_value c a f t r w (Some v) = refl
soft_value c a f t r w None = soft_mark c a f t w (marking r a)

-- a write changes no standing cell
soft_record : (c a : ℕ) (f : ℕ → ℕ) (t : ℕ → Tx) (r : List ℕ) (o : Option (List Write))
    → (record_seen c a f t r o).cell ≡ f
soft_record c a f t r (Some w) = refl
soft_record c a f t r None = refl

-- so does each call but a store and a commit
pub soft_cell : (k : MemoryCall) (f : ℕ → ℕ) (t : ℕ → Tx) (x : Tx) → Soft k → (seen_on k f t x).cell ≡ f
soft_cell call.Clear f t x h = absurd h
soft_cell (call.Look a) f t x h = refl
soft_cell (call.Load c a) f t none h = refl
soft_cell (call.Load c a) f t (live r w) h = refl
soft_cell (call.Load c a) f t doomed h = refl
soft_cell (call.Store c a v) f t x h = absurd h
soft_cell (call.Begin c) f t none h = refl
soft_cell (call.Begin c) f t (live r w) h = refl
soft_cell (call.Begin c) f t doomed h = refl
soft_cell (call.Read c a) f t none h = refl
soft_cell (call.Read c a) f t (live r w) h = soft_value c a f t r w (value_in w a)
soft_cell (call.Read c a) f t doomed h = refl
soft_cell (call.Write c a v) f t none h = refl
soft_cell (call.Write c a v) f t (live r w) h = soft_record c a f t r (recording w a v)
soft_cell (call.Write c a v) f t doomed h = refl
soft_cell (call.Commit c) f t x h = absurd h
soft_cell (call.Drop c) f t none h = refl
soft_cell (call.Drop c) f t (live r w) h = refl
soft_cell (call.Drop c) f t doomed h = refl

-- a plain deed keeps the line
lined_plain : (c : ℕ) (m : Deed) (b : Bool) (l : List ℕ) → m ≡ plain → lined_cards c (cond b m plain) l ≡ l
lined_plain c m true l e = rw e
lined_plain c m false l e = refl

-- where every accepted answer leaves the view, every answer does
view_advanced : (s : Stage) (r : Result ℕ MemoryFault)
    → ((v : ℕ) → view (goes s v).0 ≡ view s) → view (advanced s r).0 ≡ view s
view_advanced s (Ok v) h = h v
view_advanced s (Err f) h = go f.refusal
  where
    go : (r : Refusal) → view (returns_by s f r).0 ≡ view s
    go OutOfRange = refl
    go Already = refl
    go NoTransaction = refl
    go Doomed = view_begin s
    go Full = refl

-- the rows of a card c
module _ (N K : ℕ) (f : ℕ → ℕ) (t : ℕ → Tx) (S : ℕ → Stage) (l : List ℕ) (L : Line f (views S) l)
    (sound : (d : ℕ) → Sound N K (S d)) (c : ℕ) where
  -- the line after a call of card c at stage s
  abbrev pub After : Stage → Out → Type 0
  After s o = Line o.cell (views (at S c (advanced s o.answer).0))
      (lined_cards c (cond (accepted o.answer) (deed s) plain) l)

  -- the new view of card c is that of the stage s
  to : (g : ℕ → ℕ) (s : Stage) (k : List ℕ) → Line g (at (views S) c (view s)) k → Line g (views (at S c s)) k
  to g s k h = subst (λ (W : ℕ → View). Line g W k) (sym (view_at S c s)) h

  -- card c is seen as before
  stay : (s : Stage) → view s ≡ view (S c) → Line f (views (at S c s)) l
  stay s e = to f s l (subst (λ (W : ℕ → View). Line f W l) (sym (at_stay (views S) c (view s) e)) L)

  -- a row that the line does not see
  soft : (s : Stage) → ((v : ℕ) → view (goes s v).0 ≡ view s) → deed s ≡ plain → s ≡ S c
      → (k : MemoryCall) → Soft k → (x : Tx) → After s (seen_on k f t x)
  soft s q m e k h x = let o = seen_on k f t x in let u = (advanced s o.answer).0 in
      subst (λ (g : ℕ → ℕ). Line g (views (at S c u)) (lined_cards c (cond (accepted o.answer) (deed s) plain) l))
      (sym (soft_cell k f t x h))
      (subst (λ (z : List ℕ). Line f (views (at S c u)) z) (sym (lined_plain c (deed s) (accepted o.answer) l m))
      (stay u (view_advanced s o.answer q ∙ ap view e)))

  -- a commit, where an open transaction holds what its stage says
  commits : (s : Stage) → in_tx s ≡ true → s ≡ S c
      → (Valid f (reads s) → Line (lands (writes s) f) (at (views S) c (view (goes s 0).0)) (lined_cards c (deed s) l))
      → (x : Tx) → Agrees f s x → After s (commit_seen c f t x)
  commits s i e main none k = clash (in_tx s) i k
  commits s i e main doomed k = stay (begin_of s) (view_begin s ∙ ap view e)
  commits s i e main (live r w) k =
      subst (λ (w : List Write). Line (lands w f) (views (at S c (goes s 0).0)) (lined_cards c (deed s) l))
      (sym k.2)
      (to (lands (writes s) f) (goes s 0).0 (lined_cards c (deed s) l) (main k.3))

  -- a load outside of a transaction
  loads : (s : Stage) (a : ℕ) → in_tx s ≡ false
      → Line f (views (at S c (goes s (f a)).0)) (lined_cards c (deed s) l)
      → (x : Tx) → Agrees f s x → After s (seen_on (call.Load c a) f t x)
  loads s a i main none k = main
  loads s a i main doomed k = clash (in_tx s) k i
  loads s a i main (live r w) k = clash (in_tx s) k.0 i

  -- a store outside of a transaction
  stores : (s : Stage) (a v : ℕ) → in_tx s ≡ false
      → Line (at f a v) (views (at S c (goes s 0).0)) (lined_cards c (deed s) l)
      → (x : Tx) → Agrees f s x → After s (seen_on (call.Store c a v) f t x)
  stores s a v i main none k = main
  stores s a v i main doomed k = clash (in_tx s) k i
  stores s a v i main (live r w) k = clash (in_tx s) k.0 i

  step_w5 : (n p : ℕ) → WriterEnters n (W5 p) ≡ S c → (x : Tx)
      → Agrees f (WriterEnters n (W5 p)) x → After (WriterEnters n (W5 p)) (commit_seen c f t x)
  step_w5 n zero e = commits (WriterEnters n (W5 zero)) refl e
      (λ h. join_w_first f (views S) l L c n (ap view (sym e)) h.0)
  step_w5 n (suc m) e = commits (WriterEnters n (W5 (suc m))) refl e
      (λ h. join_w_next f (views S) l L c n m (ap view (sym e)) h.0)

  step_r7 : (n p s : ℕ) → ReaderEnters n (R7 p s) ≡ S c → (x : Tx)
      → Agrees f (ReaderEnters n (R7 p s)) x → After (ReaderEnters n (R7 p s)) (commit_seen c f t x)
  unfolding joined_r
  step_r7 n zero s e = commits (ReaderEnters n (R7 zero s)) refl e
      (λ h. join_r_first f (views S) l L c n (ap view (sym e)) h.0)
  step_r7 n (suc m) s e = commits (ReaderEnters n (R7 (suc m) s)) refl e (λ h. pick h (cases_eq s 3))
    where
      pick : Valid f (reads (ReaderEnters n (R7 (suc m) s))) → (s ≡ 3) ⊎ (s ≡ 3 → ⊥)
          → Line (lands (writes (ReaderEnters n (R7 (suc m) s))) f)
          (at (views S) c (view (ReaderEnters n (cond (eqb s 3) R9 R8)))) (l ++ (c ∷ []))
      pick h (inl q) = rw (eq-eqb s 3 q) (join_r_turn f (views S) l L c n m (ap view (sym e)) h.0 (h.1.0 ∙ q))
      pick h (inr q) = rw (ne_eqb s 3 q)
          (join_r_wait f (views S) l L c n m (ap view (sym e)) h.0 (λ z. q (sym h.1.0 ∙ z)))

  step_r12 : (n q : ℕ) → ReaderEnters n (R12 q) ≡ S c → (x : Tx)
      → Agrees f (ReaderEnters n (R12 q)) x → After (ReaderEnters n (R12 q)) (commit_seen c f t x)
  unfolding lit
  step_r12 n zero e = commits (ReaderEnters n (R12 zero)) refl e
      (λ h. lit_line_in f (views S) l L c n (ap view (sym e)) h.0)
  step_r12 n (suc k) e = commits (ReaderEnters n (R12 (suc k))) refl e
      (λ h. lit_line_sees f (views S) l L c n (ap view (sym e)) k h.0)

  step_x4 : (n q : ℕ) → WriterLeaves n (X4 q) ≡ S c → (x : Tx)
      → Agrees f (WriterLeaves n (X4 q)) x → After (WriterLeaves n (X4 q)) (commit_seen c f t x)
  step_x4 n zero e = commits (WriterLeaves n (X4 zero)) refl e
      (λ h. out_w_only f (views S) l L c n (ap view (sym e)) h.0)
  step_x4 n (suc k) e = commits (WriterLeaves n (X4 (suc k))) refl e
      (λ h. out_w_first f (views S) l L c n (ap view (sym e)) k h.0)

  step_y7 : (n p q s : ℕ) → ReaderLeaves n (Y7 p q s) ≡ S c → (x : Tx)
      → Agrees f (ReaderLeaves n (Y7 p q s)) x → After (ReaderLeaves n (Y7 p q s)) (commit_seen c f t x)
  step_y7 n zero zero s e = commits (ReaderLeaves n (Y7 zero zero s)) refl e
      (λ h. out_r_only f (views S) l L c n (ap view (sym e)) 0 h.0 refl h.1.0)
  step_y7 n (suc m) zero s e = commits (ReaderLeaves n (Y7 (suc m) zero s)) refl e
      (λ h. out_r_last f (views S) l L c n (ap view (sym e)) (suc m) h.0 m refl h.1.0)
  step_y7 n (suc m) (suc k) s e = commits (ReaderLeaves n (Y7 (suc m) (suc k) s)) refl e
      (λ h. out_r_mid f (views S) l L c n (ap view (sym e)) (suc m) h.0 m k refl h.1.0)
  step_y7 n zero (suc k) s e = commits (ReaderLeaves n (Y7 zero (suc k) s)) refl e (λ h. pick h (cases_eq s 2))
    where
      pick : Valid f (reads (ReaderLeaves n (Y7 zero (suc k) s))) → (s ≡ 2) ⊎ (s ≡ 2 → ⊥)
          → Line (lands (writes (ReaderLeaves n (Y7 zero (suc k) s))) f)
          (at (views S) c (view (goes (ReaderLeaves n (Y7 zero (suc k) s)) 0).0)) (without c l)
      pick h (inl z) = rw (eq-eqb s 2 z)
          (out_r_hands f (views S) l L c n (ap view (sym e)) 0 h.0 k refl h.1.0 (h.1.1.0 ∙ z))
      pick h (inr z) = rw (ne_eqb s 2 z)
          (out_r_idle f (views S) l L c n (ap view (sym e)) 0 h.0 k refl h.1.0 (λ y. z (sym h.1.1.0 ∙ y)))

  -- a waiting card looks at its spin
  goes_on : (v u : View) → v ≡ view (S c) → Like f f v u → link u ≡ link v → Cells f u → Line f (at (views S) c u) l
  goes_on v u e like lu k = regrade f (views S) l c u (subst (λ (z : View). Like f f z u) e like)
      (lu ∙ ap link e) k L

  step_w6 : (n : ℕ) → WriterEnters n W6 ≡ S c → (x : Tx)
      → Agrees f (WriterEnters n W6) x → After (WriterEnters n W6) (seen_on (call.Load c (spin n)) f t x)
  step_w6 n e = loads (WriterEnters n W6) (spin n) refl (look (f (spin n)) refl)
    where
      like : f (spin n) ≡ 0 → Like f f (waits_w n) (holds_w n)
      like h = record {
        holds = refl;
        joins = refl;
        seat = λ _. record
            { joins = refl; links = refl; reads = refl; grants = sym (eq-eqb (f (spin n)) 0 h); prevs = λ _. refl };
        front = λ _. record
            { link_is = refl; active_is = refl; target_is = refl; waking_is = refl; next_is = inr refl };
      }

      look : (v : ℕ) → f (spin n) ≡ v → Line f (views (at S c (goes (WriterEnters n W6) v).0)) l
      look (suc v) h = stay (WriterEnters n W6) (ap view e)
      look zero h = to f (Inside n mode.Write) l
          (goes_on (waits_w n) (holds_w n) (ap view e) (like h) refl (subst (Cells f) (sym (ap view e)) (L.cells c)))

  step_r8 : (n : ℕ) → ReaderEnters n R8 ≡ S c → (x : Tx)
      → Agrees f (ReaderEnters n R8) x → After (ReaderEnters n R8) (seen_on (call.Load c (spin n)) f t x)
  step_r8 n e = loads (ReaderEnters n R8) (spin n) refl (look (f (spin n)) refl)
    where
      like : f (spin n) ≡ 0 → Like f f (waits_r n) (turn_r n)
      like h = record {
        holds = refl;
        joins = refl;
        seat = λ _. record
            { joins = refl; links = refl; reads = refl; grants = sym (eq-eqb (f (spin n)) 0 h); prevs = λ _. refl };
        front = λ _. record
            { link_is = refl; active_is = refl; target_is = refl; waking_is = refl; next_is = inr refl };
      }

      look : (v : ℕ) → f (spin n) ≡ v → Line f (views (at S c (goes (ReaderEnters n R8) v).0)) l
      look (suc v) h = stay (ReaderEnters n R8) (ap view e)
      look zero h = to f (ReaderEnters n R9) l
          (goes_on (waits_r n) (turn_r n) (ap view e) (like h) refl (subst (Cells f) (sym (ap view e)) (L.cells c)))

  step_r13 : (n m : ℕ) → ReaderEnters n (R13 (suc m)) ≡ S c → (x : Tx) → Agrees f (ReaderEnters n (R13 (suc m))) x
      → After (ReaderEnters n (R13 (suc m))) (seen_on (call.Load c (state m)) f t x)
  step_r13 n m e = loads (ReaderEnters n (R13 (suc m))) (state m) refl (pick (cases_eq (f (state m)) 1))
    where
      pick : (f (state m) ≡ 1) ⊎ (f (state m) ≡ 1 → ⊥)
          → Line f (views (at S c (goes (ReaderEnters n (R13 (suc m))) (f (state m))).0)) l
      pick (inl h) = rw (eq-eqb (f (state m)) 1 h)
          (to f (ReaderEnters n (R14 (suc m))) l (see_line_wakes f (views S) l L c n m (ap view (sym e)) h))
      pick (inr h) = rw (ne_eqb (f (state m)) 1 h)
          (to f (Inside n mode.Read) l (see_line_in f (views S) l L c n m (ap view (sym e)) h))

  step_r14 : (n m : ℕ) → ReaderEnters n (R14 (suc m)) ≡ S c → (x : Tx) → Agrees f (ReaderEnters n (R14 (suc m))) x
      → After (ReaderEnters n (R14 (suc m))) (seen_on (call.Store c (spin m) 0) f t x)
  unfolding woken
  step_r14 n m e = stores (ReaderEnters n (R14 (suc m))) (spin m) 0 refl
      (to (at f (spin m) 0) (Inside n mode.Read) l (wake_line f (views S) l L c n m (ap view (sym e))))

  -- a card that has left wakes the first in line
  hands_on : (n m : ℕ) → hands n (suc m) ≡ view (S c) → Line (at f (spin m) 0) (views (at S c Idle)) l
  unfolding woken
  hands_on n m e = to (at f (spin m) 0) Idle l (hand_line f (views S) l L c n m (sym e))

  -- a counter lies behind all nodes
  step_a2 : (n j y v : ℕ) → Adds n (A2 j y v) ≡ S c → (x : Tx)
      → Agrees f (Adds n (A2 j y v)) x
      → After (Adds n (A2 j y v)) (seen_on (call.Store c (counter_cell N j) (capped v y)) f t x)
  step_a2 n j y v e = let z = counter_cell N j in let g : ℕ → ℕ = at f z (capped v y) in
      stores (Adds n (A2 j y v)) z (capped v y) refl
      (to g (Inside n mode.Write) l
      (subst (λ (W : ℕ → View). Line g W l) (sym (at_stay (views S) c (holds_w n) (ap view e)))
      (frame_line f g (views S) l (at_other f z (capped v y) 0 (omega arith)) kept L)))
    where
      kept : (d : ℕ) → link (view (S d)) ≡ suc (node (view (S d)))
          → SameNode f (at f (counter_cell N j) (capped v y)) (node (view (S d)))
      kept d q = let h = sound_link N K (S d) (sound d) in let w = capped v y in let k = node (view (S d)) in
          let z = counter_cell N j in (
            at_other f z w (next k) (omega arith),
            at_other f z w (prev k) (omega arith),
            at_other f z w (state k) (omega arith),
            at_other f z w (spin k) (omega arith),
          )

  -- the line after a step, by the row's call
  abbrev pub AfterCall : Stage → Tx → Option MemoryCall → Type 0
  AfterCall s x None = Unit {0}
  AfterCall s x (Some k) = After s (seen_on k f t x)

  -- the same by cases of the call: nothing is said of a stage without one
  pub step_on : (s : Stage) → s ≡ S c → Sound N K s → (x : Tx) → Agrees f s x → AfterCall s x (call_of N c s)
  step_on Idle e h x k = tt
  step_on (WriterEnters n W1) e h x k = soft (WriterEnters n W1) (λ v. refl) refl e (call.Begin c) tt x
  step_on (WriterEnters n W2) e h x k = soft (WriterEnters n W2) (λ v. refl) refl e (call.Read c 0) tt x
  step_on (WriterEnters n (W3 zero)) e h x k =
      soft (WriterEnters n (W3 zero)) (λ v. refl) refl e (call.Write c 0 (suc n)) tt x
  step_on (WriterEnters n (W3 (suc m))) e h x k =
      soft (WriterEnters n (W3 (suc m))) (λ v. refl) refl e (call.Write c 0 (suc n)) tt x
  step_on (WriterEnters n (W4 zero)) e h x k = absurd h.1
  step_on (WriterEnters n (W4 (suc m))) e h x k =
      soft (WriterEnters n (W4 (suc m))) (λ v. refl) refl e (call.Write c (next m) (suc n)) tt x
  step_on (WriterEnters n (W5 p)) e h x k = step_w5 n p e x k
  step_on (WriterEnters n W6) e h x k = step_w6 n e x k
  step_on (ReaderEnters n R1) e h x k = soft (ReaderEnters n R1) (λ v. refl) refl e (call.Begin c) tt x
  step_on (ReaderEnters n R2) e h x k = soft (ReaderEnters n R2) (λ v. refl) refl e (call.Read c 0) tt x
  step_on (ReaderEnters n (R3 zero)) e h x k =
      soft (ReaderEnters n (R3 zero)) (λ v. refl) refl e (call.Write c 0 (suc n)) tt x
  step_on (ReaderEnters n (R3 (suc m))) e h x k =
      soft (ReaderEnters n (R3 (suc m))) (λ v. refl) refl e (call.Write c 0 (suc n)) tt x
  step_on (ReaderEnters n (R4 p)) e h x k =
      soft (ReaderEnters n (R4 p)) (λ v. refl) refl e (call.Write c (prev n) p) tt x
  step_on (ReaderEnters n (R5 zero)) e h x k = absurd h.1
  step_on (ReaderEnters n (R5 (suc m))) e h x k =
      soft (ReaderEnters n (R5 (suc m))) (λ v. refl) refl e (call.Write c (next m) (suc n)) tt x
  step_on (ReaderEnters n (R6 zero)) e h x k = absurd h.1
  step_on (ReaderEnters n (R6 (suc m))) e h x k =
      soft (ReaderEnters n (R6 (suc m))) (λ v. refl) refl e (call.Read c (state m)) tt x
  step_on (ReaderEnters n (R7 p s)) e h x k = step_r7 n p s e x k
  step_on (ReaderEnters n R8) e h x k = step_r8 n e x k
  step_on (ReaderEnters n R9) e h x k = soft (ReaderEnters n R9) (λ v. refl) refl e (call.Begin c) tt x
  step_on (ReaderEnters n R10) e h x k = soft (ReaderEnters n R10) (λ v. refl) refl e (call.Write c (state n) 3) tt x
  step_on (ReaderEnters n R11) e h x k = soft (ReaderEnters n R11) (λ v. refl) refl e (call.Read c (next n)) tt x
  step_on (ReaderEnters n (R12 q)) e h x k = step_r12 n q e x k
  step_on (ReaderEnters n (R13 zero)) e h x k = absurd h.1
  step_on (ReaderEnters n (R13 (suc m))) e h x k = step_r13 n m e x k
  step_on (ReaderEnters n (R14 zero)) e h x k = absurd h.1
  step_on (ReaderEnters n (R14 (suc m))) e h x k = step_r14 n m e x k
  step_on (Inside n mode.Write) e h x k = tt
  step_on (Inside n mode.Read) e h x k = tt
  step_on (Adds n (A1 j y)) e h x k = soft (Adds n (A1 j y)) (λ v. refl) refl e (call.Load c (counter_cell N j)) tt x
  step_on (Adds n (A2 j y v)) e h x k = step_a2 n j y v e x k
  step_on (WriterLeaves n X1) e h x k = soft (WriterLeaves n X1) (λ v. refl) refl e (call.Begin c) tt x
  step_on (WriterLeaves n X2) e h x k = soft (WriterLeaves n X2) (λ v. refl) refl e (call.Read c (next n)) tt x
  step_on (WriterLeaves n (X3 zero)) e h x k =
      soft (WriterLeaves n (X3 zero)) (λ v. refl) refl e (call.Write c 0 0) tt x
  step_on (WriterLeaves n (X3 (suc m))) e h x k =
      soft (WriterLeaves n (X3 (suc m))) (λ v. refl) refl e (call.Write c (prev m) 0) tt x
  step_on (WriterLeaves n (X4 q)) e h x k = step_x4 n q e x k
  step_on (WriterLeaves n (X5 zero)) e h x k = absurd h.1
  step_on (WriterLeaves n (X5 (suc m))) e h x k =
      stores (WriterLeaves n (X5 (suc m))) (spin m) 0 refl (hands_on n m (ap view e)) x k
  step_on (ReaderLeaves n Y1) e h x k = soft (ReaderLeaves n Y1) (λ v. refl) refl e (call.Begin c) tt x
  step_on (ReaderLeaves n Y2) e h x k = soft (ReaderLeaves n Y2) (λ v. refl) refl e (call.Read c (prev n)) tt x
  step_on (ReaderLeaves n (Y3 zero)) e h x k =
      soft (ReaderLeaves n (Y3 zero)) (λ v. refl) refl e (call.Read c (next n)) tt x
  step_on (ReaderLeaves n (Y3 (suc m))) e h x k =
      soft (ReaderLeaves n (Y3 (suc m))) (λ v. refl) refl e (call.Read c (next n)) tt x
  step_on (ReaderLeaves n (Y4 zero q)) e h x k = absurd h.1
  step_on (ReaderLeaves n (Y4 (suc m) q)) e h x k =
      soft (ReaderLeaves n (Y4 (suc m) q)) (λ v. refl) refl e (call.Write c (next m) q) tt x
  step_on (ReaderLeaves n (Y5 zero zero)) e h x k =
      soft (ReaderLeaves n (Y5 zero zero)) (λ v. refl) refl e (call.Write c 0 0) tt x
  step_on (ReaderLeaves n (Y5 (suc m) zero)) e h x k =
      soft (ReaderLeaves n (Y5 (suc m) zero)) (λ v. refl) refl e (call.Write c 0 (suc m)) tt x
  step_on (ReaderLeaves n (Y5 zero (suc j))) e h x k =
      soft (ReaderLeaves n (Y5 zero (suc j))) (λ v. refl) refl e (call.Write c (prev j) 0) tt x
  step_on (ReaderLeaves n (Y5 (suc m) (suc j))) e h x k =
      soft (ReaderLeaves n (Y5 (suc m) (suc j))) (λ v. refl) refl e (call.Write c (prev j) (suc m)) tt x
  step_on (ReaderLeaves n (Y6 p zero)) e h x k = absurd h.2
  step_on (ReaderLeaves n (Y6 p (suc j))) e h x k =
      soft (ReaderLeaves n (Y6 p (suc j))) (λ v. refl) refl e (call.Read c (state j)) tt x
  step_on (ReaderLeaves n (Y7 p q s)) e h x k = step_y7 n p q s e x k
  step_on (ReaderLeaves n (Y8 zero)) e h x k = absurd h.1
  step_on (ReaderLeaves n (Y8 (suc m))) e h x k =
      stores (ReaderLeaves n (Y8 (suc m))) (spin m) 0 refl (hands_on n m (ap view e)) x k

-- a step keeps the line, by the row's call k
pub step_line : (c N K : ℕ) (f : ℕ → ℕ) (t : ℕ → Tx) (S : ℕ → Stage) (l : List ℕ) (k : MemoryCall)
    → call_of N c (S c) ≡ Some k → Line f (views S) l → ((d : ℕ) → Sound N K (S d)) → Agrees f (S c) (t c)
    → Line (seen c k f t).cell (views (at S c (advanced (S c) (seen c k f t).answer).0))
    (lined_cards c (cond (accepted (seen c k f t).answer) (deed (S c)) plain) l)
step_line c N K f t S l k q L sound a =
    subst (AfterCall N K f t S l L sound c (S c) (t c)) q
    (step_on N K f t S l L sound c (S c) refl (sound c) (t c) a)
