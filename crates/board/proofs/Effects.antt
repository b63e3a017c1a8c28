-- Which cells a step changes.
use Rattle.std.proofs.Common.{◌≡◌, ℕ, zero, suc, ◌+◌, ◌*◌, ◌<◌, ◌≤◌, true, ◌⊎◌, List, [], ◌∷◌, Some, None, Option}
use Rattle.std.proofs.Common.{sym, refl, ap, ◌∙◌, subst, inl, inr, ⊎_elim, arith}
use Rattle.std.proofs.lemmas.Bool.{cases_eq}
use Rattle.memory.specs.declared.write.Write.{Write}
use Rattle.memory.specs.declared.call.MemoryCall.{MemoryCall}
use Rattle.memory.specs.declared.call.MemoryCall.TheVariants as call
use Rattle.memory.specs.Meaning.{Tx, none, live, doomed}
use Rattle.stages.specs.declared.layout.Field.{Field}
use Rattle.stages.specs.declared.layout.Field.TheVariants.{Next, Prev, State, Spin}
use Rattle.stages.specs.declared.stage.Mode.TheVariants as mode
use Rattle.stages.specs.declared.stage.WriterEntry.TheVariants.{W1, W2, W3, W4, W5, W6}
use Rattle.stages.specs.declared.stage.ReaderEntry.TheVariants.{R1, R2, R3, R4, R5, R6, R7}
use Rattle.stages.specs.declared.stage.ReaderEntry.TheVariants.{R8, R9, R10, R11, R12, R13, R14}
use Rattle.stages.specs.declared.stage.Addition.TheVariants.{A1, A2}
use Rattle.stages.specs.declared.stage.WriterExit.TheVariants.{X1, X2, X3, X4, X5}
use Rattle.stages.specs.declared.stage.ReaderExit.TheVariants.{Y1, Y2, Y3, Y4, Y5, Y6, Y7, Y8}
use Rattle.stages.specs.declared.stage.Stage.{Stage}
use Rattle.stages.specs.declared.stage.Stage.TheVariants.{Idle, WriterEnters, ReaderEnters, Inside}
use Rattle.stages.specs.declared.stage.Stage.TheVariants.{Adds, WriterLeaves, ReaderLeaves}
use Rattle.stages.specs.Layout.{cell_of, node_cell, counter_cell}
use Rattle.stages.specs.Rows.{call_of, capped}
use Rattle.board.proofs.Cells.{at, at_other, next, prev, state, spin}
use Rattle.board.proofs.Views.{link_node, View, view, comes_r, holds_w, turn_r, active_r, wakes_r}
use Rattle.board.proofs.Views.{hands, node, link, joined, reader, target}
use Rattle.board.proofs.Chain.{Spot, End, who, Line, chain_end, chain_behind, chain_place}
use Rattle.board.proofs.Held.{reads, writes, Valid, Agrees}
use Rattle.board.proofs.Model.{Out, seen, seen_on, commit_seen, lands}
use Rattle.board.proofs.Moves.{aimed, hand_due, due_card}
use Rattle.board.proofs.Sound.{Sound}
use Rattle.board.proofs.Links.{views, sound_link}
use Rattle.board.proofs.Steps.{Soft, soft_cell}

-- some card has the node m
abbrev pub Taken : (ℕ → View) → ℕ → Type 0
Taken V m = (d : ℕ) × (link (V d) ≡ suc m)

-- a cell of a node that some card has
abbrev pub Owned : (ℕ → View) → ℕ → Type 0
Owned V a = (m : ℕ) × Taken V m × (1 + 4 * m ≤ a) × (a ≤ 4 + 4 * m)

-- a cell that steps may change for the sake of the line: the tail, or one of a node that some card has
abbrev pub Mine : (ℕ → View) → ℕ → Type 0
Mine V a = (a ≡ 0) ⊎ Owned V a

-- the counter's cell of an add that is about to store
abbrev pub AddsTo : ℕ → Stage → ℕ → Type 0
AddsTo N s a = (n : ℕ) × (j : ℕ) × (y : ℕ) × (v : ℕ) × (s ≡ Adds n (A2 j y v)) × (a ≡ counter_cell N j)

abbrev AllMine : (ℕ → View) → List Write → Type 0
AllMine V [] = Unit {0}
AllMine V (e ∷ l) = Mine V e.cell × AllMine V l

-- writes that land in such cells change no other
lands_mine : (V : ℕ → View) (w : List Write) (f : ℕ → ℕ) (a : ℕ) → AllMine V w → (lands w f a ≡ f a) ⊎ Mine V a
lands_mine V [] f a h = inl refl
lands_mine V (e ∷ w) f a h = ⊎_elim
    (λ q. ⊎_elim (λ z. inr (subst (Mine V) (sym z) h.0))
    (λ n. inl (q ∙ at_other f e.cell e.value a n)) (cases_eq a e.cell))
    inr (lands_mine V w (at f e.cell e.value) a h.1)

-- who has the nodes that a card in line, or one that has left, may name
module _ (f : ℕ → ℕ) (V : ℕ → View) (l : List ℕ) (L : Line f V l) where
  pub has_tail : (m : ℕ) → f 0 ≡ suc m → Taken V m
  has_tail m e = let w = chain_end f V l 0 tt L.chain in go w.0 w.2
    where
      go : (p : ℕ) → End f (who V p) → Taken V m
      go zero E = let t = E.tail in absurd (omega arith)
      go (suc d) E = (d, sym E.tail ∙ e)

  pub has_next : (c n k : ℕ) → joined (V c) ≡ true → link (V c) ≡ suc n → f (next n) ≡ suc k → Taken V k
  has_next c n k j e h = ⊎_elim ended (λ w. (w.0, behind w.0 w.2))
      (chain_behind f V l 0 L.chain c (L.members c j))
    where
      here : f (next (node (V c))) ≡ f (next n)
      here = ap (λ (x : ℕ). f (next x)) (link_node (V c) n e)

      ended : End f (V c) → Taken V k
      ended E = ⊎_elim (λ z. absurd (omega arith)) (λ z. let y = sym here ∙ z in absurd (omega arith)) E.last

      behind : (d : ℕ) → Spot f (V c) (V d) → link (V d) ≡ suc k
      behind d P = ⊎_elim (λ z. absurd (omega arith)) (λ z. sym z ∙ here ∙ h) P.from

  pub has_prev : (c n m : ℕ) → joined (V c) ≡ true → reader (V c) ≡ true → link (V c) ≡ suc n → f (prev n) ≡ suc m
      → Taken V m
  has_prev c n m j r e h = let w = chain_place f V l L.chain c (L.members c j) in
      go w.0 (sym (w.2.ahead r) ∙ ap (λ (x : ℕ). f (prev x)) (link_node (V c) n e) ∙ h)
    where
      go : (p : ℕ) → link (who V p) ≡ suc m → Taken V m
      go zero q = absurd (omega arith)
      go (suc d) q = (d, q)

  pub has_target : (c n m : ℕ) → V c ≡ wakes_r n (suc m) → Taken V m
  has_target c n m e = ⊎_elim (λ E. let z = sym (ap target e) ∙ E.aimless in absurd (omega arith))
      (λ w. (w.0, (aimed f (V c) (V w.0) m w.2 (ap target e)).0))
      (chain_behind f V l 0 L.chain c (L.members c (ap joined e)))

  pub has_hand : (c n m : ℕ) → V c ≡ hands n (suc m) → Taken V m
  has_hand c n m e = let w = due_card f V (suc m) l (hand_due f V l L c n m e).0 L.chain in (w.0, w.2)

-- the cells of a node that some card has
module _ (V : ℕ → View) (m : ℕ) (w : Taken V m) where
  next_of : Mine V (next m)
  next_of = inr (m, w, omega arith, omega arith)

  prev_of : Mine V (prev m)
  prev_of = inr (m, w, omega arith, omega arith)

  state_of : Mine V (state m)
  state_of = inr (m, w, omega arith, omega arith)

  spin_of : Mine V (spin m)
  spin_of = inr (m, w, omega arith, omega arith)

module _ (N : ℕ) (f : ℕ → ℕ) (t : ℕ → Tx) (S : ℕ → Stage) (l : List ℕ) (L : Line f (views S) l) (c : ℕ) where
  -- a cell stands as it did, or it may change for the sake of the line, or the card adds to it
  abbrev Kept : Stage → Out → Type 0
  Kept s o = (a : ℕ) → (o.cell a ≡ f a) ⊎ (Mine (views S) a ⊎ AddsTo N s a)

  -- a call that changes no cell
  soft : (s : Stage) (k : MemoryCall) → Soft k → (x : Tx) → Kept s (seen_on k f t x)
  soft s k h x a = inl (ap (λ (g : ℕ → ℕ). g a) (soft_cell k f t x h))

  -- a commit
  commits : (s : Stage) → (Valid f (reads s) → AllMine (views S) (writes s)) → (x : Tx) → Agrees f s x
      → Kept s (commit_seen c f t x)
  commits s m none k a = inl refl
  commits s m doomed k a = inl refl
  commits s m (live r w) k a = ⊎_elim inl (λ h. inr (inl h))
      (lands_mine (views S) w f a (subst (AllMine (views S)) (sym k.2) (m k.3)))

  -- a store to the cell z
  stored : (s : Stage) (z v : ℕ) → Mine (views S) z ⊎ AddsTo N s z → (x : Tx)
      → Kept s (seen_on (call.Store c z v) f t x)
  stored s z v m none a = ⊎_elim (λ e. inr (subst (λ (a : ℕ). Mine (views S) a ⊎ AddsTo N s a) (sym e) m))
      (λ n. inl (at_other f z v a n)) (cases_eq a z)
  stored s z v m doomed a = inl refl
  stored s z v m (live r w) a = inl refl

  -- the cells that the commits and the wakes write: by what was read
  last : (m : ℕ) → f 0 ≡ suc m → Mine (views S) (next m)
  last m h = next_of (views S) m (has_tail f (views S) l L m h)

  behind : (n j : ℕ) (v : View) → v ≡ view (S c) → joined v ≡ true → link v ≡ suc n → f (next n) ≡ suc j
      → Mine (views S) (prev j)
  behind n j v e i k h = prev_of (views S) j
      (has_next f (views S) l L c n j (ap joined (sym e) ∙ i) (ap link (sym e) ∙ k) h)

  ahead : (n m : ℕ) → active_r n ≡ view (S c) → f (prev n) ≡ suc m → Mine (views S) (next m)
  ahead n m e h = next_of (views S) m
      (has_prev f (views S) l L c n m (ap joined (sym e)) (ap reader (sym e)) (ap link (sym e)) h)

  own_prev : (n : ℕ) → comes_r n ≡ view (S c) → Mine (views S) (prev n)
  own_prev n e = prev_of (views S) n (c, ap link (sym e))

  own_state : (n : ℕ) → turn_r n ≡ view (S c) → Mine (views S) (state n)
  own_state n e = state_of (views S) n (c, ap link (sym e))

  woken_spin : (n m : ℕ) → wakes_r n (suc m) ≡ view (S c) → Mine (views S) (spin m)
  woken_spin n m e = spin_of (views S) m (has_target f (views S) l L c n m (sym e))

  handed_spin : (n m : ℕ) → hands n (suc m) ≡ view (S c) → Mine (views S) (spin m)
  handed_spin n m e = spin_of (views S) m (has_hand f (views S) l L c n m (sym e))

  -- the cells that a step may change, by the row's call
  abbrev KeptCall : Stage → Tx → Option MemoryCall → Type 0
  KeptCall s x None = Unit {0}
  KeptCall s x (Some k) = Kept s (seen_on k f t x)

  changes : (s : Stage) → s ≡ S c → (x : Tx) → Agrees f s x → KeptCall s x (call_of N c s)
  changes Idle e x k = tt
  changes (WriterEnters n W1) e x k = soft (WriterEnters n W1) (call.Begin c) tt x
  changes (WriterEnters n W2) e x k = soft (WriterEnters n W2) (call.Read c 0) tt x
  changes (WriterEnters n (W3 p)) e x k = soft (WriterEnters n (W3 p)) (call.Write c 0 (suc n)) tt x
  changes (WriterEnters n (W4 p)) e x k = soft (WriterEnters n (W4 p)) (call.Write c (cell_of p Next) (suc n)) tt x
  changes (WriterEnters n (W5 zero)) e x k = commits (WriterEnters n (W5 zero)) (λ h. (inl refl, tt)) x k
  changes (WriterEnters n (W5 (suc m))) e x k =
      commits (WriterEnters n (W5 (suc m))) (λ h. (inl refl, (last m h.0, tt))) x k
  changes (WriterEnters n W6) e x k = soft (WriterEnters n W6) (call.Load c (spin n)) tt x
  changes (ReaderEnters n R1) e x k = soft (ReaderEnters n R1) (call.Begin c) tt x
  changes (ReaderEnters n R2) e x k = soft (ReaderEnters n R2) (call.Read c 0) tt x
  changes (ReaderEnters n (R3 p)) e x k = soft (ReaderEnters n (R3 p)) (call.Write c 0 (suc n)) tt x
  changes (ReaderEnters n (R4 p)) e x k = soft (ReaderEnters n (R4 p)) (call.Write c (prev n) p) tt x
  changes (ReaderEnters n (R5 p)) e x k = soft (ReaderEnters n (R5 p)) (call.Write c (cell_of p Next) (suc n)) tt x
  changes (ReaderEnters n (R6 p)) e x k = soft (ReaderEnters n (R6 p)) (call.Read c (cell_of p State)) tt x
  changes (ReaderEnters n (R7 zero s)) e x k = commits (ReaderEnters n (R7 zero s)) (λ h. (inl refl, tt)) x k
  changes (ReaderEnters n (R7 (suc m) s)) e x k =
      commits (ReaderEnters n (R7 (suc m) s)) (λ h. (inl refl, (own_prev n (ap view e), (last m h.0, tt)))) x k
  changes (ReaderEnters n R8) e x k = soft (ReaderEnters n R8) (call.Load c (spin n)) tt x
  changes (ReaderEnters n R9) e x k = soft (ReaderEnters n R9) (call.Begin c) tt x
  changes (ReaderEnters n R10) e x k = soft (ReaderEnters n R10) (call.Write c (state n) 3) tt x
  changes (ReaderEnters n R11) e x k = soft (ReaderEnters n R11) (call.Read c (next n)) tt x
  changes (ReaderEnters n (R12 q)) e x k = commits (ReaderEnters n (R12 q)) (λ h. (own_state n (ap view e), tt)) x k
  changes (ReaderEnters n (R13 q)) e x k = soft (ReaderEnters n (R13 q)) (call.Load c (cell_of q State)) tt x
  changes (ReaderEnters n (R14 zero)) e x k = stored (ReaderEnters n (R14 zero)) 0 0 (inl (inl refl)) x
  changes (ReaderEnters n (R14 (suc m))) e x k =
      stored (ReaderEnters n (R14 (suc m))) (spin m) 0 (inl (woken_spin n m (ap view e))) x
  changes (Inside n mode.Write) e x k = tt
  changes (Inside n mode.Read) e x k = tt
  changes (Adds n (A1 j y)) e x k = soft (Adds n (A1 j y)) (call.Load c (counter_cell N j)) tt x
  changes (Adds n (A2 j y v)) e x k =
      stored (Adds n (A2 j y v)) (counter_cell N j) (capped v y) (inr (n, j, y, v, refl, refl)) x
  changes (WriterLeaves n X1) e x k = soft (WriterLeaves n X1) (call.Begin c) tt x
  changes (WriterLeaves n X2) e x k = soft (WriterLeaves n X2) (call.Read c (next n)) tt x
  changes (WriterLeaves n (X3 q)) e x k = soft (WriterLeaves n (X3 q)) (call.Write c (cell_of q Prev) 0) tt x
  changes (WriterLeaves n (X4 zero)) e x k = commits (WriterLeaves n (X4 zero)) (λ h. (inl refl, tt)) x k
  changes (WriterLeaves n (X4 (suc j))) e x k =
      commits (WriterLeaves n (X4 (suc j))) (λ h. (behind n j (holds_w n) (ap view e) refl refl h.0, tt)) x k
  changes (WriterLeaves n (X5 zero)) e x k = stored (WriterLeaves n (X5 zero)) 0 0 (inl (inl refl)) x
  changes (WriterLeaves n (X5 (suc m))) e x k =
      stored (WriterLeaves n (X5 (suc m))) (spin m) 0 (inl (handed_spin n m (ap view e))) x
  changes (ReaderLeaves n Y1) e x k = soft (ReaderLeaves n Y1) (call.Begin c) tt x
  changes (ReaderLeaves n Y2) e x k = soft (ReaderLeaves n Y2) (call.Read c (prev n)) tt x
  changes (ReaderLeaves n (Y3 p)) e x k = soft (ReaderLeaves n (Y3 p)) (call.Read c (next n)) tt x
  changes (ReaderLeaves n (Y4 p q)) e x k = soft (ReaderLeaves n (Y4 p q)) (call.Write c (cell_of p Next) q) tt x
  changes (ReaderLeaves n (Y5 p q)) e x k = soft (ReaderLeaves n (Y5 p q)) (call.Write c (cell_of q Prev) p) tt x
  changes (ReaderLeaves n (Y6 p q)) e x k = soft (ReaderLeaves n (Y6 p q)) (call.Read c (cell_of q State)) tt x
  changes (ReaderLeaves n (Y7 zero zero s)) e x k =
      commits (ReaderLeaves n (Y7 zero zero s)) (λ h. (inl refl, tt)) x k
  changes (ReaderLeaves n (Y7 zero (suc j) s)) e x k =
      commits (ReaderLeaves n (Y7 zero (suc j) s))
      (λ h. (behind n j (active_r n) (ap view e) refl refl h.1.0, tt)) x k
  changes (ReaderLeaves n (Y7 (suc m) zero s)) e x k =
      commits (ReaderLeaves n (Y7 (suc m) zero s)) (λ h. (ahead n m (ap view e) h.0, (inl refl, tt))) x k
  changes (ReaderLeaves n (Y7 (suc m) (suc j) s)) e x k =
      commits (ReaderLeaves n (Y7 (suc m) (suc j) s))
      (λ h. (ahead n m (ap view e) h.0, (behind n j (active_r n) (ap view e) refl refl h.1.0, tt))) x k
  changes (ReaderLeaves n (Y8 zero)) e x k = stored (ReaderLeaves n (Y8 zero)) 0 0 (inl (inl refl)) x
  changes (ReaderLeaves n (Y8 (suc m))) e x k =
      stored (ReaderLeaves n (Y8 (suc m))) (spin m) 0 (inl (handed_spin n m (ap view e))) x

-- which cells a step changes, by the row's call k
pub step_cells : (c N : ℕ) (f : ℕ → ℕ) (t : ℕ → Tx) (S : ℕ → Stage) (l : List ℕ) (k : MemoryCall)
    → call_of N c (S c) ≡ Some k → Line f (views S) l → Agrees f (S c) (t c)
    → (a : ℕ) → ((seen c k f t).cell a ≡ f a) ⊎ (Mine (views S) a ⊎ AddsTo N (S c) a)
step_cells c N f t S l k q L h =
    subst (KeptCall N f t S l L c (S c) (t c)) q (changes N f t S l L c (S c) refl (t c) h)

-- no card has the node n
abbrev pub Unheld : (ℕ → View) → ℕ → Type 0
Unheld V n = (d : ℕ) → link (V d) ≡ suc n → ⊥

-- a cell of a node that no card has is neither the line's nor a counter
unheld_cell : (N n a : ℕ) (S : ℕ → Stage) (s : Stage) → n < N → Unheld (views S) n → 1 + 4 * n ≤ a → a ≤ 4 + 4 * n
    → Mine (views S) a ⊎ AddsTo N s a → ⊥
unheld_cell N n a S s lt u p q (inl (inl z)) = omega arith
unheld_cell N n a S s lt u p q (inl (inr w)) =
    let h = w.2 in let k = w.3 in let e : w.0 ≡ n = omega arith in u w.1.0 (w.1.1 ∙ ap suc e)
unheld_cell N n a S s lt u p q (inr w) = let e = w.5 in omega arith

-- where the cells of a node lie
pub field_cell : (n : ℕ) (x : Field) → (1 + 4 * n ≤ node_cell n x) × (node_cell n x ≤ 4 + 4 * n)
field_cell n Next = (omega arith, omega arith)
field_cell n Prev = (omega arith, omega arith)
field_cell n State = (omega arith, omega arith)
field_cell n Spin = (omega arith, omega arith)

-- a step changes no cell of a node that no card has
pub step_unheld : (c N : ℕ) (f : ℕ → ℕ) (t : ℕ → Tx) (S : ℕ → Stage) (l : List ℕ) (k : MemoryCall)
    → call_of N c (S c) ≡ Some k → Line f (views S) l → Agrees f (S c) (t c)
    → (n : ℕ) → n < N → Unheld (views S) n → (x : Field) → (seen c k f t).cell (node_cell n x) ≡ f (node_cell n x)
step_unheld c N f t S l k q L h n lt u x = let b = field_cell n x in
    ⊎_elim (λ e. e) (λ m. absurd (unheld_cell N n (node_cell n x) S (S c) lt u b.0 b.1 m))
    (step_cells c N f t S l k q L h (node_cell n x))

-- a step changes no counter but the one that its card adds to
pub step_counter : (c N K : ℕ) (f : ℕ → ℕ) (t : ℕ → Tx) (S : ℕ → Stage) (l : List ℕ) (k : MemoryCall)
    → call_of N c (S c) ≡ Some k → Line f (views S) l → ((d : ℕ) → Sound N K (S d)) → Agrees f (S c) (t c)
    → (j : ℕ) → ((seen c k f t).cell (counter_cell N j) ≡ f (counter_cell N j))
    ⊎ ((n : ℕ) × (y : ℕ) × (v : ℕ) × (S c ≡ Adds n (A2 j y v)))
step_counter c N K f t S l k q L sound h j = ⊎_elim inl (λ m. inr (go m))
    (step_cells c N f t S l k q L h (counter_cell N j))
  where
    go : Mine (views S) (counter_cell N j) ⊎ AddsTo N (S c) (counter_cell N j)
        → (n : ℕ) × (y : ℕ) × (v : ℕ) × (S c ≡ Adds n (A2 j y v))
    go (inl (inl z)) = absurd (omega arith)
    go (inl (inr w)) = let b = sound_link N K (S w.1.0) (sound w.1.0) in let e = w.1.1 in let u = w.3 in
        absurd (omega arith)
    go (inr w) = let e : w.1 ≡ j = let z = w.5 in omega arith in
        (w.0, w.2, w.3, subst (λ (j : ℕ). S c ≡ Adds w.0 (A2 j w.2 w.3)) e w.4)
