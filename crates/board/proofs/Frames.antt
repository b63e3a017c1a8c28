-- What requests, aborts and stores into free nodes leave of the line.
use Rattle.std.proofs.Common.{◌≡◌, ℕ, zero, suc, ◌+◌, ◌*◌, ◌<◌, ◌≤◌, Bool, true, false, cond, ◌⊎◌, List, [], ◌∷◌}
use Rattle.std.proofs.Common.{get_or, sym, refl, ap, ◌∙◌, subst, inl, inr, arith}
use mathlib.Core.Path.{fun_ext}
use Rattle.std.proofs.lemmas.Bool.Decides.{nat_tests}
use Rattle.stages.specs.declared.stage.Mode.{Mode}
use Rattle.stages.specs.declared.stage.Mode.TheVariants.{Read, Write}
use Rattle.stages.specs.declared.stage.Addition.TheVariants.{A1}
use Rattle.stages.specs.declared.stage.WriterExit.TheVariants.{X1}
use Rattle.stages.specs.declared.stage.ReaderExit.TheVariants.{Y1}
use Rattle.stages.specs.declared.stage.Stage.{Stage}
use Rattle.stages.specs.declared.stage.Stage.TheVariants.{Idle, Inside, Adds, WriterLeaves, ReaderLeaves}
use Rattle.stages.specs.declared.layout.Field.{Field}
use Rattle.stages.specs.Layout.{node_cell, counter_cell}
use Rattle.stages.specs.Rows.{begin_of}
use Rattle.lock.specs.declared.values.NodeValues.{NodeValues}
use Rattle.lock.specs.Lock.{LockState, stage_of, idle_card, free, has_node, entry_stores, reuse_stores, first_stage}
use Rattle.stages.specs.declared.stage.Card.{Card}
use Rattle.board.proofs.Cells.{at, at_same, at_other, at_all, clash, next, prev, state, spin}
use Rattle.board.proofs.Views.{View, view, node, link, joined, hand, Cells}
use Rattle.board.proofs.Chain.{Line, Like, like_line, Nodes}
use Rattle.board.proofs.Links.{views, view_at, view_begin, has_link}
use Rattle.board.proofs.Steps.{SameNode, frame_line, like_refl}
use Rattle.board.proofs.Effects.{Unheld, field_cell}

-- a card's stage changes, and the line does not see it
pub line_same : (f : ℕ → ℕ) (S : ℕ → Stage) (l : List ℕ) (c : ℕ) (s : Stage) → view s ≡ view (S c)
    → Line f (views S) l → Line f (views (at S c s)) l
line_same f S l c s e L = subst (λ (W : ℕ → View). Line f W l)
    (sym (fun_ext (at_all (λ (d : ℕ) (x : Stage). view x ≡ view (S d)) S c s e (λ d _. refl)))) L

-- a lost or aborted transaction
pub line_begin : (f : ℕ → ℕ) (S : ℕ → Stage) (l : List ℕ) (c : ℕ)
    → Line f (views S) l → Line f (views (at S c (begin_of (S c)))) l
line_begin f S l c L = line_same f S l c (begin_of (S c)) (view_begin (S c)) L

-- a request to leave, and one to add
pub view_leave_write : (n : ℕ) → view (WriterLeaves n X1) ≡ view (Inside n Write)
view_leave_write n = refl

-- a request of a reader to leave
pub view_leave_read : (n : ℕ) → view (ReaderLeaves n Y1) ≡ view (Inside n Read)
view_leave_read n = refl

-- a request to add
pub view_add : (n k a : ℕ) → view (Adds n (A1 k a)) ≡ view (Inside n Write)
view_add n k a = refl

-- a cell of the node n
abbrev pub Within : ℕ → ℕ → Type 0
Within n a = (1 + 4 * n ≤ a) × (a ≤ 4 + 4 * n)

-- a store into a cell of a node that no card has
pub store_line : (f : ℕ → ℕ) (V : ℕ → View) (l : List ℕ) (n a v : ℕ) → Within n a → Unheld V n
    → Line f V l → Line (at f a v) V l
store_line f V l n a v w u L = frame_line f (at f a v) V l (at_other f a v 0 (let h = w.0 in omega arith)) kept L
  where
    kept : (d : ℕ) → link (V d) ≡ suc (node (V d)) → SameNode f (at f a v) (node (V d))
    kept d q = let ne : node (V d) ≡ n → ⊥ = λ z. u d (q ∙ ap suc z) in let h = w.0 in let k = w.1 in
        let m = node (V d) in (
          at_other f a v (next m) (λ z. ne (omega arith)),
          at_other f a v (prev m) (λ z. ne (omega arith)),
          at_other f a v (state m) (λ z. ne (omega arith)),
          at_other f a v (spin m) (λ z. ne (omega arith)),
        )

-- the standing values after stores in turn
abbrev pub stored : List (ℕ × ℕ) → (ℕ → ℕ) → ℕ → ℕ
stored [] f = f
stored (w ∷ ws) f = stored ws (at f w.0 w.1)

-- stores into the node n alone
abbrev pub AllWithin : ℕ → List (ℕ × ℕ) → Type 0
AllWithin n [] = Unit {0}
AllWithin n (w ∷ ws) = Within n w.0 × AllWithin n ws

-- several such stores
pub stored_line : (f : ℕ → ℕ) (V : ℕ → View) (l : List ℕ) (n : ℕ) (ws : List (ℕ × ℕ)) → AllWithin n ws → Unheld V n
    → Line f V l → Line (stored ws f) V l
stored_line f V l n [] h u L = L
stored_line f V l n (w ∷ ws) h u L =
    stored_line (at f w.0 w.1) V l n ws h.1 u (store_line f V l n w.0 w.1 h.0 u L)

-- they change no cell of another node, nor the tail or a counter
pub stored_other : (f : ℕ → ℕ) (n a : ℕ) (ws : List (ℕ × ℕ)) → AllWithin n ws → (Within n a → ⊥)
    → stored ws f a ≡ f a
stored_other f n a [] h o = refl
stored_other f n a (w ∷ ws) h o = stored_other (at f w.0 w.1) n a ws h.1 o
    ∙ at_other f w.0 w.1 a (λ e. o (subst (Within n) (sym e) h.0))

-- the stores of an enter and of a reuse
pub entry_within : (n : ℕ) (m : Mode) → AllWithin n (entry_stores n m)
entry_within n Read = omega arith
entry_within n Write = omega arith

-- the stores of a reuse
pub reuse_within : (n : ℕ) (v : NodeValues) → AllWithin n (reuse_stores n v)
reuse_within n v = omega arith

-- an entered node's cells stand as those of a card that comes
pub entry_cells : (f : ℕ → ℕ) (n : ℕ) (m : Mode) → Cells (stored (entry_stores n m) f) (view (first_stage n m))
entry_cells f n Read =
    (grind (arith, nat_tests), grind (arith, nat_tests), grind (arith, nat_tests), grind (arith, nat_tests))
entry_cells f n Write = (grind (arith, nat_tests), grind (arith, nat_tests), grind (arith, nat_tests))

-- what the line sees of a card that comes
comes : (n : ℕ) (m : Mode) → let v = view (first_stage n m) in (link v ≡ suc n) × (joined v ≡ false) × (hand v ≡ 0)
comes n Read = (refl, refl, refl)
comes n Write = (refl, refl, refl)

-- a card takes a node that no card has
pub nodes_come : (V : ℕ → View) (c n : ℕ) (u : View) → link u ≡ suc n → Unheld V n → Nodes V → Nodes (at V c u)
nodes_come V c n u e free N x y = at_all
    (λ (x : ℕ) (z : View). link z ≡ link (at V c u y) → (x ≡ y) ⊎ (link z ≡ 0)) V c u
    (at_all (λ (y : ℕ) (w : View). link u ≡ link w → (c ≡ y) ⊎ (link u ≡ 0)) V c u
    (λ _. inl refl) (λ y _ q. absurd (free y (sym q ∙ e))) y)
    (λ x _. at_all (λ (y : ℕ) (w : View). link (V x) ≡ link w → (x ≡ y) ⊎ (link (V x) ≡ 0)) V c u
    (λ q. absurd (free x (q ∙ e))) (λ y _. N x y) y) x

-- an idle card comes with a node that no card has, whose cells stand as entered
pub come_line : (f : ℕ → ℕ) (S : ℕ → Stage) (l : List ℕ) (c n : ℕ) (m : Mode) → S c ≡ Idle → Unheld (views S) n
    → Cells f (view (first_stage n m)) → Line f (views S) l → Line f (views (at S c (first_stage n m))) l
come_line f S l c n m idle free k L = let u = view (first_stage n m) in let C = comes n m in
    subst (λ (W : ℕ → View). Line f W l) (sym (view_at S c (first_stage n m)))
    (like_line f f (views S) (at (views S) c u) l
    (at_all (λ (d : ℕ) (z : View). Like f f (view (S d)) z) (views S) c u like (λ d _. like_refl f (view (S d))))
    refl (nodes_come (views S) c n u C.0 free L.nodes)
    (at_all (λ (d : ℕ) (z : View). Cells f z) (views S) c u k (λ d _. L.cells d)) L)
  where
    out : joined (view (S c)) ≡ false
    out = ap (λ (s : Stage). joined (view s)) idle

    like : Like f f (view (S c)) (view (first_stage n m))
    like = record {
      holds = (comes n m).2 ∙ sym (ap (λ (s : Stage). hand (view s)) idle);
      joins = (comes n m).1 ∙ sym out;
      seat = λ j. clash (joined (view (S c))) j out;
      front = λ j. clash (joined (view (S c))) j out;
    }

-- an idle card enters with a free node: its stores, and its first stage
pub enter_line : (f : ℕ → ℕ) (S : ℕ → Stage) (l : List ℕ) (c n : ℕ) (m : Mode) → S c ≡ Idle → Unheld (views S) n
    → Line f (views S) l → Line (stored (entry_stores n m) f) (views (at S c (first_stage n m))) l
enter_line f S l c n m idle free L = come_line (stored (entry_stores n m) f) S l c n m idle free (entry_cells f n m)
    (stored_line f (views S) l n (entry_stores n m) (entry_within n m) free L)

-- an idle card stores into a free node
pub reuse_line : (f : ℕ → ℕ) (S : ℕ → Stage) (l : List ℕ) (n : ℕ) (v : NodeValues) → Unheld (views S) n
    → Line f (views S) l → Line (stored (reuse_stores n v) f) (views S) l
reuse_line f S l n v free L = stored_line f (views S) l n (reuse_stores n v) (reuse_within n v) free L

-- an enter changes no cell of a node that no card has after it
pub enter_unheld : (f : ℕ → ℕ) (S : ℕ → Stage) (c n : ℕ) (m : Mode) (k : ℕ)
    → Unheld (views (at S c (first_stage n m))) k
    → (x : Field) → stored (entry_stores n m) f (node_cell k x) ≡ f (node_cell k x)
enter_unheld f S c n m k u x =
    stored_other f n (node_cell k x) (entry_stores n m) (entry_within n m) outside
  where
    mine : n ≡ k → link (view (at S c (first_stage n m) c)) ≡ suc k
    mine e = ap (λ (s : Stage). link (view s)) (at_same S c (first_stage n m)) ∙ (comes n m).0 ∙ ap suc e

    outside : Within n (node_cell k x) → ⊥
    outside w = let b = field_cell k x in let p = w.0 in let q = w.1 in let r = b.0 in let s = b.1 in
        let e : n ≡ k = omega arith in u c (mine e)

-- stores into one of N nodes change no counter
pub stored_counter : (f : ℕ → ℕ) (N n j : ℕ) (ws : List (ℕ × ℕ)) → n < N → AllWithin n ws
    → stored ws f (counter_cell N j) ≡ f (counter_cell N j)
stored_counter f N n j ws lt h =
    stored_other f n (counter_cell N j) ws h (λ w. let q = w.1 in omega arith)

-- nobody is in line on a new board
pub new_line : (f : ℕ → ℕ) (S : ℕ → Stage) → f 0 ≡ 0 → ((d : ℕ) → S d ≡ Idle) → Line f (views S) []
new_line f S z idle = subst (λ (W : ℕ → View). Line f W []) (sym (fun_ext (λ d. ap view (idle d)))) (record {
  nodes = λ c d e. inr refl;
  cells = λ c. tt;
  members = λ c j. clash false j refl;
  once = tt;
  chain = record { tail = z; last = inl refl; aimless = refl };
  baton = inl (λ d. refl, tt);
})

-- a free node is no card's
free_card : (cs : List Card) (n d : ℕ) → free cs n ≡ true → link (view (get_or cs d idle_card).stage) ≡ suc n → ⊥
free_card [] n d h e = omega arith
free_card (r ∷ cs) n zero h e =
    clash false (subst (λ (b : Bool). cond b false (free cs n) ≡ true) (has_link r.stage n e) h) refl
free_card (r ∷ cs) n (suc d) h e = free_card cs n d (go (has_node r.stage n) h) e
  where
    go : (b : Bool) → cond b false (free cs n) ≡ true → free cs n ≡ true
    go true k = clash false k refl
    go false k = k

-- so a node that is free is unheld
pub free_unheld : (s : LockState) (n : ℕ) → free s.cards n ≡ true → Unheld (views (stage_of s)) n
free_unheld s n h d e = free_card s.cards n d h e
