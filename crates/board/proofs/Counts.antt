-- The counters: each holds the smaller of 65,535 and the sum of its finished adds, and only the store of an add
-- changes one of them.
use Rattle.std.proofs.Common.{◌≡◌, ℕ, zero, suc, ◌+◌, ◌*◌, ◌<◌, ◌≤◌, min, Bool, true, false, cond, eqb, ◌⊎◌, List, []}
use Rattle.std.proofs.Common.{◌∷◌, ◌++◌, Some, None, Ok, Err, Option, Result, sym, refl, ap, ◌∙◌, subst, inl, inr}
use Rattle.std.proofs.Common.{⊎_elim, arith}
use Rattle.std.proofs.lemmas.Bool.{cases_eq, eq-eqb, ne_eqb, cases_Bool}
use Rattle.memory.specs.declared.write.Write.{Write}
use Rattle.memory.specs.declared.fault.MemoryFault.{MemoryFault}
use Rattle.memory.specs.declared.fault.Refusal.{Refusal}
use Rattle.memory.specs.declared.fault.Refusal.TheVariants.{OutOfRange, Already, NoTransaction, Doomed, Full}
use Rattle.memory.specs.declared.call.MemoryCall.{MemoryCall}
use Rattle.memory.specs.declared.call.MemoryCall.TheVariants as call
use Rattle.memory.specs.Meaning.{Tx, none, live, doomed, value_in, marking, recording}
use Rattle.stages.specs.declared.stage.Mode.TheVariants as mode
use Rattle.stages.specs.declared.stage.WriterEntry.TheVariants.{W1, W2, W3, W4, W5, W6}
use Rattle.stages.specs.declared.stage.ReaderEntry.TheVariants.{R1, R2, R3, R4, R5, R6, R7}
use Rattle.stages.specs.declared.stage.ReaderEntry.TheVariants.{R8, R9, R10, R11, R12, R13, R14}
use Rattle.stages.specs.declared.stage.Addition.TheVariants.{A1, A2}
use Rattle.stages.specs.declared.stage.WriterExit.TheVariants.{X1, X2, X3, X4, X5}
use Rattle.stages.specs.declared.stage.ReaderExit.TheVariants.{Y1, Y2, Y3, Y4, Y5, Y6, Y7, Y8}
use Rattle.stages.specs.declared.stage.Stage.{Stage}
use Rattle.stages.specs.declared.stage.Stage.TheVariants.{Idle, WriterEnters, ReaderEnters, Inside, Adds}
use Rattle.stages.specs.declared.stage.Stage.TheVariants.{WriterLeaves, ReaderLeaves}
use Rattle.stages.specs.declared.answer.Answer.{Answer}
use Rattle.stages.specs.declared.answer.Answer.TheVariants as answer
use Rattle.stages.specs.Layout.{counter_cell, reader, writer}
use Rattle.stages.specs.Rows.{call_of, begin_of, capped}
use Rattle.lock.specs.Lock.{Size, goes, returns_by, advanced}
use Rattle.board.specs.Book.{Sum, plain, deed, summed, accepted}
use Rattle.board.specs.Promise.{total}
use Rattle.board.proofs.Cells.{at, at_same, at_other, at_all, clash}
use Rattle.board.proofs.Views.{View, view, away, comes_w, comes_r, waits_w, waits_r, holds_w, turn_r, active_r, sees_r}
use Rattle.board.proofs.Views.{wakes_r, hands}
use Rattle.board.proofs.Views.{link, joined, granted}
use Rattle.board.proofs.Views as views
use Rattle.board.proofs.Chain.{Line, Chain, In, chain_pred}
use Rattle.board.proofs.Held.{writes, in_tx, Agrees}
use Rattle.board.proofs.Sound.{Sound}
use Rattle.board.proofs.Model as model
use Rattle.board.proofs.Model.{lands, seen, seen_on}
use Rattle.board.proofs.Inv.{Counted}
use Rattle.board.proofs.Bridge.{Below}
use Rattle.board.proofs.Rows.{Row, row, writes_below, one_call}
use Rattle.board.proofs.Sounds.{one_value}
use Rattle.board.proofs.Isolation.{outside}

-- whether the stage is about to store an add
abbrev pub finishing : Stage → Bool
finishing Idle = false
finishing (WriterEnters n at) = false
finishing (ReaderEnters n at) = false
finishing (Inside n m) = false
finishing (Adds n (A1 k a)) = false
finishing (Adds n (A2 k a v)) = true
finishing (WriterLeaves n at) = false
finishing (ReaderLeaves n at) = false

-- where it is, it keeps the standing count
abbrev Keeps : ℕ → (ℕ → ℕ) → Stage → Type 0
Keeps N f Idle = Unit {0}
Keeps N f (WriterEnters n at) = Unit {0}
Keeps N f (ReaderEnters n at) = Unit {0}
Keeps N f (Inside n m) = Unit {0}
Keeps N f (Adds n (A1 k a)) = Unit {0}
Keeps N f (Adds n (A2 k a v)) = v ≡ f (counter_cell N k)
Keeps N f (WriterLeaves n at) = Unit {0}
Keeps N f (ReaderLeaves n at) = Unit {0}

-- the same, said of every stage
abbrev Loads : ℕ → (ℕ → ℕ) → Stage → Type 0
Loads N f s = (n k a v : ℕ) → s ≡ Adds n (A2 k a v) → v ≡ f (counter_cell N k)

-- a stage that is not about to store has loaded nothing
loaded_keeps : (N : ℕ) (f : ℕ → ℕ) (s : Stage) → Keeps N f s → Loads N f s
loaded_keeps N f s h n k a v e = subst (Keeps N f) e h

-- a stage that is not about to store an add keeps no count
calm_keeps : (N : ℕ) (f : ℕ → ℕ) (s : Stage) → finishing s ≡ false → Keeps N f s
calm_keeps N f Idle e = tt
calm_keeps N f (WriterEnters n at) e = tt
calm_keeps N f (ReaderEnters n at) e = tt
calm_keeps N f (Inside n m) e = tt
calm_keeps N f (Adds n (A1 k a)) e = tt
calm_keeps N f (Adds n (A2 k a v)) e = clash true refl e
calm_keeps N f (WriterLeaves n at) e = tt
calm_keeps N f (ReaderLeaves n at) e = tt

-- nor does the begin of its transaction
pub calm_begin : (s : Stage) → finishing (begin_of s) ≡ finishing s
calm_begin Idle = refl
calm_begin (WriterEnters n at) = refl
calm_begin (ReaderEnters n at) = refl
calm_begin (Inside n m) = refl
calm_begin (Adds n at) = refl
calm_begin (WriterLeaves n at) = refl
calm_begin (ReaderLeaves n at) = refl

-- a stage inside of a transaction is not about to store an add
pub calm_inside : (s : Stage) → in_tx s ≡ true → finishing s ≡ false
calm_inside Idle e = refl
calm_inside (WriterEnters n at) e = refl
calm_inside (ReaderEnters n at) e = refl
calm_inside (Inside n m) e = refl
calm_inside (Adds n (A1 k a)) e = refl
calm_inside (Adds n (A2 k a v)) e = clash false e refl
calm_inside (WriterLeaves n at) e = refl
calm_inside (ReaderLeaves n at) e = refl

-- the add that it is about to store
finishing_is : (s : Stage) → finishing s ≡ true
    → (n : ℕ) × (k : ℕ) × (a : ℕ) × (v : ℕ) × (s ≡ Adds n (A2 k a v))
finishing_is Idle e = clash false e refl
finishing_is (WriterEnters n at) e = clash false e refl
finishing_is (ReaderEnters n at) e = clash false e refl
finishing_is (Inside n m) e = clash false e refl
finishing_is (Adds n (A1 k a)) e = clash false e refl
finishing_is (Adds n (A2 k a v)) e = (n, k, a, v, refl)
finishing_is (WriterLeaves n at) e = clash false e refl
finishing_is (ReaderLeaves n at) e = clash false e refl

-- a call that stores, if it stores, below a cell
abbrev pub Low : ℕ → Option MemoryCall → Type 0
Low b None = Unit {0}
Low b (Some call.Clear) = ⊥
Low b (Some (call.Look a)) = Unit {0}
Low b (Some (call.Load c a)) = Unit {0}
Low b (Some (call.Store c a v)) = a < b
Low b (Some (call.Begin c)) = Unit {0}
Low b (Some (call.Read c a)) = Unit {0}
Low b (Some (call.Write c a v)) = Unit {0}
Low b (Some (call.Commit c)) = Unit {0}
Low b (Some (call.Drop c)) = Unit {0}

-- any other row finishes no add, and stores only to cells of nodes
calm_row : (N K c : ℕ) (s : Stage) → Sound N K s → finishing s ≡ false
    → ((d : ℕ) (l : List Sum) → summed d (deed s) l ≡ l) × Low (1 + 4 * N) (call_of N c s)
calm_row N K c Idle h e = (λ d l. refl, tt)
calm_row N K c (WriterEnters n W1) h e = (λ d l. refl, tt)
calm_row N K c (WriterEnters n W2) h e = (λ d l. refl, tt)
calm_row N K c (WriterEnters n (W3 p)) h e = (λ d l. refl, tt)
calm_row N K c (WriterEnters n (W4 p)) h e = (λ d l. refl, tt)
calm_row N K c (WriterEnters n (W5 p)) h e = (λ d l. refl, tt)
calm_row N K c (WriterEnters n W6) h e = (λ d l. refl, tt)
calm_row N K c (ReaderEnters n R1) h e = (λ d l. refl, tt)
calm_row N K c (ReaderEnters n R2) h e = (λ d l. refl, tt)
calm_row N K c (ReaderEnters n (R3 p)) h e = (λ d l. refl, tt)
calm_row N K c (ReaderEnters n (R4 p)) h e = (λ d l. refl, tt)
calm_row N K c (ReaderEnters n (R5 p)) h e = (λ d l. refl, tt)
calm_row N K c (ReaderEnters n (R6 p)) h e = (λ d l. refl, tt)
calm_row N K c (ReaderEnters n (R7 p s)) h e = (λ d l. refl, tt)
calm_row N K c (ReaderEnters n R8) h e = (λ d l. refl, tt)
calm_row N K c (ReaderEnters n R9) h e = (λ d l. refl, tt)
calm_row N K c (ReaderEnters n R10) h e = (λ d l. refl, tt)
calm_row N K c (ReaderEnters n R11) h e = (λ d l. refl, tt)
calm_row N K c (ReaderEnters n (R12 q)) h e = (λ d l. refl, tt)
calm_row N K c (ReaderEnters n (R13 q)) h e = (λ d l. refl, tt)
calm_row N K c (ReaderEnters n (R14 zero)) h e = absurd h.1
calm_row N K c (ReaderEnters n (R14 (suc m))) h e = let i = h.1 in (λ d l. refl, omega arith)
calm_row N K c (Inside n mode.Write) h e = (λ d l. refl, tt)
calm_row N K c (Inside n mode.Read) h e = (λ d l. refl, tt)
calm_row N K c (WriterLeaves n X1) h e = (λ d l. refl, tt)
calm_row N K c (WriterLeaves n X2) h e = (λ d l. refl, tt)
calm_row N K c (WriterLeaves n (X3 q)) h e = (λ d l. refl, tt)
calm_row N K c (WriterLeaves n (X4 q)) h e = (λ d l. refl, tt)
calm_row N K c (WriterLeaves n (X5 zero)) h e = absurd h.1
calm_row N K c (WriterLeaves n (X5 (suc m))) h e = let i = h.1 in (λ d l. refl, omega arith)
calm_row N K c (ReaderLeaves n Y1) h e = (λ d l. refl, tt)
calm_row N K c (ReaderLeaves n Y2) h e = (λ d l. refl, tt)
calm_row N K c (ReaderLeaves n (Y3 p)) h e = (λ d l. refl, tt)
calm_row N K c (ReaderLeaves n (Y4 p q)) h e = (λ d l. refl, tt)
calm_row N K c (ReaderLeaves n (Y5 p q)) h e = (λ d l. refl, tt)
calm_row N K c (ReaderLeaves n (Y6 p q)) h e = (λ d l. refl, tt)
calm_row N K c (ReaderLeaves n (Y7 p q s)) h e = (λ d l. refl, tt)
calm_row N K c (ReaderLeaves n (Y8 zero)) h e = absurd h.1
calm_row N K c (ReaderLeaves n (Y8 (suc m))) h e = let i = h.1 in (λ d l. refl, omega arith)
calm_row N K c (Adds n (A1 k x)) h e = (λ d l. refl, tt)
calm_row N K c (Adds n (A2 k x v)) h e = clash true refl e

-- one of two stages that keep what they should
keeps_cond : (N : ℕ) (f : ℕ → ℕ) (b : Bool) (x y : Stage × Answer) → Keeps N f x.0 → Keeps N f y.0
    → Keeps N f (cond b x y).0
keeps_cond N f true x y h k = h
keeps_cond N f false x y h k = k

-- an accepted row leads to a stage that keeps a count only where it has just loaded it
keeps_goes : (N c : ℕ) (f : ℕ → ℕ) (s : Stage) (v : ℕ) → ((a : ℕ) → call_of N c s ≡ Some (call.Load c a) → v ≡ f a)
    → Keeps N f (goes s v).0
keeps_goes N c f Idle v g = tt
keeps_goes N c f (WriterEnters n W1) v g = tt
keeps_goes N c f (WriterEnters n W2) v g = tt
keeps_goes N c f (WriterEnters n (W3 zero)) v g = tt
keeps_goes N c f (WriterEnters n (W3 (suc m))) v g = tt
keeps_goes N c f (WriterEnters n (W4 p)) v g = tt
keeps_goes N c f (WriterEnters n (W5 zero)) v g = tt
keeps_goes N c f (WriterEnters n (W5 (suc m))) v g = tt
keeps_goes N c f (WriterEnters n W6) zero g = tt
keeps_goes N c f (WriterEnters n W6) (suc v) g = tt
keeps_goes N c f (ReaderEnters n R1) v g = tt
keeps_goes N c f (ReaderEnters n R2) v g = tt
keeps_goes N c f (ReaderEnters n (R3 zero)) v g = tt
keeps_goes N c f (ReaderEnters n (R3 (suc m))) v g = tt
keeps_goes N c f (ReaderEnters n (R4 p)) v g = tt
keeps_goes N c f (ReaderEnters n (R5 p)) v g = tt
keeps_goes N c f (ReaderEnters n (R6 p)) v g = tt
keeps_goes N c f (ReaderEnters n (R7 zero s)) v g = tt
keeps_goes N c f (ReaderEnters n (R7 (suc m) s)) v g = tt
keeps_goes N c f (ReaderEnters n R8) zero g = tt
keeps_goes N c f (ReaderEnters n R8) (suc v) g = tt
keeps_goes N c f (ReaderEnters n R9) v g = tt
keeps_goes N c f (ReaderEnters n R10) v g = tt
keeps_goes N c f (ReaderEnters n R11) v g = tt
keeps_goes N c f (ReaderEnters n (R12 zero)) v g = tt
keeps_goes N c f (ReaderEnters n (R12 (suc m))) v g = tt
keeps_goes N c f (ReaderEnters n (R13 q)) v g =
    keeps_cond N f (eqb v reader) (ReaderEnters n (R14 q), answer.Step) (Inside n mode.Read, answer.In) tt tt
keeps_goes N c f (ReaderEnters n (R14 q)) v g = tt
keeps_goes N c f (Inside n m) v g = tt
keeps_goes N c f (WriterLeaves n X1) v g = tt
keeps_goes N c f (WriterLeaves n X2) v g = tt
keeps_goes N c f (WriterLeaves n (X3 q)) v g = tt
keeps_goes N c f (WriterLeaves n (X4 zero)) v g = tt
keeps_goes N c f (WriterLeaves n (X4 (suc m))) v g = tt
keeps_goes N c f (WriterLeaves n (X5 q)) v g = tt
keeps_goes N c f (ReaderLeaves n Y1) v g = tt
keeps_goes N c f (ReaderLeaves n Y2) v g = tt
keeps_goes N c f (ReaderLeaves n (Y3 zero)) v g = tt
keeps_goes N c f (ReaderLeaves n (Y3 (suc m))) v g = tt
keeps_goes N c f (ReaderLeaves n (Y4 p q)) v g = tt
keeps_goes N c f (ReaderLeaves n (Y5 p zero)) v g = tt
keeps_goes N c f (ReaderLeaves n (Y5 zero (suc k))) v g = tt
keeps_goes N c f (ReaderLeaves n (Y5 (suc m) (suc k))) v g = tt
keeps_goes N c f (ReaderLeaves n (Y6 p q)) v g = tt
keeps_goes N c f (ReaderLeaves n (Y7 p zero s)) v g = tt
keeps_goes N c f (ReaderLeaves n (Y7 zero (suc k) s)) v g =
    keeps_cond N f (eqb s writer) (ReaderLeaves n (Y8 (suc k)), answer.Step) (Idle, answer.Out) tt tt
keeps_goes N c f (ReaderLeaves n (Y7 (suc m) (suc k) s)) v g = tt
keeps_goes N c f (ReaderLeaves n (Y8 q)) v g = tt
keeps_goes N c f (Adds n (A1 k x)) v g = g (counter_cell N k) refl
keeps_goes N c f (Adds n (A2 k x y)) v g = tt

-- what lies above all writes keeps its value
lands_above : (b : ℕ) (w : List Write) → Below b w → (f : ℕ → ℕ) (a : ℕ) → b ≤ a → lands w f a ≡ f a
lands_above b [] h f a l = refl
lands_above b (e ∷ w) h f a l =
    lands_above b w h.1 (at f e.cell e.value) a l
    ∙ at_other f e.cell e.value a (λ q. let i = h.0 in omega arith)

-- no standing value changes by a read
value_cell : (c a : ℕ) (f : ℕ → ℕ) (t : ℕ → Tx) (r : List ℕ) (w : List Write) (o : Option ℕ)
    → (model.value_seen c a f t r w o).cell ≡ f
value_cell c a f t r w (Some v) = refl
value_cell c a f t r w None = go (marking r a)
  where
    go : (m : Option (List ℕ)) → (model.mark_seen c a f t w m).cell ≡ f
    go (Some m) = refl
    go None = refl

-- nor by a write
record_cell : (c a : ℕ) (f : ℕ → ℕ) (t : ℕ → Tx) (r : List ℕ) (o : Option (List Write))
    → (model.record_seen c a f t r o).cell ≡ f
record_cell c a f t r (Some w) = refl
record_cell c a f t r None = refl

-- a row's call leaves the cells above its writes, and above what it stores, alone
pub stays_above : (c b : ℕ) (f : ℕ → ℕ) (t : ℕ → Tx) (s : Stage) (k : MemoryCall) (x : Tx) → Row c s k → Agrees f s x
    → Below b (writes s) → Low b (Some k) → (a : ℕ) → b ≤ a → (seen_on k f t x).cell a ≡ f a
stays_above c b f t s call.Clear x r h p q a l = absurd r
stays_above c b f t s (call.Look y) x r h p q a l = absurd r
stays_above c b f t s (call.Load d y) none r h p q a l = refl
stays_above c b f t s (call.Load d y) (live m w) r h p q a l = refl
stays_above c b f t s (call.Load d y) doomed r h p q a l = refl
stays_above c b f t s (call.Store d y v) none r h p q a l = at_other f y v a (λ z. omega arith)
stays_above c b f t s (call.Store d y v) (live m w) r h p q a l = refl
stays_above c b f t s (call.Store d y v) doomed r h p q a l = refl
stays_above c b f t s (call.Begin d) none r h p q a l = refl
stays_above c b f t s (call.Begin d) (live m w) r h p q a l = refl
stays_above c b f t s (call.Begin d) doomed r h p q a l = refl
stays_above c b f t s (call.Read d y) none r h p q a l = refl
stays_above c b f t s (call.Read d y) (live m w) r h p q a l =
    ap (λ (g : ℕ → ℕ). g a) (value_cell d y f t m w (value_in w y))
stays_above c b f t s (call.Read d y) doomed r h p q a l = refl
stays_above c b f t s (call.Write d y v) none r h p q a l = refl
stays_above c b f t s (call.Write d y v) (live m w) r h p q a l =
    ap (λ (g : ℕ → ℕ). g a) (record_cell d y f t m (recording w y v))
stays_above c b f t s (call.Write d y v) doomed r h p q a l = refl
stays_above c b f t s (call.Commit d) none r h p q a l = refl
stays_above c b f t s (call.Commit d) (live m w) r h p q a l = lands_above b w (rw h.2 p) f a l
stays_above c b f t s (call.Commit d) doomed r h p q a l = refl
stays_above c b f t s (call.Drop d) x r h p q a l = absurd r

-- a card in line has a node
joined_link : (v : View) → joined v ≡ true → link v ≡ 0 → ⊥
joined_link away j e = clash false j refl
joined_link (comes_w n) j e = omega arith
joined_link (comes_r n) j e = omega arith
joined_link (waits_w n) j e = omega arith
joined_link (waits_r n) j e = omega arith
joined_link (holds_w n) j e = omega arith
joined_link (turn_r n) j e = omega arith
joined_link (active_r n) j e = omega arith
joined_link (sees_r n q) j e = omega arith
joined_link (wakes_r n q) j e = omega arith
joined_link (hands n q) j e = omega arith

-- a writer let in is the first in line
holds_first : (f : ℕ → ℕ) (V : ℕ → View) (d : ℕ) (l : List ℕ) → Chain f V 0 (d ∷ l) → (c : ℕ) → In c (d ∷ l)
    → views.reader (V c) ≡ false → granted f (V c) ≡ true → c ≡ d
holds_first f V d l h c (inl e) r g = e
holds_first f V d l h c (inr i) r g =
    let w = chain_pred f V l d h.0.in_line h.1 c i in absurd (joined_link (V w.0) w.1 (w.2.turnw r g))

-- so two of them are one
pub one_holds : (f : ℕ → ℕ) (V : ℕ → View) (l : List ℕ) → Line f V l
    → (c d n m : ℕ) → V c ≡ holds_w n → V d ≡ holds_w m → d ≡ c
one_holds f V l L c d n m e h = go l L.chain (L.members c (ap joined e)) (L.members d (ap joined h))
  where
    go : (l : List ℕ) → Chain f V 0 l → In c l → In d l → d ≡ c
    go [] k i j = absurd i
    go (x ∷ l) k i j =
        holds_first f V x l k d j (ap views.reader h) (ap (granted f) h)
        ∙ sym (holds_first f V x l k c i (ap views.reader e) (ap (granted f) e))

-- the sum with one more add
total_push : (k : ℕ) (l : List Sum) (s : Sum)
    → total k (l ++ s ∷ []) ≡ total k l + cond (eqb s.counter k) s.amount 0
total_push k [] s = omega arith
total_push k (x ∷ l) s = let ih = total_push k l s in omega arith

-- Changes that are no steps.

-- the counters stay where their cells do
pub counted_cells : (z : Size) (f g : ℕ → ℕ) (S : ℕ → Stage) (l : List Sum)
    → ((j : ℕ) → g (counter_cell z.nodes j) ≡ f (counter_cell z.nodes j)) → Counted z f S l → Counted z g S l
counted_cells z f g S l e J = record {
  counts = λ j lt. e j ∙ J.counts j lt;
  loaded = λ c n k a v q. J.loaded c n k a v q ∙ sym (e k);
}

-- a store to the tail or to a cell of a node
pub counted_store : (z : Size) (f : ℕ → ℕ) (S : ℕ → Stage) (l : List Sum) (a v : ℕ) → a < 1 + 4 * z.nodes
    → Counted z f S l → Counted z (at f a v) S l
counted_store z f S l a v h J =
    counted_cells z f (at f a v) S l (λ j. at_other f a v (counter_cell z.nodes j) (λ q. omega arith)) J

-- a stage that is not about to store an add
pub counted_stage : (z : Size) (f : ℕ → ℕ) (S : ℕ → Stage) (l : List Sum) (c : ℕ) (s : Stage) → finishing s ≡ false
    → Counted z f S l → Counted z f (at S c s) l
counted_stage z f S l c s h J = record {
  counts = J.counts;
  loaded = at_all (λ (d : ℕ) (s : Stage). Loads z.nodes f s) S c s
      (loaded_keeps z.nodes f s (calm_keeps z.nodes f s h)) (λ d _. J.loaded d);
}

-- A step of card c.

-- what a load answers stands in its cell
load_stands : (c a v : ℕ) (f : ℕ → ℕ) (t : ℕ → Tx) (x : Tx)
    → (model.load_seen c a f t x).answer ≡ Ok v → v ≡ (model.load_seen c a f t x).cell a
load_stands c a v f t none q = one_value (Ok (f a)) v (f a) q refl
load_stands c a v f t (live r w) q = cc
load_stands c a v f t doomed q = cc

-- an add to a count that may already be at its bound
capped_more : (v x a : ℕ) → v ≡ min 65535 x → min 65535 (v + a) ≡ min 65535 (x + a)
capped_more v x a h = omega arith

module _ (z : Size) (f : ℕ → ℕ) (t : ℕ → Tx) (S : ℕ → Stage) (ls : List ℕ) (L : Line f (λ d. view (S d)) ls)
    (sound : (d : ℕ) → Sound z.nodes z.counters (S d)) (l : List Sum) (J : Counted z f S l) (c : ℕ)
    (h : Agrees f (S c) (t c)) (k : MemoryCall) (e : call_of z.nodes c (S c) ≡ Some k) where
  abbrev N : ℕ
  N = z.nodes

  -- the outcome of the card's call, and its stage after it
  abbrev o : model.Out
  o = seen c k f t

  abbrev later : Stage
  later = (advanced (S c) o.answer).0

  -- what is to be shown of an outcome
  abbrev CountsOn : model.Out → Type 0
  CountsOn o = Counted z o.cell (at S c (advanced (S c) o.answer).0)
      (summed c (cond (accepted o.answer) (deed (S c)) plain) l)

  -- the card is not about to store an add: the counters stay
  others_stay : finishing (S c) ≡ false → (j : ℕ) → o.cell (counter_cell N j) ≡ f (counter_cell N j)
  others_stay p j = stays_above c (1 + 4 * N) f t (S c) k (t c)
      (row N z.counters c (S c) (sound c) k e) h (writes_below N z.counters (S c) (sound c))
      (subst (Low (1 + 4 * N)) e (calm_row N z.counters c (S c) (sound c) p).1) (counter_cell N j) (omega arith)

  -- and no add is finished
  same_sums : finishing (S c) ≡ false → (b : Bool) → summed c (cond b (deed (S c)) plain) l ≡ l
  same_sums p true = (calm_row N z.counters c (S c) (sound c) p).0 c l
  same_sums p false = refl

  -- a refused card keeps no count
  keeps_refused : finishing (S c) ≡ false → (g : ℕ → ℕ) (x : MemoryFault) (r : Refusal)
      → Keeps N g (returns_by (S c) x r).0
  keeps_refused p g x OutOfRange = calm_keeps N g (S c) p
  keeps_refused p g x Already = calm_keeps N g (S c) p
  keeps_refused p g x NoTransaction = calm_keeps N g (S c) p
  keeps_refused p g x Doomed = calm_keeps N g (begin_of (S c)) (calm_begin (S c) ∙ p)
  keeps_refused p g x Full = calm_keeps N g (S c) p

  -- the card's new stage keeps a count only where it has just loaded it
  keeps_later : finishing (S c) ≡ false → Keeps N o.cell later
  keeps_later p = go o.answer refl
    where
      got : (v : ℕ) → o.answer ≡ Ok v → (a : ℕ) → call_of N c (S c) ≡ Some (call.Load c a) → v ≡ o.cell a
      got v q a y = subst (λ (k : MemoryCall). (seen c k f t).answer ≡ Ok v → v ≡ (seen c k f t).cell a)
          (one_call (call.Load c a) k (call_of N c (S c)) y e) (load_stands c a v f t (t c)) q

      go : (r : Result ℕ MemoryFault) → o.answer ≡ r → Keeps N o.cell (advanced (S c) r).0
      go (Ok v) q = keeps_goes N c o.cell (S c) v (got v q)
      go (Err x) q = keeps_refused p o.cell x x.refusal

  -- any step but the store of an add
  calm_counted : finishing (S c) ≡ false → CountsOn o
  calm_counted p = record {
    counts = λ j lt. others_stay p j ∙ J.counts j lt
        ∙ ap (λ (l : List Sum). min 65535 (total j l)) (sym (same_sums p (accepted o.answer)));
    loaded = at_all (λ (d : ℕ) (s : Stage). Loads N o.cell s) S c later
        (loaded_keeps N o.cell later (keeps_later p))
        (λ d _ n j a v q. J.loaded d n j a v q ∙ sym (others_stay p j));
  }

  -- the standing values after the store of an add of a to counter j, which stood at v
  abbrev stored : ℕ → ℕ → ℕ → ℕ → ℕ
  stored j a v = at f (counter_cell N j) (capped v a)

  -- the counters after it
  count_stored : (n j a v : ℕ) → S c ≡ Adds n (A2 j a v) → (i : ℕ) → i < z.counters → (i ≡ j) ⊎ (i ≡ j → ⊥)
      → stored j a v (counter_cell N i) ≡ min 65535 (total i l + cond (eqb j i) a 0)
  count_stored n j a v q i lt (inl y) =
      subst (λ (i : ℕ). i < z.counters → stored j a v (counter_cell N i) ≡ min 65535 (total i l + cond (eqb j i) a 0))
      (sym y)
      (λ lj. rw (eq-eqb j j refl, at_same f (counter_cell N j) (capped v a))
      (capped_more v (total j l) a (J.loaded c n j a v q ∙ J.counts j lj))) lt
  count_stored n j a v q i lt (inr y) =
      at_other f (counter_cell N j) (capped v a) (counter_cell N i) (λ p. y (omega arith)) ∙ J.counts i lt
      ∙ rw (ne_eqb j i (λ p. y (sym p))) (omega arith)

  -- no other card is in the middle of an add
  add_stored : (n j a v : ℕ) → S c ≡ Adds n (A2 j a v)
      → Counted z (stored j a v) (at S c (Inside n mode.Write))
      (l ++ record { card = c; counter = j; amount = a } ∷ [])
  add_stored n j a v q = record {
    counts = λ i lt. count_stored n j a v q i lt (cases_eq i j)
        ∙ ap (min 65535) (sym (total_push i l (record { card = c; counter = j; amount = a })));
    loaded = at_all (λ (d : ℕ) (s : Stage). Loads N (stored j a v) s) S c (Inside n mode.Write)
        (loaded_keeps N (stored j a v) (Inside n mode.Write) tt)
        (λ d nd m i x y r. absurd (nd (one_holds f (λ d. view (S d)) ls L c d n m (ap view q) (ap view r))));
  }

  -- the store of an add
  add_counted : (n j a v : ℕ) → S c ≡ Adds n (A2 j a v) → CountsOn o
  add_counted n j a v q = subst CountsOn (sym outcome)
      (subst (λ (s : Stage). Counted z (stored j a v) (at S c (goes s 0).0) (summed c (deed s) l)) (sym q)
      (add_stored n j a v q))
    where
      outcome : o ≡ model.store_seen c (counter_cell N j) (capped v a) f t none
      outcome =
          ap (λ (k : MemoryCall). seen c k f t)
          (one_call k (call.Store c (counter_cell N j) (capped v a)) (call_of N c (S c)) e (ap (call_of N c) q))
          ∙ ap (model.store_seen c (counter_cell N j) (capped v a) f t) (outside f (S c) (t c) (ap in_tx q) h)

  -- a step of card c keeps the counters
  pub step_counted : Counted z (seen c k f t).cell (at S c (advanced (S c) (seen c k f t).answer).0)
      (summed c (cond (accepted (seen c k f t).answer) (deed (S c)) plain) l)
  step_counted = ⊎_elim
      (λ p. let w = finishing_is (S c) p in add_counted w.0 w.1 w.2 w.3 w.4)
      calm_counted (cases_Bool (finishing (S c)))
