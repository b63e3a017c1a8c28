-- From lists to functions: a memory call on a meaning is the call seen through the standing values and the
-- transactions, and a card's new stage is a change of the stages at one place.
use Rattle.std.proofs.Common.{◌≡◌, ℕ, zero, suc, ◌<◌, ◌⊎◌, List, [], ◌∷◌, map, length, get_or, set, Some, None}
use Rattle.std.proofs.Common.{Option, sym, refl, ap, ◌∙◌, subst, inl, inr}
use mathlib.Core.Path.{fun_ext}
use Rattle.std.proofs.lemmas.Bool.{cases_eq, eq-eqb, ne_eqb, lt-ltb}
use Rattle.std.proofs.lemmas.List.{get_or-set_same, get_or-set_other, length-set, length-map}
use Rattle.memory.specs.declared.access.Access.{Access}
use Rattle.memory.specs.declared.access.Access.TheVariants.{Reads, Writes}
use Rattle.memory.specs.declared.write.Write.{Write}
use Rattle.memory.specs.declared.call.MemoryCall.{MemoryCall}
use Rattle.memory.specs.declared.call.MemoryCall.TheVariants as call
use Rattle.memory.specs.Meaning.{Meaning, Outcome, Tx, none, live, doomed, standing, tx_of, struck, served, landed}
use Rattle.memory.specs.Meaning.{value_in, marking, recording}
use Rattle.memory.specs.Meaning.{load_at, store_at, begin_at, read_marking, read_open, read_at, write_open, write_at}
use Rattle.memory.specs.Meaning.{commit_at, drop_at}
use Rattle.memory.specs.Calls.{performed, as_zero}
use Rattle.memory.proofs.Soundness.{length_landed, length_served}
use Rattle.stages.specs.declared.stage.Stage.{Stage}
use Rattle.stages.specs.declared.stage.Card.{Card}
use Rattle.lock.specs.Lock.{LockState, stage_of, staged, idle_card}
use Rattle.board.proofs.Cells.{at, at_same, at_other}
use Rattle.board.proofs.Model.{Out, lands, seen, load_seen, store_seen, begin_seen, mark_seen, value_seen, read_seen}
use Rattle.board.proofs.Model.{record_seen, write_seen, commit_seen, drop_seen}

-- a list as a function
abbrev place : {A : Type 0} → A → List A → ℕ → A
place d xs i = get_or xs i d

-- a list with one element set is the function changed at that place
pub set_is : {A : Type 0} (d : A) (xs : List A) (i : ℕ) (v : A) → i < length xs
    → place d (set xs i v) ≡ at (place d xs) i v
set_is {A} d xs i v h = fun_ext (λ a. go a (cases_eq a i))
  where
    go : (a : ℕ) → (a ≡ i) ⊎ (a ≡ i → ⊥) → get_or (set xs i v) a d ≡ at (place d xs) i v a
    go a (inl e) = subst (λ (a : ℕ). get_or (set xs i v) a d ≡ at (place d xs) i v a) (sym e)
        (get_or-set_same xs i v d h ∙ sym (at_same (place d xs) i v))
    go a (inr n) = get_or-set_other xs i a v d n ∙ sym (at_other (place d xs) i v a n)

-- struck transactions, one by one
struck_at : (k : Access) (a : ℕ) (xs : List Tx) (d : ℕ)
    → get_or (map (struck k a) xs) d none ≡ struck k a (get_or xs d none)
struck_at k a [] d = refl
struck_at k a (x ∷ xs) zero = refl
struck_at k a (x ∷ xs) (suc d) = struck_at k a xs d

-- an accepted access: all others are struck, the card has its own
served_is : (k : Access) (c a : ℕ) (own : Tx) (m : Meaning) → c < length m.txs
    → tx_of (served k c a own m) ≡ at (λ d. struck k a (tx_of m d)) c own
served_is k c a own m h = set_is none (map (struck k a) m.txs) c own (rw (length-map m.txs (struck k a)) h)
    ∙ ap (λ (t : ℕ → Tx). at t c own) (fun_ext (struck_at k a m.txs))

-- the cells of some writes lie below b
abbrev pub Below : ℕ → List Write → Type 0
Below b [] = Unit {0}
Below b (w ∷ ws) = (w.cell < b) × Below b ws

-- a transaction writes cells that there are
abbrev pub Recorded : Tx → Type 0
Recorded none = Unit {0}
Recorded (live r w) = Below 137 w
Recorded doomed = Unit {0}

-- all recorded values made standing
landed_is : (ws : List Write) (cs : List ℕ) → length cs ≡ 137 → Below 137 ws
    → place 0 (landed cs ws) ≡ lands ws (place 0 cs)
landed_is [] cs e h = refl
landed_is (w ∷ ws) cs e h =
    landed_is ws (set cs w.cell w.value) (length-set cs w.cell w.value ∙ e) h.1
    ∙ ap (lands ws) (set_is 0 cs w.cell w.value (rw e h.0))

-- an outcome of a call of the memory is that of the call seen through functions, and the lengths are kept
pub record Same (o : Outcome ℕ) (p : Out) : Type 0 where
  pub cell : standing o.after ≡ p.cell
  pub tx : tx_of o.after ≡ p.tx
  pub answer : o.answer ≡ p.answer
  pub cells : length o.after.cells ≡ 137
  pub txs : length o.after.txs ≡ 8

module _ (m : Meaning) (hc : length m.cells ≡ 137) (ht : length m.txs ≡ 8) (c : ℕ) (lc : c < 8) where
  -- the card has a transaction
  card : c < length m.txs
  card = rw ht lc

  -- Each call, by the card's transaction.

  -- load
  same_load : (a : ℕ) (x : Tx) → Same (load_at m c a x) (load_seen c a (standing m) (tx_of m) x)
  same_load a none = record {
    cell = refl;
    tx = served_is Reads c a none m card;
    answer = refl;
    cells = hc;
    txs = length_served Reads c a none m ∙ ht;
  }
  same_load a (live r w) = record { cell = refl; tx = refl; answer = refl; cells = hc; txs = ht }
  same_load a doomed = record { cell = refl; tx = refl; answer = refl; cells = hc; txs = ht }

  -- store
  same_store : (a v : ℕ) → a < 137 → (x : Tx)
      → Same (as_zero (store_at m c a v x)) (store_seen c a v (standing m) (tx_of m) x)
  same_store a v h none = record {
    cell = set_is 0 m.cells a v (rw hc h);
    tx = served_is Writes c a none m card;
    answer = refl;
    cells = length-set m.cells a v ∙ hc;
    txs = length_served Writes c a none m ∙ ht;
  }
  same_store a v h (live r w) = record { cell = refl; tx = refl; answer = refl; cells = hc; txs = ht }
  same_store a v h doomed = record { cell = refl; tx = refl; answer = refl; cells = hc; txs = ht }

  -- begin
  same_begin : (x : Tx) → Same (as_zero (begin_at m c x)) (begin_seen c (standing m) (tx_of m) x)
  same_begin none = record {
    cell = refl;
    tx = set_is none m.txs c (live [] []) card;
    answer = refl;
    cells = hc;
    txs = length-set m.txs c (live [] []) ∙ ht;
  }
  same_begin (live r w) = record { cell = refl; tx = refl; answer = refl; cells = hc; txs = ht }
  same_begin doomed = record { cell = refl; tx = refl; answer = refl; cells = hc; txs = ht }

  -- read, by the marks after it, by the transaction's own write, and whole
  same_mark : (a : ℕ) (w : List Write) (r : Option (List ℕ))
      → Same (read_marking m c a w r) (mark_seen c a (standing m) (tx_of m) w r)
  same_mark a w (Some r) = record {
    cell = refl;
    tx = served_is Reads c a (live r w) m card;
    answer = refl;
    cells = hc;
    txs = length_served Reads c a (live r w) m ∙ ht;
  }
  same_mark a w None = record {
    cell = refl;
    tx = set_is none m.txs c none card;
    answer = refl;
    cells = hc;
    txs = length-set m.txs c none ∙ ht;
  }

  same_value : (a : ℕ) (r : List ℕ) (w : List Write) (v : Option ℕ)
      → Same (read_open m c a r w v) (value_seen c a (standing m) (tx_of m) r w v)
  same_value a r w (Some v) = record {
    cell = refl;
    tx = served_is Reads c a (live r w) m card;
    answer = refl;
    cells = hc;
    txs = length_served Reads c a (live r w) m ∙ ht;
  }
  same_value a r w None = same_mark a w (marking r a)

  same_read : (a : ℕ) (x : Tx) → Same (read_at m c a x) (read_seen c a (standing m) (tx_of m) x)
  same_read a none = record { cell = refl; tx = refl; answer = refl; cells = hc; txs = ht }
  same_read a (live r w) = same_value a r w (value_in w a)
  same_read a doomed = record {
    cell = refl;
    tx = set_is none m.txs c none card;
    answer = refl;
    cells = hc;
    txs = length-set m.txs c none ∙ ht;
  }

  -- write, by the writes after it, and whole
  same_record : (a : ℕ) (r : List ℕ) (w : Option (List Write))
      → Same (as_zero (write_open m c a r w)) (record_seen c a (standing m) (tx_of m) r w)
  same_record a r (Some w) = record {
    cell = refl;
    tx = served_is Writes c a (live r w) m card;
    answer = refl;
    cells = hc;
    txs = length_served Writes c a (live r w) m ∙ ht;
  }
  same_record a r None = record {
    cell = refl;
    tx = set_is none m.txs c none card;
    answer = refl;
    cells = hc;
    txs = length-set m.txs c none ∙ ht;
  }

  same_write : (a v : ℕ) (x : Tx) → Same (as_zero (write_at m c a v x)) (write_seen c a v (standing m) (tx_of m) x)
  same_write a v none = record { cell = refl; tx = refl; answer = refl; cells = hc; txs = ht }
  same_write a v (live r w) = same_record a r (recording w a v)
  same_write a v doomed = record {
    cell = refl;
    tx = set_is none m.txs c none card;
    answer = refl;
    cells = hc;
    txs = length-set m.txs c none ∙ ht;
  }

  -- commit
  same_commit : (x : Tx) → Recorded x → Same (as_zero (commit_at m c x)) (commit_seen c (standing m) (tx_of m) x)
  same_commit none h = record { cell = refl; tx = refl; answer = refl; cells = hc; txs = ht }
  same_commit (live r w) h = record {
    cell = landed_is w m.cells hc h;
    tx = set_is none m.txs c none card;
    answer = refl;
    cells = length_landed m.cells w ∙ hc;
    txs = length-set m.txs c none ∙ ht;
  }
  same_commit doomed h = record {
    cell = refl;
    tx = set_is none m.txs c none card;
    answer = refl;
    cells = hc;
    txs = length-set m.txs c none ∙ ht;
  }

  -- drop
  same_drop : (x : Tx) → Same (as_zero (drop_at m c x)) (drop_seen c (standing m) (tx_of m) x)
  same_drop none = record { cell = refl; tx = refl; answer = refl; cells = hc; txs = ht }
  same_drop (live r w) = record {
    cell = refl;
    tx = set_is none m.txs c none card;
    answer = refl;
    cells = hc;
    txs = length-set m.txs c none ∙ ht;
  }
  same_drop doomed = record {
    cell = refl;
    tx = set_is none m.txs c none card;
    answer = refl;
    cells = hc;
    txs = length-set m.txs c none ∙ ht;
  }

-- a call of card c, on a cell that there is
abbrev pub Ranged : ℕ → MemoryCall → Type 0
Ranged c call.Clear = ⊥
Ranged c (call.Look a) = ⊥
Ranged c (call.Load d a) = (d ≡ c) × (a < 137)
Ranged c (call.Store d a v) = (d ≡ c) × (a < 137)
Ranged c (call.Begin d) = d ≡ c
Ranged c (call.Read d a) = (d ≡ c) × (a < 137)
Ranged c (call.Write d a v) = (d ≡ c) × (a < 137)
Ranged c (call.Commit d) = d ≡ c
Ranged c (call.Drop d) = d ≡ c

-- a call of a card that there may be, on a cell that there is
pub bridge : (m : Meaning) → length m.cells ≡ 137 → length m.txs ≡ 8 → (c : ℕ) → c < 8
    → (k : MemoryCall) → Ranged c k → Recorded (tx_of m c) → Same (performed m k) (seen c k (standing m) (tx_of m))
unfolding performed
bridge m hc ht c lc call.Clear r w = absurd r
bridge m hc ht c lc (call.Look a) r w = absurd r
bridge m hc ht c lc (call.Load d a) r w =
    rw (r.0, lt-ltb c 8 lc, lt-ltb a 137 r.1) (same_load m hc ht c lc a (tx_of m c))
bridge m hc ht c lc (call.Store d a v) r w =
    rw (r.0, lt-ltb c 8 lc, lt-ltb a 137 r.1) (same_store m hc ht c lc a v r.1 (tx_of m c))
bridge m hc ht c lc (call.Begin d) r w = rw (r, lt-ltb c 8 lc) (same_begin m hc ht c lc (tx_of m c))
bridge m hc ht c lc (call.Read d a) r w =
    rw (r.0, lt-ltb c 8 lc, lt-ltb a 137 r.1) (same_read m hc ht c lc a (tx_of m c))
bridge m hc ht c lc (call.Write d a v) r w =
    rw (r.0, lt-ltb c 8 lc, lt-ltb a 137 r.1) (same_write m hc ht c lc a v (tx_of m c))
bridge m hc ht c lc (call.Commit d) r w = rw (r, lt-ltb c 8 lc) (same_commit m hc ht c lc (tx_of m c) w)
bridge m hc ht c lc (call.Drop d) r w = rw (r, lt-ltb c 8 lc) (same_drop m hc ht c lc (tx_of m c))

-- a card's new stage
pub staged_is : (s : LockState) (m : Meaning) (c : ℕ) (g : Stage) → length s.cards ≡ 8 → c < 8
    → stage_of (staged s m c g) ≡ at (stage_of s) c g
staged_is s m c g e h = fun_ext (λ d. ap (λ (f : ℕ → Card). (f d).stage)
    (set_is idle_card s.cards c (record { stage = g }) (rw e h)) ∙ inner d (cases_eq d c))
  where
    inner : (d : ℕ) → (d ≡ c) ⊎ (d ≡ c → ⊥)
        → (at (place idle_card s.cards) c (record { stage = g }) d).stage ≡ at (stage_of s) c g d
    inner d (inl p) = rw (eq-eqb d c p)
    inner d (inr p) = rw (ne_eqb d c p)

-- there are as many cards as before
pub staged_length : (s : LockState) (m : Meaning) (c : ℕ) (g : Stage) → length s.cards ≡ 8
    → length (staged s m c g).cards ≡ 8
staged_length s m c g e = length-set s.cards c (record { stage = g }) ∙ e
