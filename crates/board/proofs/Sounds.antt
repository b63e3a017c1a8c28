-- Every step keeps the stages sound: a link that is read is at that moment the link of a card in line, or 0.
use Rattle.std.proofs.Common.{◌≡◌, ℕ, zero, suc, ◌<◌, ◌≤◌, Bool, true, false, cond, eqb, List, Some, Ok, Err, Result}
use Rattle.std.proofs.Common.{sym, refl, subst, ⊎_elim, arith}
use Rattle.memory.specs.declared.fault.MemoryFault.{MemoryFault}
use Rattle.memory.specs.declared.fault.Refusal.{Refusal}
use Rattle.memory.specs.declared.fault.Refusal.TheVariants.{OutOfRange, Already, NoTransaction, Doomed, Full}
use Rattle.memory.specs.declared.call.MemoryCall.{MemoryCall}
use Rattle.memory.specs.declared.call.MemoryCall.TheVariants as call
use Rattle.memory.specs.Meaning.{Tx, none, live, doomed, value_in}
use Rattle.stages.specs.declared.answer.Answer.{Answer}
use Rattle.stages.specs.declared.answer.Answer.TheVariants.{Step, In, Out}
use Rattle.stages.specs.declared.stage.Mode.TheVariants as mode
use Rattle.stages.specs.declared.stage.WriterEntry.TheVariants.{W1, W2, W3, W4, W5, W6}
use Rattle.stages.specs.declared.stage.ReaderEntry.TheVariants.{R1, R2, R3, R4, R5, R6, R7}
use Rattle.stages.specs.declared.stage.ReaderEntry.TheVariants.{R8, R9, R10, R11, R12, R13, R14}
use Rattle.stages.specs.declared.stage.Addition.TheVariants.{A1, A2}
use Rattle.stages.specs.declared.stage.WriterExit.TheVariants.{X1, X2, X3, X4, X5}
use Rattle.stages.specs.declared.stage.ReaderExit.TheVariants.{Y1, Y2, Y3, Y4, Y5, Y6, Y7, Y8}
use Rattle.stages.specs.declared.stage.Stage.{Stage}
use Rattle.stages.specs.declared.stage.Stage.TheVariants.{Idle, WriterEnters, ReaderEnters, Inside, Adds}
use Rattle.stages.specs.declared.stage.Stage.TheVariants.{WriterLeaves, ReaderLeaves}
use Rattle.stages.specs.Layout.{reader, writer, active}
use Rattle.stages.specs.Rows.{call_of, begin_of}
use Rattle.lock.specs.Lock.{goes, returns_by, advanced}
use Rattle.board.proofs.Links.{sound_link}
use Rattle.board.proofs.Cells.{next, prev, clash}
use Rattle.board.proofs.Views.{view, node, link, joined}
use Rattle.board.proofs.Views as views
use Rattle.board.proofs.Chain.{Line, who, chain_end, chain_behind, chain_place}
use Rattle.board.proofs.Held.{in_tx, Agrees}
use Rattle.board.proofs.Sound.{Named, Sound}
use Rattle.board.proofs.Model.{seen, value_seen, read_seen}
use Rattle.board.proofs.Rows.{Row, row, one_call}

-- the begin of a stage's transaction
pub begin_sound : (N K : ℕ) (s : Stage) → Sound N K s → Sound N K (begin_of s)
begin_sound N K Idle h = h
begin_sound N K (WriterEnters n W1) h = h
begin_sound N K (WriterEnters n W2) h = h
begin_sound N K (WriterEnters n (W3 p)) h = h.0
begin_sound N K (WriterEnters n (W4 p)) h = h.0
begin_sound N K (WriterEnters n (W5 p)) h = h.0
begin_sound N K (WriterEnters n W6) h = h
begin_sound N K (ReaderEnters n R1) h = h
begin_sound N K (ReaderEnters n R2) h = h
begin_sound N K (ReaderEnters n (R3 p)) h = h.0
begin_sound N K (ReaderEnters n (R4 p)) h = h.0
begin_sound N K (ReaderEnters n (R5 p)) h = h.0
begin_sound N K (ReaderEnters n (R6 p)) h = h.0
begin_sound N K (ReaderEnters n (R7 p s)) h = h.0
begin_sound N K (ReaderEnters n R8) h = h
begin_sound N K (ReaderEnters n R9) h = h
begin_sound N K (ReaderEnters n R10) h = h
begin_sound N K (ReaderEnters n R11) h = h
begin_sound N K (ReaderEnters n (R12 q)) h = h.0
begin_sound N K (ReaderEnters n (R13 q)) h = h
begin_sound N K (ReaderEnters n (R14 q)) h = h
begin_sound N K (Inside n mode.Write) h = h
begin_sound N K (Inside n mode.Read) h = h
begin_sound N K (WriterLeaves n X1) h = h
begin_sound N K (WriterLeaves n X2) h = h
begin_sound N K (WriterLeaves n (X3 q)) h = h.0
begin_sound N K (WriterLeaves n (X4 q)) h = h.0
begin_sound N K (WriterLeaves n (X5 q)) h = h
begin_sound N K (ReaderLeaves n Y1) h = h
begin_sound N K (ReaderLeaves n Y2) h = h
begin_sound N K (ReaderLeaves n (Y3 p)) h = h.0
begin_sound N K (ReaderLeaves n (Y4 p q)) h = h.0
begin_sound N K (ReaderLeaves n (Y5 p q)) h = h.0
begin_sound N K (ReaderLeaves n (Y6 p q)) h = h.0
begin_sound N K (ReaderLeaves n (Y7 p q s)) h = h.0
begin_sound N K (ReaderLeaves n (Y8 q)) h = h
begin_sound N K (Adds n (A1 k x)) h = h
begin_sound N K (Adds n (A2 k x v)) h = h

-- the link of a node that there is
named_link : (N p : ℕ) → Named N p → p ≤ N
named_link N zero h = absurd h
named_link N (suc m) h = omega arith

-- one of two sound stages
sound_cond : (N K : ℕ) (b : Bool) (x y : Stage × Answer) → Sound N K x.0 → Sound N K y.0
    → Sound N K (cond b x y).0
sound_cond N K true x y h k = h
sound_cond N K false x y h k = k

-- a reader that has joined
sound_joined : (N K n : ℕ) (b : Bool) → n < N → Sound N K (ReaderEnters n (cond b R9 R8))
sound_joined N K n true h = h
sound_joined N K n false h = h

-- a refused card stays or starts again
sound_returns : (N K : ℕ) (s : Stage) (f : MemoryFault) (r : Refusal) → Sound N K s → Sound N K (returns_by s f r).0
sound_returns N K s f OutOfRange h = h
sound_returns N K s f Already h = h
sound_returns N K s f NoTransaction h = h
sound_returns N K s f Doomed h = begin_sound N K s h
sound_returns N K s f Full h = h

-- an answer has one value
pub one_value : (r : Result ℕ MemoryFault) (x y : ℕ) → r ≡ Ok x → r ≡ Ok y → x ≡ y
one_value r x y h k = cc

-- what a row reads is the standing value
pub read_answer : (c a : ℕ) (f : ℕ → ℕ) (t : ℕ → Tx) (s : Stage) (x : Tx) → Row c s (call.Read c a) → Agrees f s x
    → (v : ℕ) → (read_seen c a f t x).answer ≡ Ok v → v ≡ f a
read_answer c a f t s none r k v h = clash (in_tx s) r.1 k
read_answer c a f t s doomed r k v h = cc
read_answer c a f t s (live m w) r k v h =
    one_value (value_seen c a f t m w (value_in w a)).answer v (f a) h (rw (k.1, k.2, r.2, r.3))

module _ (N K : ℕ) (f : ℕ → ℕ) (S : ℕ → Stage) (l : List ℕ) (L : Line f (λ d. view (S d)) l)
    (sound : (d : ℕ) → Sound N K (S d)) (c : ℕ) where
  -- the link of the card ahead is one of a node that there is, or 0
  who_link : (p : ℕ) → link (who (λ d. view (S d)) p) ≤ N
  who_link zero = omega arith
  who_link (suc d) = sound_link N K (S d) (sound d)

  -- so is the tail
  tail_in : f 0 ≤ N
  tail_in =
      let w = chain_end f (λ d. view (S d)) l 0 tt L.chain in
      let h = who_link w.0 in let e = w.2.tail in omega arith

  -- so is the next of a card in line
  next_in : joined (view (S c)) ≡ true → (link (view (S c)) ≡ 0 → ⊥) → f (next (node (view (S c)))) ≤ N
  next_in j n = ⊎_elim
      (λ E. ⊎_elim (λ z. absurd (n z)) (λ z. omega arith) E.last)
      (λ w. let b = sound_link N K (S w.0) (sound w.0) in
      ⊎_elim (λ z. absurd (n z)) (λ z. omega arith) w.2.from)
      (chain_behind f (λ d. view (S d)) l 0 L.chain c (L.members c j))

  -- so is the prev of a reader in line
  prev_in : joined (view (S c)) ≡ true → views.reader (view (S c)) ≡ true → f (prev (node (view (S c)))) ≤ N
  prev_in j r =
      let w = chain_place f (λ d. view (S d)) l L.chain c (L.members c j) in
      let h = who_link w.0 in let e = w.2.ahead r in omega arith

  -- a value read from the tail is such a link
  got_tail : (v : ℕ) → v ≡ f 0 → v ≤ N
  got_tail v e = let h = tail_in in omega arith

  -- a value read from the next
  got_next : (s : Stage) → s ≡ S c → joined (view s) ≡ true → (link (view s) ≡ 0 → ⊥)
      → (v : ℕ) → v ≡ f (next (node (view s))) → v ≤ N
  got_next s q = subst (λ (s : Stage). joined (view s) ≡ true → (link (view s) ≡ 0 → ⊥)
      → (v : ℕ) → v ≡ f (next (node (view s))) → v ≤ N) (sym q) (λ j n v e. let h = next_in j n in omega arith)

  -- a value read from the prev
  got_prev : (s : Stage) → s ≡ S c → joined (view s) ≡ true → views.reader (view s) ≡ true
      → (v : ℕ) → v ≡ f (prev (node (view s))) → v ≤ N
  got_prev s q = subst (λ (s : Stage). joined (view s) ≡ true → views.reader (view s) ≡ true
      → (v : ℕ) → v ≡ f (prev (node (view s))) → v ≤ N) (sym q) (λ j r v e. let h = prev_in j r in omega arith)

  -- where an accepted row leads; a row that reads has read the standing value
  sound_goes : (s : Stage) → s ≡ S c → Sound N K s → (v : ℕ)
      → ((a : ℕ) → call_of N c s ≡ Some (call.Read c a) → v ≡ f a) → Sound N K (goes s v).0
  sound_goes Idle e h v g = tt
  sound_goes (WriterEnters n W1) e h v g = h
  sound_goes (WriterEnters n W2) e h v g = (h, got_tail v (g 0 refl))
  sound_goes (WriterEnters n (W3 zero)) e h v g = h
  sound_goes (WriterEnters n (W3 (suc m))) e h v g = let i = h.1 in (h.0, omega arith)
  sound_goes (WriterEnters n (W4 p)) e h v g = (h.0, named_link N p h.1)
  sound_goes (WriterEnters n (W5 zero)) e h v g = h.0
  sound_goes (WriterEnters n (W5 (suc m))) e h v g = h.0
  sound_goes (WriterEnters n W6) e h zero g = h
  sound_goes (WriterEnters n W6) e h (suc v) g = h
  sound_goes (ReaderEnters n R1) e h v g = h
  sound_goes (ReaderEnters n R2) e h v g = (h, got_tail v (g 0 refl))
  sound_goes (ReaderEnters n (R3 zero)) e h v g = h
  sound_goes (ReaderEnters n (R3 (suc m))) e h v g = let i = h.1 in (h.0, omega arith)
  sound_goes (ReaderEnters n (R4 p)) e h v g = h
  sound_goes (ReaderEnters n (R5 p)) e h v g = h
  sound_goes (ReaderEnters n (R6 p)) e h v g = (h.0, named_link N p h.1)
  sound_goes (ReaderEnters n (R7 zero s)) e h v g = h.0
  sound_goes (ReaderEnters n (R7 (suc m) s)) e h v g = sound_joined N K n (eqb s active) h.0
  sound_goes (ReaderEnters n R8) e h zero g = h
  sound_goes (ReaderEnters n R8) e h (suc v) g = h
  sound_goes (ReaderEnters n R9) e h v g = h
  sound_goes (ReaderEnters n R10) e h v g = h
  sound_goes (ReaderEnters n R11) e h v g =
      (h, got_next (ReaderEnters n R11) e refl (λ z. omega arith) v (g (next n) refl))
  sound_goes (ReaderEnters n (R12 zero)) e h v g = h.0
  sound_goes (ReaderEnters n (R12 (suc m))) e h v g = let i = h.1 in (h.0, omega arith)
  sound_goes (ReaderEnters n (R13 q)) e h v g =
      sound_cond N K (eqb v reader) (ReaderEnters n (R14 q), Step) (Inside n mode.Read, In) h h.0
  sound_goes (ReaderEnters n (R14 q)) e h v g = h.0
  sound_goes (Inside n mode.Write) e h v g = h
  sound_goes (Inside n mode.Read) e h v g = h
  sound_goes (WriterLeaves n X1) e h v g = h
  sound_goes (WriterLeaves n X2) e h v g =
      (h, got_next (WriterLeaves n X2) e refl (λ z. omega arith) v (g (next n) refl))
  sound_goes (WriterLeaves n (X3 q)) e h v g = h
  sound_goes (WriterLeaves n (X4 zero)) e h v g = tt
  sound_goes (WriterLeaves n (X4 (suc m))) e h v g = let i = h.1 in (h.0, omega arith)
  sound_goes (WriterLeaves n (X5 q)) e h v g = tt
  sound_goes (ReaderLeaves n Y1) e h v g = h
  sound_goes (ReaderLeaves n Y2) e h v g = (h, got_prev (ReaderLeaves n Y2) e refl refl v (g (prev n) refl))
  sound_goes (ReaderLeaves n (Y3 zero)) e h v g =
      (h.0, h.1, got_next (ReaderLeaves n (Y3 zero)) e refl (λ z. omega arith) v (g (next n) refl))
  sound_goes (ReaderLeaves n (Y3 (suc m))) e h v g =
      let i = h.1 in
      (h.0, omega arith, got_next (ReaderLeaves n (Y3 (suc m))) e refl (λ z. omega arith) v (g (next n) refl))
  sound_goes (ReaderLeaves n (Y4 p q)) e h v g = (h.0, named_link N p h.1, h.2)
  sound_goes (ReaderLeaves n (Y5 p zero)) e h v g = h
  sound_goes (ReaderLeaves n (Y5 zero (suc k))) e h v g = let i = h.2 in (h.0, refl, omega arith)
  sound_goes (ReaderLeaves n (Y5 (suc m) (suc k))) e h v g = h
  sound_goes (ReaderLeaves n (Y6 p t)) e h v g = let i = h.1 in (h.0, omega arith, named_link N t h.2)
  sound_goes (ReaderLeaves n (Y7 p zero s)) e h v g = tt
  sound_goes (ReaderLeaves n (Y7 zero (suc k) s)) e h v g =
      let i = h.2 in
      sound_cond N K (eqb s writer) (ReaderLeaves n (Y8 (suc k)), Step) (Idle, Out) (h.0, omega arith) tt
  sound_goes (ReaderLeaves n (Y7 (suc m) (suc k) s)) e h v g = tt
  sound_goes (ReaderLeaves n (Y8 q)) e h v g = tt
  sound_goes (Adds n (A1 k x)) e h v g = h
  sound_goes (Adds n (A2 k x y)) e h v g = h.0

  -- a step of card c keeps its stage sound
  pub step_sound : (t : ℕ → Tx) → Agrees f (S c) (t c) → (k : MemoryCall) → call_of N c (S c) ≡ Some k
      → Sound N K (advanced (S c) (seen c k f t).answer).0
  step_sound t h k e = go (seen c k f t).answer refl
    where
      got : (v : ℕ) → (seen c k f t).answer ≡ Ok v → (a : ℕ) → call_of N c (S c) ≡ Some (call.Read c a) → v ≡ f a
      got v q a p = read_answer c a f t (S c) (t c) (row N K c (S c) (sound c) (call.Read c a) p) h v
          (subst (λ (k : MemoryCall). (seen c k f t).answer ≡ Ok v)
          (one_call k (call.Read c a) (call_of N c (S c)) e p) q)

      go : (r : Result ℕ MemoryFault) → (seen c k f t).answer ≡ r → Sound N K (advanced (S c) r).0
      go (Ok v) q = sound_goes (S c) refl (sound c) v (got v q)
      go (Err x) q = sound_returns N K (S c) x x.refusal (sound c)
