-- The memory's isolation: what an open transaction holds agrees with its card's stage, and what it read still stands,
-- whatever the other cards call.
use Rattle.std.proofs.Common.{◌≡◌, ℕ, Bool, true, false, cond, ◌⊎◌, List, [], ◌∷◌, ◌++◌, Some, Ok, Err, Result}
use Rattle.std.proofs.Common.{sym, refl, ap, ◌∙◌, subst, inl, inr, ⊎_elim, arith}
use mathlib.Core.Path.{fun_ext}
use Rattle.std.proofs.lemmas.Bool.Decides.{nat_tests}
use Rattle.std.proofs.lemmas.Bool.{cases_eq, eq-eqb, ne_eqb}
use Rattle.memory.specs.declared.access.Access.{Access}
use Rattle.memory.specs.declared.access.Access.TheVariants.{Reads, Writes}
use Rattle.memory.specs.declared.write.Write.{Write}
use Rattle.memory.specs.declared.fault.MemoryFault.{MemoryFault}
use Rattle.memory.specs.declared.fault.Refusal.TheVariants.{Doomed}
use Rattle.memory.specs.declared.call.MemoryCall.{MemoryCall}
use Rattle.memory.specs.declared.call.MemoryCall.TheVariants as call
use Rattle.memory.specs.Meaning.{Tx, none, live, doomed, has, wrote, marked, conflicts, struck}
use Rattle.memory.proofs.Isolation.{has_more}
use Rattle.stages.specs.declared.stage.Stage.{Stage}
use Rattle.stages.specs.Rows.{call_of, begin_of}
use Rattle.lock.specs.Lock.{goes, advanced}
use Rattle.board.proofs.Cells.{at, at_other, at_all, at_all2, clash}
use Rattle.board.proofs.Held.{mk, cells, reads, writes, in_tx, Valid, Agrees, has_written, has_touched, Apart}
use Rattle.board.proofs.Held.{Isolated}
use Rattle.board.proofs.Sound.{Sound}
use Rattle.board.proofs.Model.{Out, out, lands, seen, seen_on, load_seen, store_seen, begin_seen, read_seen}
use Rattle.board.proofs.Model.{write_seen}
use Rattle.board.proofs.Model.{commit_seen, drop_seen}
use Rattle.board.proofs.Rows.{Holds, Row, row, begin_outside}

-- Lists of records.

-- the cells of a list with one more
cells_push : (l : List Write) (a v : ℕ) → cells (l ++ mk a v ∷ []) ≡ cells l ++ a ∷ []
cells_push [] a v = refl
cells_push (e ∷ l) a v = ap (λ (x : List ℕ). e.cell ∷ x) (cells_push l a v)

-- one more value read that stands
valid_push : (f : ℕ → ℕ) (l : List Write) (a v : ℕ) → f a ≡ v → Valid f l → Valid f (l ++ mk a v ∷ [])
valid_push f [] a v e h = (e, tt)
valid_push f (x ∷ l) a v e h = (h.0, valid_push f l a v e h.1)

-- a cell among one record more is among the others or its own
has_push_true : {X : Type 0} (g : X → ℕ) (xs : List X) (x : X) (b : ℕ) → has g (xs ++ x ∷ []) b ≡ true
    → (has g xs b ≡ true) ⊎ (g x ≡ b)
has_push_true g xs x b h =
    ⊎_elim (λ e. inr e) (λ n. inl (sym (has_more g xs x b (λ q. n (sym q))) ∙ h)) (cases_eq (g x) b)

-- a cell that is neither is not among them
has_push_false : {X : Type 0} (g : X → ℕ) (xs : List X) (x : X) (b : ℕ) → has g xs b ≡ false → (g x ≡ b → ⊥)
    → has g (xs ++ x ∷ []) b ≡ false
has_push_false g xs x b h n = has_more g xs x b (λ q. n (sym q)) ∙ h

-- Transactions.

-- an open transaction that has not touched a cell has neither written nor marked it
touched_parts : (r : List ℕ) (w : List Write) (b : ℕ) → has_touched b (live r w) ≡ false
    → (wrote w b ≡ false) × (marked r b ≡ false)
touched_parts r w b h = (grind arith, grind arith)

-- and the other way round
touched_from : (r : List ℕ) (w : List Write) (b : ℕ) → wrote w b ≡ false → marked r b ≡ false
    → has_touched b (live r w) ≡ false
touched_from r w b h k = rw (h, k)

-- what is written is touched
written_touched : (t : Tx) (a : ℕ) → has_written a t ≡ true → has_touched a t ≡ true
written_touched none a h = h
written_touched doomed a h = h
written_touched (live r w) a h = rw h

-- what is not written keeps its value
pub lands_other : (w : List Write) (f : ℕ → ℕ) (a : ℕ) → wrote w a ≡ false → lands w f a ≡ f a
lands_other [] f a h = refl
lands_other (e ∷ w) f a h = go (cases_eq e.cell a) (lands_other w (at f e.cell e.value) a)
  where
    go : (e.cell ≡ a) ⊎ (e.cell ≡ a → ⊥)
        → (wrote w a ≡ false → lands w (at f e.cell e.value) a ≡ at f e.cell e.value a)
        → lands (e ∷ w) f a ≡ f a
    go (inl p) ih = clash (wrote (e ∷ w) a) (rw (eq-eqb e.cell a p)) h
    go (inr n) ih = ih (rw (ne_eqb e.cell a n) at h) ∙ at_other f e.cell e.value a (λ q. n (sym q))

-- values read stay valid where their cells keep their values
valid_frame : (f g : ℕ → ℕ) (l : List Write) → ((a : ℕ) → marked (cells l) a ≡ true → g a ≡ f a)
    → Valid f l → Valid g l
valid_frame f g [] h v = tt
valid_frame f g (e ∷ l) h v = (
  h e.cell (rw (eq-eqb e.cell e.cell refl)) ∙ v.0,
  valid_frame f g l (λ a m. h a (grind (arith, nat_tests))) v.1,
)

-- a transaction agrees with its stage where the cells that it touched keep their values
agrees_frame : (f g : ℕ → ℕ) (s : Stage) (t : Tx) → ((a : ℕ) → has_touched a t ≡ true → g a ≡ f a)
    → Agrees f s t → Agrees g s t
agrees_frame f g s none h k = k
agrees_frame f g s doomed h k = k
agrees_frame f g s (live r w) h k =
    (k.0, k.1, k.2, valid_frame f g (reads s) (λ a m. h a (touch a (rw k.1 m))) k.3)
  where
    touch : (a : ℕ) → marked r a ≡ true → cond (wrote w a) true (marked r a) ≡ true
    touch a m = grind arith

-- a doom
agrees_cond : (g : ℕ → ℕ) (s : Stage) (t : Tx) (b : Bool) → (b ≡ true → in_tx s ≡ true) → (b ≡ false → Agrees g s t)
    → Agrees g s (cond b doomed t)
agrees_cond g s t true h k = h refl
agrees_cond g s t false h k = k refl

-- who conflicts is inside a transaction
conflict_inside : (f : ℕ → ℕ) (s : Stage) (k : Access) (a : ℕ) (t : Tx) → Agrees f s t → conflicts k a t ≡ true
    → in_tx s ≡ true
conflict_inside f s k a none h e = clash false e refl
conflict_inside f s k a doomed h e = h
conflict_inside f s k a (live r w) h e = h.0

-- an access of another card
agrees_struck : (f : ℕ → ℕ) (s : Stage) (k : Access) (a : ℕ) (t : Tx) → Agrees f s t → Agrees f s (struck k a t)
agrees_struck f s k a t h = agrees_cond f s t (conflicts k a t) (conflict_inside f s k a t h) (λ e. h)

-- what conflicts with no write is not touched
free_touched : (t : Tx) (a : ℕ) → conflicts Writes a t ≡ false → has_touched a t ≡ false
free_touched none a h = refl
free_touched doomed a h = refl
free_touched (live r w) a h = grind arith

-- a store of another card
agrees_store : (f : ℕ → ℕ) (s : Stage) (a v : ℕ) (t : Tx) → Agrees f s t → Agrees (at f a v) s (struck Writes a t)
agrees_store f s a v t k =
    agrees_cond (at f a v) s t (conflicts Writes a t) (conflict_inside f s Writes a t k)
    (λ e. agrees_frame f (at f a v) s t
    (λ b m. at_other f a v b
    (λ q. clash (has_touched a t) (subst (λ (x : ℕ). has_touched x t ≡ true) q m) (free_touched t a e))) k)

-- a struck transaction has written and touched no more
struck_written : (t : Tx) (b : Bool) (a : ℕ) → has_written a (cond b doomed t) ≡ true → has_written a t ≡ true
struck_written t true a h = clash false h refl
struck_written t false a h = h

-- a doom touches nothing new
struck_touched : (t : Tx) (b : Bool) (a : ℕ) → has_touched a t ≡ false → has_touched a (cond b doomed t) ≡ false
struck_touched t true a h = refl
struck_touched t false a h = h

-- who is struck by a look has not written the cell, who is struck by a write has not touched it
miss_reads : (t : Tx) (a : ℕ) → has_written a (struck Reads a t) ≡ false
miss_reads none a = refl
miss_reads doomed a = refl
miss_reads (live r w) a = grind arith

-- after a store or write nobody else has touched the cell
miss_writes : (t : Tx) (a : ℕ) → has_touched a (struck Writes a t) ≡ false
miss_writes none a = refl
miss_writes doomed a = refl
miss_writes (live r w) a = grind arith

-- transactions that are apart stay so when some are struck
apart_struck : (t : ℕ → Tx) (k : Access) (x : ℕ) → Apart t → Apart (λ d. struck k x (t d))
apart_struck t k x h c d a n w =
    struck_touched (t d) (conflicts k x (t d)) a (h c d a n (struck_written (t c) (conflicts k x (t c)) a w))

-- one card's transaction changed
apart_set : (t : ℕ → Tx) (c : ℕ) (u : Tx) → Apart t
    → ((d a : ℕ) → (d ≡ c → ⊥) → has_written a u ≡ true → has_touched a (t d) ≡ false)
    → ((d a : ℕ) → (d ≡ c → ⊥) → has_written a (t d) ≡ true → has_touched a u ≡ false) → Apart (at t c u)
apart_set t c u h h1 h2 d e a =
    at_all (λ (d : ℕ) (x : Tx). (d ≡ e → ⊥) → has_written a x ≡ true → has_touched a (at t c u e) ≡ false) t c u
    (at_all (λ (e : ℕ) (y : Tx). (c ≡ e → ⊥) → has_written a u ≡ true → has_touched a y ≡ false) t c u
    (λ n w. absurd (n refl)) (λ e q n w. h1 e a q w) e)
    (λ d p. at_all (λ (e : ℕ) (y : Tx). (d ≡ e → ⊥) → has_written a (t d) ≡ true → has_touched a y ≡ false) t c u
    (λ n w. h2 d a p w) (λ e q n w. h d e a n w) e) d

-- the card's transaction closed
apart_none : (t : ℕ → Tx) (c : ℕ) → Apart t → Apart (at t c none)
apart_none t c h = apart_set t c none h (λ d a n w. clash false w refl) (λ d a n w. refl)

-- an open transaction that holds what its stage says
agrees_holds : (f : ℕ → ℕ) (s : Stage) (r w : List Write) → Holds s r w → Valid f r → Agrees f s (live (cells r) w)
agrees_holds f s r w h v = (h.0, ap cells (sym h.1), sym h.2, subst (Valid f) (sym h.1) v)

-- a card outside of a transaction has none
pub outside : (f : ℕ → ℕ) (s : Stage) (x : Tx) → in_tx s ≡ false → Agrees f s x → x ≡ none
outside f s none h k = refl
outside f s doomed h k = clash (in_tx s) k h
outside f s (live r w) h k = clash (in_tx s) k.0 h

-- the memory accepts, or the transaction was doomed: no other refusal
abbrev pub Fair : Result ℕ MemoryFault → Type 0
Fair (Ok v) = Unit {0}
Fair (Err e) = e.refusal ≡ Doomed

module _ (f : ℕ → ℕ) (t : ℕ → Tx) (S : ℕ → Stage) (I : Isolated f t S) (c : ℕ) where
  -- the transactions are isolated after an outcome of card c, which was at the stage s, and its answer is fair
  abbrev After : Stage → Out → Type 0
  After s o = Isolated o.cell o.tx (at S c (advanced s o.answer).0) × Fair o.answer

  -- card c's transaction is closed, and no standing value changes
  pub closed : (s : Stage) → in_tx s ≡ false → Isolated f (at t c none) (at S c s)
  closed s h = record {
    agrees = at_all2 (λ (d : ℕ) (x : Tx) (s : Stage). Agrees f s x) t S c none s h (λ d _. I.agrees d);
    apart = apart_none t c I.apart;
  }

  -- the card's own open transaction against another's
  mine : (x : Tx) → t c ≡ x → (d b : ℕ) → (d ≡ c → ⊥) → has_written b x ≡ true → has_touched b (t d) ≡ false
  mine x e d b n w = I.apart c d b (λ q. n (sym q)) (rw e w)

  -- and another's against it
  theirs : (x : Tx) → t c ≡ x → (d b : ℕ) → (d ≡ c → ⊥) → has_written b (t d) ≡ true → has_touched b x ≡ false
  theirs x e d b n w = rw e at (I.apart d c b n w)

  -- begin: an open transaction that holds nothing
  step_begin : (s : Stage) → Row c s (call.Begin c) → (x : Tx) → Agrees f s x → After s (begin_seen c f t x)
  step_begin s r none k = (
    record {
      agrees = at_all2 (λ (d : ℕ) (x : Tx) (s : Stage). Agrees f s x) t S c (live [] []) (goes s 0).0
          (agrees_holds f (goes s 0).0 [] [] (r.2 0) tt) (λ d _. I.agrees d);
      apart = apart_set t c (live [] []) I.apart (λ d a n w. clash false w refl) (λ d a n w. refl);
    },
    tt,
  )
  step_begin s r doomed k = clash (in_tx s) k r.1
  step_begin s r (live m w) k = clash (in_tx s) k.0 r.1

  -- read: one more mark, and the others that wrote the cell are doomed
  read_isolated : (s : Stage) (a : ℕ) → Row c s (call.Read c a) → t c ≡ live (cells (reads s)) (writes s)
      → Valid f (reads s)
      → Isolated f (at (λ d. struck Reads a (t d)) c (live (cells (reads s) ++ a ∷ []) (writes s)))
      (at S c (goes s (f a)).0)
  read_isolated s a r e v = record {
    agrees = at_all2 (λ (d : ℕ) (x : Tx) (s : Stage). Agrees f s x) (λ d. struck Reads a (t d)) S c
        (live (cells (reads s) ++ a ∷ []) (writes s)) (goes s (f a)).0
        (subst (λ (m : List ℕ). Agrees f (goes s (f a)).0 (live m (writes s))) (cells_push (reads s) a (f a))
        (agrees_holds f (goes s (f a)).0 (reads s ++ mk a (f a) ∷ []) (writes s) (r.4 (f a))
        (valid_push f (reads s) a (f a) refl v)))
        (λ d _. agrees_struck f (S d) Reads a (t d) (I.agrees d));
    apart = apart_set (λ d. struck Reads a (t d)) c (live (cells (reads s) ++ a ∷ []) (writes s))
        (apart_struck t Reads a I.apart)
        (λ d b n h. struck_touched (t d) (conflicts Reads a (t d)) b
        (mine (live (cells (reads s)) (writes s)) e d b n h))
        unmarked;
  }
    where
      unmarked : (d b : ℕ) → (d ≡ c → ⊥) → has_written b (struck Reads a (t d)) ≡ true
          → has_touched b (live (cells (reads s) ++ a ∷ []) (writes s)) ≡ false
      unmarked d b n h =
          let p = touched_parts (cells (reads s)) (writes s) b
          (theirs (live (cells (reads s)) (writes s)) e d b n (struck_written (t d) (conflicts Reads a (t d)) b h)) in
          touched_from (cells (reads s) ++ a ∷ []) (writes s) b p.0
          (has_push_false (λ (x : ℕ). x) (cells (reads s)) a b p.1
          (λ q. clash (has_written b (struck Reads a (t d))) h
          (subst (λ (y : ℕ). has_written y (struck Reads a (t d)) ≡ false) q (miss_reads (t d) a))))

  -- a read of a row
  step_read : (s : Stage) (a : ℕ) → Row c s (call.Read c a) → (x : Tx) → t c ≡ x → Agrees f s x
      → After s (read_seen c a f t x)
  step_read s a r none e k = clash (in_tx s) r.1 k
  step_read s a r doomed e k = (closed (begin_of s) (begin_outside s), refl)
  step_read s a r (live m w) e k =
      rw (k.1, k.2, r.2, r.3) (read_isolated s a r (rw (k.1, k.2) at e) k.3, tt)

  -- write: one more write, and the others that touched the cell are doomed
  write_isolated : (s : Stage) (a v : ℕ) → Row c s (call.Write c a v) → t c ≡ live (cells (reads s)) (writes s)
      → Valid f (reads s)
      → Isolated f (at (λ d. struck Writes a (t d)) c (live (cells (reads s)) (writes s ++ mk a v ∷ [])))
      (at S c (goes s 0).0)
  write_isolated s a v r e h = record {
    agrees = at_all2 (λ (d : ℕ) (x : Tx) (s : Stage). Agrees f s x) (λ d. struck Writes a (t d)) S c
        (live (cells (reads s)) (writes s ++ mk a v ∷ [])) (goes s 0).0
        (agrees_holds f (goes s 0).0 (reads s) (writes s ++ mk a v ∷ []) (r.3 0) h)
        (λ d _. agrees_struck f (S d) Writes a (t d) (I.agrees d));
    apart = apart_set (λ d. struck Writes a (t d)) c (live (cells (reads s)) (writes s ++ mk a v ∷ []))
        (apart_struck t Writes a I.apart) written unwritten;
  }
    where
      own : (d b : ℕ) → (d ≡ c → ⊥) → (wrote (writes s) b ≡ true) ⊎ (a ≡ b)
          → has_touched b (struck Writes a (t d)) ≡ false
      own d b n (inl w) = struck_touched (t d) (conflicts Writes a (t d)) b
          (mine (live (cells (reads s)) (writes s)) e d b n w)
      own d b n (inr q) = subst (λ (y : ℕ). has_touched y (struck Writes a (t d)) ≡ false) q (miss_writes (t d) a)

      written : (d b : ℕ) → (d ≡ c → ⊥) → wrote (writes s ++ mk a v ∷ []) b ≡ true
          → has_touched b (struck Writes a (t d)) ≡ false
      written d b n w = own d b n (has_push_true (λ (x : Write). x.cell) (writes s) (mk a v) b w)

      unwritten : (d b : ℕ) → (d ≡ c → ⊥) → has_written b (struck Writes a (t d)) ≡ true
          → has_touched b (live (cells (reads s)) (writes s ++ mk a v ∷ [])) ≡ false
      unwritten d b n h =
          let p = touched_parts (cells (reads s)) (writes s) b
          (theirs (live (cells (reads s)) (writes s)) e d b n (struck_written (t d) (conflicts Writes a (t d)) b h)) in
          touched_from (cells (reads s)) (writes s ++ mk a v ∷ []) b
          (has_push_false (λ (x : Write). x.cell) (writes s) (mk a v) b p.0
          (λ q. clash (has_touched b (struck Writes a (t d))) (written_touched (struck Writes a (t d)) b h)
          (subst (λ (y : ℕ). has_touched y (struck Writes a (t d)) ≡ false) q (miss_writes (t d) a))))
          p.1

  -- a write of a row
  step_write : (s : Stage) (a v : ℕ) → Row c s (call.Write c a v) → (x : Tx) → t c ≡ x → Agrees f s x
      → After s (write_seen c a v f t x)
  step_write s a v r none e k = clash (in_tx s) r.1 k
  step_write s a v r doomed e k = (closed (begin_of s) (begin_outside s), refl)
  step_write s a v r (live m w) e k =
      rw (k.1, k.2, r.2) (write_isolated s a v r (rw (k.1, k.2) at e) k.3, tt)

  -- commit: what it wrote, no other has touched
  step_commit : (s : Stage) → Row c s (call.Commit c) → (x : Tx) → t c ≡ x → Agrees f s x
      → After s (commit_seen c f t x)
  step_commit s r none e k = clash (in_tx s) r.1 k
  step_commit s r doomed e k = (closed (begin_of s) (begin_outside s), refl)
  step_commit s r (live m w) e k = (
    record {
      agrees = at_all2 (λ (d : ℕ) (x : Tx) (s : Stage). Agrees (lands w f) s x) t S c none (goes s 0).0 (r.2 0)
          (λ d n. agrees_frame f (lands w f) (S d) (t d)
          (λ b h. lands_other w f b (missed b (wrote w b) refl d n h)) (I.agrees d));
      apart = apart_none t c I.apart;
    },
    tt,
  )
    where
      missed : (b : ℕ) (y : Bool) → wrote w b ≡ y → (d : ℕ) → (d ≡ c → ⊥) → has_touched b (t d) ≡ true
          → wrote w b ≡ false
      missed b false p d n h = p
      missed b true p d n h = clash (has_touched b (t d)) h (mine (live m w) e d b n p)

  -- load: the others that wrote the cell are doomed
  load_closed : (a : ℕ) (s : Stage) → in_tx s ≡ false → Isolated f (at (λ d. struck Reads a (t d)) c none) (at S c s)
  load_closed a s h = record {
    agrees = at_all2 (λ (d : ℕ) (x : Tx) (s : Stage). Agrees f s x) (λ d. struck Reads a (t d)) S c none s h
        (λ d _. agrees_struck f (S d) Reads a (t d) (I.agrees d));
    apart = apart_none (λ d. struck Reads a (t d)) c (apart_struck t Reads a I.apart);
  }

  -- a load of a row
  step_load : (s : Stage) (a : ℕ) → Row c s (call.Load c a) → (x : Tx) → Agrees f s x → After s (load_seen c a f t x)
  step_load s a r none k = (load_closed a (goes s (f a)).0 (r.2 (f a)), tt)
  step_load s a r doomed k = clash (in_tx s) k r.1
  step_load s a r (live m w) k = clash (in_tx s) k.0 r.1

  -- store: the others that touched the cell are doomed
  store_closed : (a v : ℕ) (s : Stage) → in_tx s ≡ false
      → Isolated (at f a v) (at (λ d. struck Writes a (t d)) c none) (at S c s)
  store_closed a v s h = record {
    agrees = at_all2 (λ (d : ℕ) (x : Tx) (s : Stage). Agrees (at f a v) s x) (λ d. struck Writes a (t d)) S c
        none s h (λ d _. agrees_store f (S d) a v (t d) (I.agrees d));
    apart = apart_none (λ d. struck Writes a (t d)) c (apart_struck t Writes a I.apart);
  }

  -- a store of a row
  step_store : (s : Stage) (a v : ℕ) → Row c s (call.Store c a v) → (x : Tx) → Agrees f s x
      → After s (store_seen c a v f t x)
  step_store s a v r none k = (store_closed a v (goes s 0).0 (r.2 0), tt)
  step_store s a v r doomed k = clash (in_tx s) k r.1
  step_store s a v r (live m w) k = clash (in_tx s) k.0 r.1

  -- every row's call
  step_on : (s : Stage) (k : MemoryCall) → Row c s k → Agrees f s (t c) → After s (seen_on k f t (t c))
  step_on s call.Clear r h = absurd r
  step_on s (call.Look a) r h = absurd r
  step_on s (call.Load d a) r h = rw r.0 (step_load s a (rw r.0 at r) (t c) h)
  step_on s (call.Store d a v) r h = rw r.0 (step_store s a v (rw r.0 at r) (t c) h)
  step_on s (call.Begin d) r h = rw r.0 (step_begin s (rw r.0 at r) (t c) h)
  step_on s (call.Read d a) r h = rw r.0 (step_read s a (rw r.0 at r) (t c) refl h)
  step_on s (call.Write d a v) r h = rw r.0 (step_write s a v (rw r.0 at r) (t c) refl h)
  step_on s (call.Commit d) r h = rw r.0 (step_commit s (rw r.0 at r) (t c) refl h)
  step_on s (call.Drop d) r h = absurd r

  -- a stage of card c outside of a transaction, changed to another
  pub restaged : (s : Stage) → in_tx (S c) ≡ false → in_tx s ≡ false → Isolated f t (at S c s)
  restaged s h k = record {
    agrees = at_all (λ (d : ℕ) (s : Stage). Agrees f s (t d)) S c s
        (go (t c) (outside f (S c) (t c) h (I.agrees c))) (λ d _. I.agrees d);
    apart = I.apart;
  }
    where
      go : (x : Tx) → x ≡ none → Agrees f s x
      go x e = rw e k

  -- a load by a card outside of a transaction is accepted
  pub load_accepted : (a : ℕ) → in_tx (S c) ≡ false
      → seen c (call.Load c a) f t ≡ out f (at (λ d. struck Reads a (t d)) c none) (Ok (f a))
  load_accepted a h = ap (load_seen c a f t) (outside f (S c) (t c) h (I.agrees c))

  -- so is a store
  pub store_accepted : (a v : ℕ) → in_tx (S c) ≡ false
      → seen c (call.Store c a v) f t ≡ out (at f a v) (at (λ d. struck Writes a (t d)) c none) (Ok 0)
  store_accepted a v h = ap (store_seen c a v f t) (outside f (S c) (t c) h (I.agrees c))

  -- and the drop of a card inside of one
  pub drop_accepted : in_tx (S c) ≡ true → seen c (call.Drop c) f t ≡ out f (at t c none) (Ok 0)
  drop_accepted h = go (t c) (I.agrees c)
    where
      go : (x : Tx) → Agrees f (S c) x → drop_seen c f t x ≡ out f (at t c none) (Ok 0)
      go none k = clash (in_tx (S c)) h k
      go doomed k = refl
      go (live r w) k = refl

  -- the stages as they were
  same : at S c (S c) ≡ S
  same = fun_ext (λ d. at_all (λ (d : ℕ) (s : Stage). s ≡ S d) S c (S c) refl (λ d n. refl) d)

  -- a load by a card outside of a transaction
  pub load_isolated : (a : ℕ) → in_tx (S c) ≡ false
      → Isolated (seen c (call.Load c a) f t).cell (seen c (call.Load c a) f t).tx S
  load_isolated a h = subst (λ (o : Out). Isolated o.cell o.tx S) (sym (load_accepted a h))
      (subst (λ (S : ℕ → Stage). Isolated f (at (λ d. struck Reads a (t d)) c none) S) same (load_closed a (S c) h))

  -- a store by a card outside of a transaction
  pub store_isolated : (a v : ℕ) → in_tx (S c) ≡ false
      → Isolated (seen c (call.Store c a v) f t).cell (seen c (call.Store c a v) f t).tx S
  store_isolated a v h = subst (λ (o : Out). Isolated o.cell o.tx S) (sym (store_accepted a v h))
      (subst (λ (S : ℕ → Stage). Isolated (at f a v) (at (λ d. struck Writes a (t d)) c none) S) same
      (store_closed a v (S c) h))

  -- a drop by a card inside of a transaction, which goes to its begin
  pub drop_isolated : in_tx (S c) ≡ true
      → Isolated (seen c (call.Drop c) f t).cell (seen c (call.Drop c) f t).tx (at S c (begin_of (S c)))
  drop_isolated h =
      subst (λ (o : Out). Isolated o.cell o.tx (at S c (begin_of (S c)))) (sym (drop_accepted h))
      (closed (begin_of (S c)) (begin_outside (S c)))

-- a step of card c keeps the transactions isolated
pub step_isolated : (N K : ℕ) (f : ℕ → ℕ) (t : ℕ → Tx) (S : ℕ → Stage) → Isolated f t S
    → (c : ℕ) → Sound N K (S c) → (k : MemoryCall) → call_of N c (S c) ≡ Some k
    → Isolated (seen c k f t).cell (seen c k f t).tx (at S c (advanced (S c) (seen c k f t).answer).0)
step_isolated N K f t S I c h k e = (step_on f t S I c (S c) k (row N K c (S c) h k e) (I.agrees c)).0

-- its call is accepted, or its transaction was doomed: the memory refuses nothing else
pub step_fair : (N K : ℕ) (f : ℕ → ℕ) (t : ℕ → Tx) (S : ℕ → Stage) → Isolated f t S
    → (c : ℕ) → Sound N K (S c) → (k : MemoryCall) → call_of N c (S c) ≡ Some k → Fair (seen c k f t).answer
step_fair N K f t S I c h k e = (step_on f t S I c (S c) k (row N K c (S c) h k e) (I.agrees c)).1
