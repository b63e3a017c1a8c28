-- Transactions whose old values are put back, or let go.
use Rattle.std.proofs.Common.{◌≡◌, ℕ, zero, suc, ◌<◌, Bool, true, false, cond, eqb, List, [], ◌∷◌, ◌++◌, map, length}
use Rattle.std.proofs.Common.{get_or, take, drop, set, Some, None, sym, refl, ap, ◌∙◌, append_assoc, set-set, ne_eqb}
use Rattle.std.proofs.Common.{eqb-true}
use lib.Seq.{split_at, set_split, map-set, set-get_or}
use Rattle.std.proofs.lemmas.List.{map-append}
use Rattle.std.proofs.lemmas.Bool.{cond-false}
use Rattle.memory.specs.declared.write.Write.{Write}
use Rattle.memory.specs.declared.access.Access.{Access}
use Rattle.memory.specs.Meaning.{Tx, live, landed, struck, wrote, value_in}
use Rattle.memory.specs.Isolation.{has_written}
use Rattle.memory.proofs.Isolation.{clash, struck_unwritten}
use Rattle.memory.specs.declared.log.Transaction.{Transaction}
use Rattle.memory.specs.declared.log.Transaction.TheVariants.{Closed, Open, Doomed}
use Rattle.memory.specs.Logs.{marks_of}
use Rattle.inplace.specs.Undo.{undo_log, distinct, written, undo_of, undoes, tx_in}
use Rattle.inplace.proofs.Conflicts.{wrote_written}
use Rattle.inplace.proofs.Means.{both}
use Rattle.inplace.proofs.Undoes.{lacks_head, lacks_append, distinct_head, distinct_left, distinct_right}
use Rattle.inplace.proofs.Undoes.{distinct_other, distinct_without, Other, other_sym, other_left, other_parts}
use Rattle.inplace.proofs.Undoes.{other_join, landed_set, landed_comm, landed_without, written_other}

-- what undoes transactions, part by part
pub undoes_append : (ts us : List Transaction) → undoes (ts ++ us) ≡ undoes ts ++ undoes us
undoes_append [] us = refl
undoes_append (t ∷ ts) us =
    ap (λ l. undo_of t ++ l) (undoes_append ts us) ∙ sym (append_assoc (undo_of t) (undoes ts) (undoes us))

-- Transactions by their records.
-- one that keeps nothing of the cells that land is as it was
tx_other : (cs : List ℕ) (us : List Write) (t : Transaction) → Other (undo_of t) us
    → tx_in (landed cs us) t ≡ tx_in cs t
tx_other cs us Closed a = refl
tx_other cs us (Open l) a = ap (live (marks_of l)) (written_other cs us (undo_log l) a)
tx_other cs us Doomed a = refl

-- nor do several, none of which keeps any of them
pub txs_other : (cs : List ℕ) (us : List Write) (ts : List Transaction) → Other (undoes ts) us
    → map (tx_in (landed cs us)) ts ≡ map (tx_in cs) ts
txs_other cs us [] a = refl
txs_other cs us (t ∷ ts) a =
    let p = other_parts (undo_of t) (undoes ts) us a in
    let e = tx_other cs us t p.0 in
    let r = txs_other cs us ts p.1 in
    cc

-- one that has written nothing does not go by the cells
tx_bare : (cs ds : List ℕ) (x : Transaction) → undo_of x ≡ [] → tx_in cs x ≡ tx_in ds x
tx_bare cs ds Closed e = refl
tx_bare cs ds (Open l) e =
    ap (λ us. live (marks_of l) (map (written cs) us)) e
    ∙ sym (ap (λ us. live (marks_of l) (map (written ds) us)) e)
tx_bare cs ds Doomed e = refl

-- A transaction t at i gives way to one that has written nothing, and its old values are put back.
module _ (cs : List ℕ) (ts : List Transaction) (i : ℕ) (t x : Transaction) (h : i < length ts)
    (is : t ≡ get_or ts i t) (bare : undo_of x ≡ []) (apart : distinct (undoes ts) ≡ true) where
  -- the transactions before it
  abbrev front : List Transaction
  front = take i ts

  -- the transactions behind it
  abbrev rest : List Transaction
  rest = drop (suc i) ts

  -- the old values that are kept before it gives way
  before : undoes ts ≡ undoes front ++ (undo_of t ++ undoes rest)
  before =
      ap undoes (split_at ts i t h)
      ∙ (undoes_append front (get_or ts i t ∷ rest)
      ∙ ap (λ y. undoes front ++ (undo_of y ++ undoes rest)) (sym is))

  -- and after it: all but its own
  after : undoes (set ts i x) ≡ undoes front ++ undoes rest
  after =
      ap undoes (set_split ts i x h)
      ∙ (undoes_append front (x ∷ rest) ∙ ap (λ us. undoes front ++ (us ++ undoes rest)) bare)

  -- no two of them are of one cell
  parts : distinct (undoes front ++ (undo_of t ++ undoes rest)) ≡ true
  parts = ap distinct (sym before) ∙ apart

  -- no old value is kept twice
  pub restored_apart : distinct (undoes (set ts i x)) ≡ true
  restored_apart = ap distinct after ∙ distinct_without (undoes front) (undo_of t) (undoes rest) parts

  -- no standing value changes
  pub restored_cells : landed (landed cs (undo_of t)) (undoes (set ts i x)) ≡ landed cs (undoes ts)
  restored_cells =
      ap (landed (landed cs (undo_of t))) after
      ∙ (sym (landed_without cs (undoes front) (undo_of t) (undoes rest) parts) ∙ ap (landed cs) (sym before))

  -- no other transaction changes
  pub restored_txs : map (tx_in (landed cs (undo_of t))) (set ts i x) ≡ set (map (tx_in cs) ts) i (tx_in cs x)
  restored_txs =
      let f = tx_in (landed cs (undo_of t)) in
      let U = undo_of t in
      let A = undoes front in
      let B = undoes rest in
      let a1 = other_left A U B (distinct_other A (U ++ B) parts) in
      let a2 = other_sym U B (distinct_other U B (distinct_right A (U ++ B) parts)) in
      let e1 = txs_other cs U front a1 in
      let e2 = txs_other cs U rest a2 in
      let e3 = tx_bare (landed cs U) cs x bare in
      let l : map f (set ts i x) ≡ map f front ++ (f x ∷ map f rest) =
      ap (map f) (set_split ts i x h) ∙ map-append f front (x ∷ rest) in
      let r : set (map (tx_in cs) ts) i (tx_in cs x) ≡ map (tx_in cs) front ++ (tx_in cs x ∷ map (tx_in cs) rest) =
      sym (map-set (tx_in cs) ts i x)
      ∙ (ap (map (tx_in cs)) (set_split ts i x h) ∙ map-append (tx_in cs) front (x ∷ rest)) in
      cc

-- the same by the meaning's parts, for the tactics
pub ruleset restores = (restored_cells, restored_txs, both)

-- A transaction whose old values are let go: what it wrote stands.
-- writes of other cells, whatever their values are
other_written : (cs : List ℕ) (us vs : List Write) → Other us vs → Other us (map (written cs) vs)
other_written cs [] vs a = tt
other_written cs (u ∷ us) vs a = (wrote_written cs vs u.cell ∙ a.0, other_written cs us vs a.1)

-- the old values are put in, and then the new ones again
landed_back : (cs : List ℕ) (us : List Write) → distinct us ≡ true
    → landed (landed cs us) (map (written cs) us) ≡ cs
landed_back cs [] d = refl
landed_back cs (u ∷ us) d =
    let h = distinct_head u us d in
    let c = u.cell in
    let x = get_or cs c 0 in
    let e : set (landed (set cs c u.value) us) c x ≡ landed cs us =
    sym (landed_set (set cs c u.value) us c x h.0)
    ∙ ap (λ l. landed l us) (set-set cs c u.value x ∙ set-get_or cs c 0) in
    ap (λ l. landed l (map (written cs) us)) e ∙ landed_back cs us h.1

module _ (cs : List ℕ) (ts : List Transaction) (i : ℕ) (t : Transaction) (h : i < length ts) (is : t ≡ get_or ts i t)
    (apart : distinct (undoes ts) ≡ true) where
  -- the standing values with what it wrote
  pub kept_cells : landed cs (undoes (set ts i Closed))
      ≡ landed (landed cs (undoes ts)) (map (written cs) (undo_of t))
  kept_cells =
      let A = undoes (take i ts) in
      let B = undoes (drop (suc i) ts) in
      let U = undo_of t in
      let W = map (written cs) U in
      let p = parts cs ts i t Closed h is refl apart in
      let a1 = other_left A U B (distinct_other A (U ++ B) p) in
      let r = distinct_right A (U ++ B) p in
      let a2 = other_sym U B (distinct_other U B r) in
      let a3 = other_written cs (A ++ B) U (other_join A B U a1 a2) in
      ap (landed cs) (after cs ts i t Closed h is refl apart)
      ∙ (ap (λ l. landed l (A ++ B)) (sym (landed_back cs U (distinct_left U B r)))
      ∙ (sym (landed_comm (landed cs U) (A ++ B) W a3)
      ∙ ap (λ l. landed l W)
      (sym (landed_without cs A U B p) ∙ ap (landed cs) (sym (before cs ts i t Closed h is refl apart)))))

-- another record with the same old values
pub same_undoes : (ts : List Transaction) (i : ℕ) (t x : Transaction) → i < length ts → t ≡ get_or ts i t
    → undo_of x ≡ undo_of t → distinct (undoes ts) ≡ true → undoes (set ts i x) ≡ undoes ts
same_undoes ts i t x h is q d =
    ap undoes (set_split ts i x h)
    ∙ (undoes_append (take i ts) (x ∷ drop (suc i) ts)
    ∙ (ap (λ us. undoes (take i ts) ++ (us ++ undoes (drop (suc i) ts))) q
    ∙ sym (before [] ts i t Closed h is refl d)))

-- no open transaction has written the cell
abbrev pub Lack : ℕ → List Tx → Type 0
Lack cell [] = Unit {0}
Lack cell (t ∷ ts) = (has_written t cell ≡ false) × Lack cell ts

-- after an access nobody else has written the cell
pub lack_map : (a : Access) (cell : ℕ) (ts : List Tx) → Lack cell (map (struck a cell) ts)
lack_map a cell [] = tt
lack_map a cell (t ∷ ts) = (struck_unwritten a cell t, lack_map a cell ts)

-- and so it is where one more has not written it
pub lack_set : (cell : ℕ) (ts : List Tx) (i : ℕ) (t : Tx) → has_written t cell ≡ false → Lack cell ts
    → Lack cell (set ts i t)
lack_set cell [] i t e l = tt
lack_set cell (x ∷ ts) zero t e l = (e, l.1)
lack_set cell (x ∷ ts) (suc i) t e l = (l.0, lack_set cell ts i t e l.1)

-- so nobody keeps an old value of it
pub lack_undoes : (cs : List ℕ) (cell : ℕ) (ts : List Transaction) → Lack cell (map (tx_in cs) ts)
    → wrote (undoes ts) cell ≡ false
lack_undoes cs cell [] l = refl
lack_undoes cs cell (Closed ∷ ts) l = lack_undoes cs cell ts l.1
lack_undoes cs cell (Open g ∷ ts) l =
    lacks_append (undo_log g) (undoes ts) cell (sym (wrote_written cs (undo_log g) cell) ∙ l.0)
    (lack_undoes cs cell ts l.1)
lack_undoes cs cell (Doomed ∷ ts) l = lack_undoes cs cell ts l.1

-- A value put into such a cell becomes the standing one, and no transaction changes.
module _ (cs : List ℕ) (ts : List Transaction) (c v : ℕ) (l : wrote (undoes ts) c ≡ false) where
  -- the standing values
  pub put_cells : landed (set cs c v) (undoes ts) ≡ set (landed cs (undoes ts)) c v
  put_cells = landed_set cs (undoes ts) c v l

  -- the transactions
  pub put_txs : map (tx_in (set cs c v)) ts ≡ map (tx_in cs) ts
  put_txs =
      let w : List Write = record { cell = c; value = v } ∷ [] in
      txs_other cs w ts (other_sym w (undoes ts) (l, tt))

-- Own writes.
-- the value of one is in the cell
pub written_value : (cs : List ℕ) (us : List Write) (cell : ℕ) → wrote us cell ≡ true
    → value_in (map (written cs) us) cell ≡ Some (get_or cs cell 0)
written_value cs [] cell e = clash false e refl
written_value cs (u ∷ us) cell e = go (eqb u.cell cell) refl e (written_value cs us cell) where
  go : (b : Bool) → eqb u.cell cell ≡ b → cond b true (wrote us cell) ≡ true
      → (wrote us cell ≡ true → value_in (map (written cs) us) cell ≡ Some (get_or cs cell 0))
      → cond b (Some (get_or cs u.cell 0)) (value_in (map (written cs) us) cell) ≡ Some (get_or cs cell 0)
  go true q r k = ap (λ x. Some (get_or cs x 0)) (eqb-true u.cell cell q)
  go false q r k = k r

-- a cell that they lack has none
pub unwritten_value : (cs : List ℕ) (us : List Write) (cell : ℕ) → wrote us cell ≡ false
    → value_in (map (written cs) us) cell ≡ None
unwritten_value cs [] cell e = refl
unwritten_value cs (u ∷ us) cell e =
    let h = lacks_head u us cell e in
    cond-false _ _ _ (ne_eqb u.cell cell h.0) ∙ unwritten_value cs us cell h.1
