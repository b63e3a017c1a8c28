-- A value put into a cell that no other card's open transaction has written.
use Rattle.std.proofs.Common.{◌≡◌, ℕ, suc, ◌<◌, Bool, true, false, cond, eqb, ◌≢◌, List, [], ◌∷◌, ◌++◌, map, length}
use Rattle.std.proofs.Common.{get_or, take, drop, set, sym, refl, ap, ◌∙◌, subst, append_assoc, get_or-set_other}
use Rattle.std.proofs.Common.{get_or-set_same, set-set, eq-eqb, eqb-true}
use lib.Seq.{set_split, map-set, set_comm, set-get_or}
use borrow.Author.Tests.{eqb-false}
use Rattle.std.proofs.lemmas.List.{map-append, take-map, drop-map, length-map}
use Rattle.std.proofs.lemmas.Bool.{cond-true}
use Rattle.memory.specs.declared.write.Write.{Write}
use Rattle.memory.specs.declared.access.Access.{Access}
use Rattle.memory.specs.Meaning.{Tx, Meaning, none, live, landed, wrote, replaced, struck, served, with_tx}
use Rattle.memory.proofs.Isolation.{clash}
use Rattle.memory.proofs.Lasting.{landed_other}
use Rattle.memory.specs.declared.log.Log.{Log}
use Rattle.memory.specs.declared.log.Transaction.{Transaction}
use Rattle.memory.specs.declared.log.Transaction.TheVariants.{Closed, Open}
use Rattle.inplace.specs.declared.inplace.InPlace.{InPlace}
use Rattle.memory.specs.Logs.{marks_of}
use Rattle.inplace.specs.Undo.{undo_log, distinct, written, undo_of, undoes, tx_in}
use Rattle.inplace.specs.Standing.{meaning_of}
use Rattle.inplace.proofs.Undoes.{lacks_left, lacks_right, lacks_append, distinct_head, distinct_left}
use Rattle.inplace.proofs.Undoes.{distinct_right, distinct_insert, landed_without, other_sym}
use Rattle.inplace.proofs.Undoes.{written_other}
use Rattle.inplace.proofs.Restores.{undoes_append, txs_other, lack_map, lack_set, lack_undoes, Lack}

-- Cells that writes have.
-- in the second part
pub has_right : (us vs : List Write) (c : ℕ) → wrote vs c ≡ true → wrote (us ++ vs) c ≡ true
has_right [] vs c e = e
has_right (u ∷ us) vs c e =
    elim (eqb u.cell c) as (λ b. cond b true (wrote (us ++ vs) c) ≡ true)
    [ true ↦ refl | false ↦ has_right us vs c e ]

-- in the first part
pub has_left : (us vs : List Write) (c : ℕ) → wrote us c ≡ true → wrote (us ++ vs) c ≡ true
has_left [] vs c e = clash false e refl
has_left (u ∷ us) vs c e =
    (elim (eqb u.cell c) as (λ b. cond b true (wrote us c) ≡ true → cond b true (wrote (us ++ vs) c) ≡ true)
    [ true ↦ λ r. refl | false ↦ λ r. has_left us vs c r ]) e

-- a value that an old one will replace does not matter
landed_over : (cs : List ℕ) (us : List Write) (c v : ℕ) → wrote us c ≡ true
    → landed (set cs c v) us ≡ landed cs us
landed_over cs [] c v e = clash false e refl
landed_over cs (u ∷ us) c v e =
    go (eqb u.cell c) refl e (landed_over (set cs u.cell u.value) us c v) where
      go : (b : Bool) → eqb u.cell c ≡ b → cond b true (wrote us c) ≡ true
          → (wrote us c ≡ true
          → landed (set (set cs u.cell u.value) c v) us ≡ landed (set cs u.cell u.value) us)
          → landed (set (set cs c v) u.cell u.value) us ≡ landed (set cs u.cell u.value) us
      go true q r k =
          let z = eqb-true u.cell c q in
          ap (λ l. landed l us)
          (ap (λ x. set (set cs x v) u.cell u.value) (sym z) ∙ set-set cs u.cell v u.value)
      go false q r k =
          let n : c ≢ u.cell = λ z. eqb-false u.cell c q (sym z) in
          ap (λ l. landed l us) (set_comm cs c u.cell v u.value n) ∙ k r

-- The writes of a log, by the cells.
-- a cell that they lack is set
written_lacks : (cs : List ℕ) (us : List Write) (c v : ℕ) → wrote us c ≡ false
    → map (written (set cs c v)) us ≡ map (written cs) us
written_lacks cs us c v l =
    let w : List Write = record { cell = c; value = v } ∷ [] in
    written_other cs w us (other_sym w us (l, tt))

-- the same, and a write of the cell is recorded
written_more : (cs : List ℕ) (us : List Write) (c v o : ℕ) → c < length cs → wrote us c ≡ false
    → map (written (set cs c v)) (us ++ record { cell = c; value = o } ∷ [])
    ≡ map (written cs) us ++ record { cell = c; value = v } ∷ []
written_more cs us c v o h l =
    map-append (written (set cs c v)) us (record { cell = c; value = o } ∷ [])
    ∙ (ap (λ ws. ws ++ record { cell = c; value = get_or (set cs c v) c 0 } ∷ []) (written_lacks cs us c v l)
    ∙ ap (λ x. map (written cs) us ++ record { cell = c; value = x } ∷ []) (get_or-set_same cs c v 0 h))

-- a cell that they have is set
written_again : (cs : List ℕ) (us : List Write) (c v : ℕ) → c < length cs → distinct us ≡ true → wrote us c ≡ true
    → map (written (set cs c v)) us ≡ replaced (map (written cs) us) c v
written_again cs [] c v h d e = clash false e refl
written_again cs (u ∷ us) c v h d e =
    go (eqb u.cell c) refl e (written_again cs us c v h (distinct_head u us d).1) where
      go : (b : Bool) → eqb u.cell c ≡ b → cond b true (wrote us c) ≡ true
          → (wrote us c ≡ true → map (written (set cs c v)) us ≡ replaced (map (written cs) us) c v)
          → written (set cs c v) u ∷ map (written (set cs c v)) us
          ≡ cond b (record { cell = c; value = v } ∷ map (written cs) us)
          (written cs u ∷ replaced (map (written cs) us) c v)
      go true q r k =
          let z = eqb-true u.cell c q in
          let l : wrote us c ≡ false = subst (λ x. wrote us x ≡ false) z (distinct_head u us d).0 in
          let e1 : written (set cs c v) u ≡ record { cell = c; value = v } =
          ap (λ x. record { cell = x; value = get_or (set cs c v) x 0 }) z
          ∙ ap (λ x. record { cell = c; value = x }) (get_or-set_same cs c v 0 h) in
          let e2 = written_lacks cs us c v l in
          cc
      go false q r k =
          let e1 : written (set cs c v) u ≡ written cs u =
          ap (λ x. record { cell = u.cell; value = x })
          (get_or-set_other cs c u.cell v 0 (eqb-false u.cell c q)) in
          let e2 = k r in
          cc

-- after an access that is served, no other card has written the cell
pub free_after : (e : InPlace) (a : Access) (card cell : ℕ) (own : Tx) (m : Meaning)
    → meaning_of e ≡ served a card cell own m → wrote (undoes (set e.txs card Closed)) cell ≡ false
free_after e a card cell own m q =
    let others = map (struck a cell) m.txs in
    let t : map (tx_in e.cells) (set e.txs card Closed) ≡ set others card none =
    map-set (tx_in e.cells) e.txs card Closed
    ∙ (ap (λ (n : Meaning). set n.txs card none) q ∙ set-set others card own none) in
    lack_undoes e.cells cell (set e.txs card Closed)
    (subst (λ l. Lack cell l) (sym t) (lack_set cell others card none refl (lack_map a cell m.txs)))

-- The value v is put into the cell c by the card at i, whose log is l, and no other card has written c.
module _ (cs : List ℕ) (ts : List Transaction) (i : ℕ) (l : Log) (c v : ℕ) (h : i < length ts)
    (is : Open l ≡ get_or ts i (Open l)) (d : distinct (undoes ts) ≡ true)
    (free : wrote (undoes (set ts i Closed)) c ≡ false) where
  -- the old values that the cards before it keep
  abbrev front : List Write
  front = undoes (take i ts)

  -- those that the cards behind it keep
  abbrev rest : List Write
  rest = undoes (drop (suc i) ts)

  -- its own
  abbrev own : List Write
  own = undo_log l

  -- all of them, with any transaction at i
  with_any : (x : Transaction) → undoes (set ts i x) ≡ front ++ (undo_of x ++ rest)
  with_any x = ap undoes (set_split ts i x h) ∙ undoes_append (take i ts) (x ∷ drop (suc i) ts)

  -- the transaction at i is the one there
  same : set ts i (Open l) ≡ ts
  same = ap (set ts i) is ∙ set-get_or ts i (Open l)

  -- all of them
  whole : undoes ts ≡ front ++ (own ++ rest)
  whole = ap undoes (sym same) ∙ with_any (Open l)

  -- no card before it keeps one of c
  lack_front : wrote front c ≡ false
  lack_front = lacks_left front rest c (ap (λ us. wrote us c) (sym (with_any Closed)) ∙ free)

  -- nor one behind it
  lack_rest : wrote rest c ≡ false
  lack_rest = lacks_right front rest c (ap (λ us. wrote us c) (sym (with_any Closed)) ∙ free)

  -- no other transaction changes
  txs_put : (x : Transaction)
      → map (tx_in (set cs c v)) (set ts i x) ≡ set (map (tx_in cs) ts) i (tx_in (set cs c v) x)
  txs_put x =
      let f = tx_in (set cs c v) in
      let w : List Write = record { cell = c; value = v } ∷ [] in
      let e1 = txs_other cs w (take i ts) (other_sym w front (lack_front, tt)) in
      let e2 = txs_other cs w (drop (suc i) ts) (other_sym w rest (lack_rest, tt)) in
      let a : map f (set ts i x) ≡ map f (take i ts) ++ (f x ∷ map f (drop (suc i) ts)) =
      ap (map f) (set_split ts i x h) ∙ map-append f (take i ts) (x ∷ drop (suc i) ts) in
      let k : i < length (map (tx_in cs) ts) = rw (length-map ts (tx_in cs)) h in
      let p = set_split (map (tx_in cs) ts) i (f x) k in
      let e3 = take-map (tx_in cs) i ts in
      let e4 = drop-map (tx_in cs) (suc i) ts in
      cc

  -- a cell that the log has: another value
  module _ (known : wrote own c ≡ true) (fits : c < length cs) where
    -- no standing value changes
    pub again_cells : landed (set cs c v) (undoes ts) ≡ landed cs (undoes ts)
    again_cells =
        landed_over cs (undoes ts) c v
        (ap (λ us. wrote us c) whole ∙ has_right front (own ++ rest) c (has_left own rest c known))

    -- the card's own write has the new value
    pub again_txs : map (tx_in (set cs c v)) ts
        ≡ set (map (tx_in cs) ts) i (live (marks_of l) (replaced (map (written cs) own) c v))
    again_txs =
        let u : distinct own ≡ true =
        distinct_left own rest (distinct_right front (own ++ rest) (ap distinct (sym whole) ∙ d)) in
        ap (map (tx_in (set cs c v))) (sym same)
        ∙ (txs_put (Open l)
        ∙ ap (λ ws. set (map (tx_in cs) ts) i (live (marks_of l) ws)) (written_again cs own c v fits u known))

  -- a cell that it lacks
  module _ (fresh : wrote own c ≡ false) where
    -- all old values again
    shorter : undoes ts ≡ (front ++ own) ++ rest
    shorter = whole ∙ sym (append_assoc front own rest)

    -- no card has kept one of c before
    lack_all : wrote ((front ++ own) ++ rest) c ≡ false
    lack_all = lacks_append (front ++ own) rest c (lacks_append front own c lack_front fresh) lack_rest

    -- so the standing value is in the cell
    pub stands_in : get_or (landed cs (undoes ts)) c 0 ≡ get_or cs c 0
    stands_in = landed_other cs (undoes ts) c (ap (λ us. wrote us c) shorter ∙ lack_all)

  -- the old value of it is kept, in the log g
  module _ (g : Log) (fresh : wrote own c ≡ false) (fits : c < length cs) (marks : marks_of g ≡ marks_of l)
      (more : undo_log g ≡ own ++ record { cell = c; value = get_or cs c 0 } ∷ []) where
    -- the write that puts the old value back
    abbrev old : Write
    old = record { cell = c; value = get_or cs c 0 }

    -- the old values with this one
    longer : undoes (set ts i (Open g)) ≡ (front ++ own) ++ (old ∷ rest)
    longer =
        with_any (Open g)
        ∙ (ap (λ us. front ++ (us ++ rest)) more
        ∙ (ap (λ us. front ++ us) (append_assoc own (old ∷ []) rest) ∙ sym (append_assoc front own (old ∷ rest))))

    -- no two of them are of one cell
    more_distinct : distinct ((front ++ own) ++ (old ∷ rest)) ≡ true
    more_distinct = distinct_insert (front ++ own) rest old (lack_all fresh) (ap distinct (sym (shorter fresh)) ∙ d)

    -- which the memory keeps so
    pub added_apart : distinct (undoes (set ts i (Open g))) ≡ true
    added_apart = ap distinct longer ∙ more_distinct

    -- no standing value changes, since the old one is put back where it was
    pub added_cells : landed (set cs c v) (undoes (set ts i (Open g))) ≡ landed cs (undoes ts)
    added_cells =
        let has : wrote ((front ++ own) ++ (old ∷ rest)) c ≡ true =
        has_right (front ++ own) (old ∷ rest) c (cond-true _ _ _ (eq-eqb c c refl)) in
        ap (landed (set cs c v)) longer
        ∙ (landed_over cs ((front ++ own) ++ (old ∷ rest)) c v has
        ∙ (landed_without cs (front ++ own) (old ∷ []) rest more_distinct
        ∙ (ap (λ z. landed z ((front ++ own) ++ rest)) (set-get_or cs c 0) ∙ ap (landed cs) (sym (shorter fresh)))))

    -- the card's own transaction has one write more
    pub added_txs : map (tx_in (set cs c v)) (set ts i (Open g))
        ≡ set (map (tx_in cs) ts) i
        (live (marks_of l) (map (written cs) own ++ record { cell = c; value = v } ∷ []))
    added_txs =
        let put = λ (ms : List ℕ) (ws : List Write). set (map (tx_in cs) ts) i (live ms ws) in
        let e = ap (map (written (set cs c v))) more ∙ written_more cs own c v (get_or cs c 0) fits fresh in
        txs_put (Open g)
        ∙ (ap (λ ms. put ms (map (written (set cs c v)) (undo_log g))) marks ∙ ap (put (marks_of l)) e)

-- another transaction of the card after an access
pub served_again : (a : Access) (card cell : ℕ) (old own : Tx) (m : Meaning)
    → with_tx (served a card cell old m) card own ≡ served a card cell own m
served_again a card cell old own m =
    ap (λ ts. record { cells = m.cells; txs = ts }) (set-set (map (struck a cell) m.txs) card old own)
