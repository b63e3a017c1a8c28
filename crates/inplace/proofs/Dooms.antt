-- The loop that dooms the other cards' transactions and puts their old values back.
use Rattle.std.proofs.Common.{◌≡◌, ℕ, ◌+◌, ◌<◌, ◌≤◌, true, false, ◌≢◌, ◌⊎◌, List, map, length, get_or, set, sym, refl}
use Rattle.std.proofs.Common.{ap, ◌∙◌, subst, inl, inr, ⊎_elim, arith, set-set}
use lib.Seq.{map-set}
use Rattle.std.proofs.lemmas.List.{get_or-map, get_or-set_same, get_or-set_other, get_or_default, length-map}
use Rattle.std.proofs.lemmas.Bool.{cond-true, cond-false}
use Rattle.memory.specs.declared.access.Access.{Access}
use Rattle.memory.specs.Meaning.{Meaning, Tx, none, live, doomed, struck, served, conflicts, landed, tx_of}
use Rattle.memory.proofs.Woven.{woven, others, others_set, others_kept, others_all}
use Rattle.memory.specs.declared.log.Transaction.{Transaction}
use Rattle.memory.specs.declared.log.Transaction.TheVariants.{Closed, Open, Doomed}
use Rattle.memory.specs.Logs.{marks_of, tx_kept}
use Rattle.inplace.specs.Undo.{distinct, written, undo_of, undoes, tx_in}
use Rattle.inplace.specs.Standing.{meant, dooming}
use Rattle.inplace.proofs.Conflicts.{conflicts_in}
use Rattle.inplace.proofs.Means.{both}
use Rattle.inplace.proofs.Restores.{restored_apart, restored_cells, restored_txs, same_undoes}

module _ (a : Access) (card cell : ℕ) (cells : List ℕ) (txs : List Transaction) where
  -- the transactions before the loop
  abbrev start : List Tx
  start = (meant cells txs).txs

  -- the places before i are done, the standing values are as they were, and so is the card's own record
  pub record Done (i : ℕ) (cs : List ℕ) (ts : List Transaction) : Type 0 where
    pub apart : distinct (undoes ts) ≡ true
    pub stand : (meant cs ts).cells ≡ (meant cells txs).cells
    pub turned : (meant cs ts).txs ≡ woven i (others (struck a cell) card none start) start
    pub own : (t : Transaction) → get_or ts card t ≡ get_or txs card t

  -- the same of equal cells and records
  pub done_is : (i : ℕ) (cs ds : List ℕ) (ts us : List Transaction) → ds ≡ cs → us ≡ ts → Done i cs ts → Done i ds us
  done_is i cs ds ts us p q D =
      subst (λ l. Done i l us) (sym p) (subst (λ l. Done i cs l) (sym q) D)

  module _ (i : ℕ) (cs : List ℕ) (ts : List Transaction) (D : Done i cs ts) (h : i < length ts)
      (l : length ts ≡ length txs) where
    -- i is the place of a card
    below : i < length start
    below = rw (length-map txs (tx_in cells)) (omega arith)

    -- whether the transaction at i conflicts, by the meaning
    seen : (t : Transaction)
        → conflicts a cell (get_or (meant cs ts).txs i none) ≡ conflicts a cell (tx_kept (get_or ts i t))
    seen t =
        ap (conflicts a cell) (get_or-map (tx_in cs) ts i t none h) ∙ conflicts_in cs a cell (get_or ts i t)

    -- a turn that dooms
    pub done_doom : (t : Transaction) → i ≢ card → t ≡ get_or ts i t
        → conflicts a cell (tx_kept (get_or ts i t)) ≡ true
        → Done (i + 1) (landed cs (undo_of t)) (set ts i Doomed)
    done_doom t n is e = record {
      apart = restored_apart cs ts i t Doomed h is refl D.apart;
      stand = restored_cells cs ts i t Doomed h is refl D.apart ∙ D.stand;
      turned =
          restored_txs cs ts i t Doomed h is refl D.apart
          ∙ others_set (struck a cell) card none start (meant cs ts).txs i D.turned below doomed n
          (sym (cond-true _ _ _ (seen t ∙ e)));
      own = λ x. get_or-set_other ts i card Doomed x (λ q. n (sym q)) ∙ D.own x;
    }

    -- a turn that leaves the place as it is
    pub done_keep : (t : Transaction)
        → (i ≡ card) ⊎ ((i ≢ card) × (conflicts a cell (tx_kept (get_or ts i t)) ≡ false))
        → Done (i + 1) cs ts
    done_keep t w = record {
      apart = D.apart;
      stand = D.stand;
      turned =
          others_kept (struck a cell) card none start (meant cs ts).txs i D.turned below
          (⊎_elim (λ q. inl q) (λ p. inr (p.0, cond-false _ _ _ (seen t ∙ p.1))) w);
      own = D.own;
    }

  -- after the last turn
  pub done_all : (i : ℕ) (cs : List ℕ) (ts : List Transaction) → Done i cs ts → length txs ≤ i
      → meant cs ts ≡ dooming a card cell (meant cells txs)
  done_all i cs ts D h =
      let k : length start ≤ i = rw (length-map txs (tx_in cells)) h in
      both (meant cs ts) (dooming a card cell (meant cells txs)) D.stand
      (others_all (struck a cell) card none start (meant cs ts).txs i D.turned k)

  -- before the first
  pub done_none : distinct (undoes txs) ≡ true → Done 0 cells txs
  done_none d = record { apart = d; stand = refl; turned = refl; own = λ t. refl }

-- An access that puts another record in the card's place, with the same old values.
-- the values of a record's writes, by its transaction
values_of : (cs ds : List ℕ) (t : Transaction) → tx_in cs t ≡ tx_in ds t
    → map (written cs) (undo_of t) ≡ map (written ds) (undo_of t)
values_of cs ds Closed e = refl
values_of cs ds (Open l) e = cc
values_of cs ds Doomed e = refl

-- and its transaction by those values
tx_by : (cs ds : List ℕ) (t : Transaction) → map (written cs) (undo_of t) ≡ map (written ds) (undo_of t)
    → tx_in cs t ≡ tx_in ds t
tx_by cs ds Closed e = refl
tx_by cs ds (Open l) e = ap (live (marks_of l)) e
tx_by cs ds Doomed e = refl

module _ (a : Access) (card cell : ℕ) (cells cs : List ℕ) (txs ts : List Transaction) (own : Transaction)
    (h : card < length txs) (l : length ts ≡ length txs) (d : distinct (undoes ts) ≡ true)
    (kept : (t : Transaction) → get_or ts card t ≡ get_or txs card t)
    (after : meant cs ts ≡ dooming a card cell (meant cells txs))
    (same : undo_of (get_or txs card Closed) ≡ undo_of own) where
  -- the card's record before the access
  abbrev mine : Transaction
  mine = get_or txs card Closed

  -- its place is still there
  there : card < length ts
  there = omega arith

  -- and still has it
  is : mine ≡ get_or ts card mine
  is = sym (kept mine ∙ get_or_default txs card mine Closed h)

  -- what the card has written is as it was
  pub served_written : map (written cs) (undo_of own) ≡ map (written cells) (undo_of own)
  served_written =
      let f = struck a cell in
      let k : card < length (map f (meant cells txs).txs) =
      rw (length-map (meant cells txs).txs f, length-map txs (tx_in cells)) h in
      let p : get_or (meant cs ts).txs card none ≡ tx_in cs mine =
      get_or-map (tx_in cs) ts card Closed none there ∙ ap (tx_in cs) (kept Closed) in
      let q : get_or (meant cs ts).txs card none ≡ tx_in cells mine =
      ap (λ (m : Meaning). get_or m.txs card none) after
      ∙ (get_or-set_same (map f (meant cells txs).txs) card (tx_of (meant cells txs) card) none k
      ∙ get_or-map (tx_in cells) txs card Closed none h) in
      let v = values_of cs cells mine (sym p ∙ q) in
      ap (map (written cs)) (sym same) ∙ (v ∙ ap (map (written cells)) same)

  -- the same old values are kept
  undone : undoes (set ts card own) ≡ undoes ts
  undone = same_undoes ts card mine own there is (sym same) d

  -- no old value is kept twice
  pub served_apart : distinct (undoes (set ts card own)) ≡ true
  served_apart = ap distinct undone ∙ d

  -- the meaning after it
  pub served_after : meant cs (set ts card own) ≡ served a card cell (tx_in cells own) (meant cells txs)
  served_after =
      let m = meant cells txs in
      both (meant cs (set ts card own)) (served a card cell (tx_in cells own) m)
      (ap (landed cs) undone ∙ ap (λ (n : Meaning). n.cells) after)
      (map-set (tx_in cs) ts card own
      ∙ (ap (λ (n : Meaning). set n.txs card (tx_in cs own)) after
      ∙ (set-set (map (struck a cell) m.txs) card (tx_of m card) (tx_in cs own)
      ∙ ap (set (map (struck a cell) m.txs) card) (tx_by cs cells own served_written))))
