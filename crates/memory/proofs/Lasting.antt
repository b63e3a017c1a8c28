-- What a transaction has read still stands while it is open: the mark keeps every other card from changing the cell
-- without dooming the transaction.
use Rattle.std.proofs.Common.{◌≡◌, ℕ, Bool, true, false, cond, ◌||◌, eqb, ltb, ◌≢◌, List, [], ◌∷◌, ◌++◌, map, length}
use Rattle.std.proofs.Common.{get_or, set, Some, None, Ok, Option, sym, refl, ap, ◌∙◌, subst, ⊎_elim}
use Rattle.std.proofs.lemmas.List.{get_or-set_other}
use Rattle.std.proofs.lemmas.Bool.{cases_eq, eq-eqb, eqb-false, true≢false}
use Rattle.memory.specs.declared.fault.Refusal.TheVariants.{OutOfRange}
use Rattle.memory.specs.declared.write.Write.{Write}
use Rattle.memory.specs.declared.access.Access.{Access}
use Rattle.memory.specs.declared.access.Access.TheVariants.{Reads, Writes}
use Rattle.memory.specs.declared.call.MemoryCall.{MemoryCall}
use Rattle.memory.specs.declared.call.MemoryCall.TheVariants as call
use Rattle.memory.specs.Meaning.{Meaning, Outcome, Tx, none, live, doomed, standing, tx_of, in_range, with_tx}
use Rattle.memory.specs.Meaning.{with_cell, served, struck, conflicts, wrote}
use Rattle.memory.specs.Meaning.{marked, value_in, marking, recording, landed}
use Rattle.memory.specs.Meaning.{guarded, refused, cleared, load_at, store_at, begin_at, read_marking, read_open}
use Rattle.memory.specs.Meaning.{read_at, write_open, write_at, commit_at, drop_at}
use Rattle.memory.specs.Calls.{performed, after_calls}
use Rattle.memory.specs.Isolation.{has_written, has_touched, Apart}
use Rattle.memory.specs.Lasting.{Within, AllWithin, ReadsLast}
use Rattle.memory.proofs.Isolation.{clash, served_other, set_at, marked_marking, apart_kept}
use Rattle.memory.proofs.Kept.{kept_call}
use Rattle.memory.proofs.Soundness.{always_sound}

-- a mark that is new is there
marked_new : (ms : List ℕ) (x : ℕ) → marked (ms ++ x ∷ []) x ≡ true
marked_new [] x = rw (eq-eqb x x refl)
marked_new (k ∷ ms) x = go (eqb k x) (marked_new ms x)
  where
    go : (b : Bool) → marked (ms ++ x ∷ []) x ≡ true → cond b true (marked (ms ++ x ∷ []) x) ≡ true
    go true h = refl
    go false h = h

-- what is marked by marking a cell: the cell
marked_own : (ms ns : List ℕ) (x : ℕ) → marking ms x ≡ Some ns → marked ns x ≡ true
marked_own ms ns x = go (marked ms x) (ltb (length ms) 4) refl
  where
    go : (b l : Bool) → marked ms x ≡ b → cond b (Some ms) (cond l (Some (ms ++ x ∷ [])) None) ≡ Some ns
        → marked ns x ≡ true
    go true l p q = let z : ms ≡ ns = cc in ap (λ ks. marked ks x) (sym z) ∙ p
    go false true p q = let z : ms ++ x ∷ [] ≡ ns = cc in ap (λ ks. marked ks x) (sym z) ∙ marked_new ms x
    go false false p q = cc

-- and whatever was marked before
marked_kept : (ms ns : List ℕ) (cell x : ℕ) → marking ms cell ≡ Some ns → marked ms x ≡ true → marked ns x ≡ true
marked_kept ms ns cell x e h = ⊎_elim
    (λ (q : x ≡ cell). ap (marked ns) q ∙ marked_own ms ns cell e)
    (λ (n : x ≡ cell → ⊥). marked_marking ms ns cell x e n ∙ h) (cases_eq x cell)

-- values that become standing leave every other cell
pub landed_other : (cs : List ℕ) (ws : List Write) (x : ℕ) → wrote ws x ≡ false
    → get_or (landed cs ws) x 0 ≡ get_or cs x 0
landed_other cs [] x e = refl
landed_other cs (w ∷ ws) x e = go (eqb w.cell x) refl (landed_other (set cs w.cell w.value) ws x) e
  where
    go : (b : Bool) → eqb w.cell x ≡ b
        → (wrote ws x ≡ false → get_or (landed (set cs w.cell w.value) ws) x 0
        ≡ get_or (set cs w.cell w.value) x 0)
        → cond b true (wrote ws x) ≡ false → get_or (landed (set cs w.cell w.value) ws) x 0 ≡ get_or cs x 0
    go true q h e = cc
    go false q h e = h e ∙ get_or-set_other cs w.cell x w.value 0 (λ p. eqb-false w.cell x q (sym p))

-- a cell without a write has no value set aside
no_value : (ws : List Write) (x v : ℕ) → wrote ws x ≡ false → value_in ws x ≡ Some v → ⊥
no_value [] x v e q = cc
no_value (w ∷ ws) x v e q = go (eqb w.cell x) (no_value ws x v) e q
  where
    go : (b : Bool) → (wrote ws x ≡ false → value_in ws x ≡ Some v → ⊥) → cond b true (wrote ws x) ≡ false
        → cond b (Some w.value) (value_in ws x) ≡ Some v → ⊥
    go true h e q = cc
    go false h e q = h e q

-- a transaction that is open after another card's access was open before, and not in its way
struck_open : (a : Access) (cell : ℕ) (t : Tx) (ms : List ℕ) (ws : List Write) → struck a cell t ≡ live ms ws
    → (t ≡ live ms ws) × (conflicts a cell t ≡ false)
struck_open a cell t ms ws = go (conflicts a cell t) refl
  where
    go : (b : Bool) → conflicts a cell t ≡ b → cond b doomed t ≡ live ms ws
        → (t ≡ live ms ws) × (conflicts a cell t ≡ false)
    go true p q = cc
    go false p q = (q, p)

-- Card c has marked cell x in its transaction, and read v there.
module _ (c x v : ℕ) where
  -- a transaction has marked the cell, if it is open, and the cell stands at s, which is v
  abbrev pub TxHolds : Tx → ℕ → Type 0
  TxHolds t s = (ms : List ℕ) (ws : List Write) → t ≡ live ms ws → (marked ms x ≡ true) × (s ≡ v)

  abbrev pub Holds : Meaning → Type 0
  Holds m = TxHolds (tx_of m c) (standing m x)

  -- one that is not open
  none_holds : (s : ℕ) → TxHolds none s
  none_holds s ms ws e = cc

  -- an open one
  live_holds : (ms : List ℕ) (ws : List Write) (s : ℕ) → marked ms x ≡ true → s ≡ v → TxHolds (live ms ws) s
  live_holds ms ws s h q ns vs e = let z : ms ≡ ns = cc in (ap (λ ks. marked ks x) (sym z) ∙ h, q)

  module _ (m : Meaning) (h : Holds m) where
    -- a card's transaction is closed
    closed : (d : ℕ) → Holds (with_tx m d none)
    closed d = ⊎_elim
        (λ (q : d ≡ c). subst (λ (i : ℕ). TxHolds (get_or (set m.txs i none) c none) (standing m x)) (sym q)
        (set_at (λ t. TxHolds t (standing m x)) m.txs c none (none_holds _) (none_holds _)))
        (λ (n : d ≡ c → ⊥). other d none n) (cases_eq d c)
      where
        other : (d : ℕ) (t : Tx) → d ≢ c → Holds (with_tx m d t)
        other d t n = subst (λ (y : Tx). TxHolds y (standing m x))
            (sym (get_or-set_other m.txs d c t none (λ q. n (sym q)))) h

    -- another card begins
    begun : (d : ℕ) → d ≢ c → Holds (with_tx m d (live [] []))
    begun d n = subst (λ (y : Tx). TxHolds y (standing m x))
        (sym (get_or-set_other m.txs d c (live [] []) none (λ q. n (sym q)))) h

    -- an access: of the card itself, which then has the transaction own, or of another
    accessed : (a : Access) (d cell : ℕ) (own : Tx) → (d ≡ c → TxHolds own (standing m x))
        → Holds (served a d cell own m)
    accessed a d cell own k = ⊎_elim
        (λ (q : d ≡ c). subst (λ (i : ℕ). TxHolds (get_or (set (map (struck a cell) m.txs) i own) c none)
        (standing m x)) (sym q)
        (set_at (λ t. TxHolds t (standing m x)) (map (struck a cell) m.txs) c own (k q) (none_holds _)))
        (λ (n : d ≡ c → ⊥). subst (λ (y : Tx). TxHolds y (standing m x))
        (sym (served_other a d cell own m c (λ q. n (sym q))))
        (λ ms ws e. h ms ws (struck_open a cell (tx_of m c) ms ws e).0))
        (cases_eq d c)

    -- a store: into another cell, or it dooms the transaction
    stored : (d cell value : ℕ) → Holds (with_cell (served Writes d cell none m) cell value)
    stored d cell value ms ws e =
        let A = accessed Writes d cell none (λ _. none_holds _) ms ws e in (
          A.0,
          get_or-set_other m.cells cell x value 0 (λ q. struck_here q) ∙ A.1,
        )
      where
        struck_here : x ≡ cell → ⊥
        struck_here q = ⊎_elim
            (λ (p : d ≡ c). absurd (true≢false (none_here p)))
            (λ (n : d ≡ c → ⊥).
            let S = struck_open Writes cell (tx_of m c) ms ws
            (sym (served_other Writes d cell none m c (λ q. n (sym q))) ∙ e) in
            let H = h ms ws S.0 in
            clash (wrote ws cell || marked ms cell)
            (ap (λ b. wrote ws cell || b) (ap (marked ms) (sym q) ∙ H.0) ∙ or_true (wrote ws cell))
            (ap (conflicts Writes cell) (sym S.0) ∙ S.1))
            (cases_eq d c)
          where
            or_true : (b : Bool) → (b || true) ≡ true
            or_true true = refl
            or_true false = refl

            none_here : d ≡ c → true ≡ false
            none_here p =
                let z : tx_of (served Writes d cell none m) c ≡ none
                = subst (λ (i : ℕ). get_or (set (map (struck Writes cell) m.txs) i none) c none ≡ none) (sym p)
                (set_at (λ t. t ≡ none) (map (struck Writes cell) m.txs) c none refl refl) in cc

    -- a call on a card and a cell that have to be there
    judged : {X : Type 0} (d cell : ℕ) (k : Tx → Outcome X) → ((t : Tx) → tx_of m d ≡ t → Holds (k t).after)
        → Holds (guarded m d cell k).after
    judged d cell k f = go (in_range d cell)
      where
        go : (b : Bool) → Holds (cond b (k (tx_of m d)) (refused OutOfRange d cell m)).after
        go true = f (tx_of m d) refl
        go false = h

    -- a load
    load_holds : (d cell : ℕ) (t : Tx) → Holds (load_at m d cell t).after
    load_holds d cell none = accessed Reads d cell none (λ _. none_holds _)
    load_holds d cell (live ms ws) = h
    load_holds d cell doomed = h

    -- a store
    store_holds : (d cell value : ℕ) (t : Tx) → Holds (store_at m d cell value t).after
    store_holds d cell value none = stored d cell value
    store_holds d cell value (live ms ws) = h
    store_holds d cell value doomed = h

    -- another card's begin
    begin_holds : (d : ℕ) → d ≢ c → (t : Tx) → Holds (begin_at m d t).after
    begin_holds d n none = begun d n
    begin_holds d n (live ms ws) = h
    begin_holds d n doomed = h

    -- the card's own open transaction has the mark
    own_mark : (d : ℕ) (ms : List ℕ) (ws : List Write) → tx_of m d ≡ live ms ws → d ≡ c
        → (marked ms x ≡ true) × (standing m x ≡ v)
    own_mark d ms ws e q = h ms ws (ap (tx_of m) (sym q) ∙ e)

    -- a read
    read_holds : (d cell : ℕ) (t : Tx) → tx_of m d ≡ t → Holds (read_at m d cell t).after
    read_holds d cell none e = h
    read_holds d cell doomed e = closed d
    read_holds d cell (live ms ws) e = by_value (value_in ws cell)
      where
        by_mark : (o : Option (List ℕ)) → marking ms cell ≡ o → Holds (read_marking m d cell ws o).after
        by_mark (Some ns) p = accessed Reads d cell (live ns ws)
            (λ q. let H = own_mark d ms ws e q in
            live_holds ns ws (standing m x) (marked_kept ms ns cell x p H.0) H.1)
        by_mark None p = closed d

        by_value : (o : Option ℕ) → Holds (read_open m d cell ms ws o).after
        by_value (Some u) = accessed Reads d cell (live ms ws)
            (λ q. let H = own_mark d ms ws e q in live_holds ms ws (standing m x) H.0 H.1)
        by_value None = by_mark (marking ms cell) refl

    -- a write
    write_holds : (d cell value : ℕ) (t : Tx) → tx_of m d ≡ t → Holds (write_at m d cell value t).after
    write_holds d cell value none e = h
    write_holds d cell value doomed e = closed d
    write_holds d cell value (live ms ws) e = by_record (recording ws cell value)
      where
        by_record : (o : Option (List Write)) → Holds (write_open m d cell ms o).after
        by_record (Some vs) = accessed Writes d cell (live ms vs)
            (λ q. let H = own_mark d ms ws e q in live_holds ms vs (standing m x) H.0 H.1)
        by_record None = closed d

    -- another card's commit: what it has written, the card has not marked
    commit_holds : Apart m → (d : ℕ) → d ≢ c → (t : Tx) → tx_of m d ≡ t → Holds (commit_at m d t).after
    commit_holds A d n none e = h
    commit_holds A d n doomed e = closed d
    commit_holds A d n (live ms ws) e = λ ns vs p.
        let q : tx_of m c ≡ live ns vs = sym (get_or-set_other m.txs d c none none (λ q. n (sym q))) ∙ p in
        let H = h ns vs q in (
          H.0,
          landed_other m.cells ws x (unwritten ns vs q H.0 (wrote ws x) refl) ∙ H.1,
        )
      where
        touched : (ns : List ℕ) (b : Bool) → marked ns x ≡ true → (b || marked ns x) ≡ true
        touched ns true k = refl
        touched ns false k = k

        unwritten : (ns : List ℕ) (vs : List Write) → tx_of m c ≡ live ns vs → marked ns x ≡ true
            → (b : Bool) → wrote ws x ≡ b → wrote ws x ≡ false
        unwritten ns vs q k true w = clash (has_touched (tx_of m c) x)
            (ap (λ t. has_touched t x) q ∙ touched ns (wrote vs x) k)
            (A d c x n (ap (λ t. has_written t x) e ∙ w))
        unwritten ns vs q k false w = w

    -- another card's drop
    drop_holds : (d : ℕ) (t : Tx) → Holds (drop_at m d t).after
    drop_holds d none = h
    drop_holds d (live ms ws) = closed d
    drop_holds d doomed = closed d

    -- every call before the transaction ends
    call_holds : Apart m → (k : MemoryCall) → Within c k → Holds (performed m k).after
    unfolding performed
    call_holds A call.Clear w = absurd w
    call_holds A (call.Look cell) w = h
    call_holds A (call.Load d cell) w = judged d cell (load_at m d cell) (λ t e. load_holds d cell t)
    call_holds A (call.Store d cell value) w =
        judged d cell (store_at m d cell value) (λ t e. store_holds d cell value t)
    call_holds A (call.Begin d) w = judged d 0 (begin_at m d) (λ t e. begin_holds d w t)
    call_holds A (call.Read d cell) w = judged d cell (read_at m d cell) (read_holds d cell)
    call_holds A (call.Write d cell value) w = judged d cell (write_at m d cell value) (write_holds d cell value)
    call_holds A (call.Commit d) w = judged d 0 (commit_at m d) (commit_holds A d w)
    call_holds A (call.Drop d) w = judged d 0 (drop_at m d) (λ t e. drop_holds d t)

  -- every list of such calls
  calls_hold : (m : Meaning) → Apart m → Holds m → (ks : List MemoryCall) → AllWithin c ks → Holds (after_calls m ks)
  calls_hold m A h [] w = h
  calls_hold m A h (k ∷ ks) w =
      calls_hold (performed m k).after (kept_call Apart apart_kept m A k) (call_holds m h A k w.0) ks w.1

  -- a read of a cell that the card has not written, answered v, marks it
  read_marks : (m : Meaning) → has_written (tx_of m c) x ≡ false → (performed m (call.Read c x)).answer ≡ Ok v
      → Holds (performed m (call.Read c x)).after
  unfolding performed
  read_marks m n = by_range (in_range c x)
    where
      by_mark : (ms : List ℕ) (ws : List Write) (o : Option (List ℕ)) → marking ms x ≡ o
          → (read_marking m c x ws o).answer ≡ Ok v → Holds (read_marking m c x ws o).after
      by_mark ms ws (Some ns) p q = let z : standing m x ≡ v = cc in
          set_at (λ t. TxHolds t (standing m x)) (map (struck Reads x) m.txs) c (live ns ws)
          (live_holds ns ws (standing m x) (marked_own ms ns x p) z) (none_holds _)
      by_mark ms ws None p q = cc

      by_value : (ms : List ℕ) (ws : List Write) (o : Option ℕ) → wrote ws x ≡ false → value_in ws x ≡ o
          → (read_open m c x ms ws o).answer ≡ Ok v → Holds (read_open m c x ms ws o).after
      by_value ms ws (Some u) k p q = absurd (no_value ws x u k p)
      by_value ms ws None k p q = by_mark ms ws (marking ms x) refl q

      by_tx : (t : Tx) → tx_of m c ≡ t → (read_at m c x t).answer ≡ Ok v → Holds (read_at m c x t).after
      by_tx none e q = cc
      by_tx doomed e q = cc
      by_tx (live ms ws) e q = by_value ms ws (value_in ws x) (ap (λ t. has_written t x) (sym e) ∙ n) refl q

      by_range : (b : Bool) → (cond b (read_at m c x (tx_of m c)) (refused OutOfRange c x m)).answer ≡ Ok v
          → Holds (cond b (read_at m c x (tx_of m c)) (refused OutOfRange c x m)).after
      by_range true q = by_tx (tx_of m c) refl q
      by_range false q = cc

-- so it is in every run
pub reads_last : ReadsLast
reads_last before later c x v n q w =
    let m = after_calls cleared before in
    let A = kept_call Apart apart_kept m (always_sound before).apart (call.Read c x) in
    λ ms ws e. (calls_hold c x v (performed m (call.Read c x)).after A (read_marks c x v m n q) later w ms ws e).1
