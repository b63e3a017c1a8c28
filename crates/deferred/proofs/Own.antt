-- An access in two parts: what it makes of the card's own transaction, and then of the others'.
use Rattle.std.proofs.Common.{◌≡◌, ℕ, ◌<◌, true, List, map, length, get_or, set, Some, None, Ok, Err, Option, Result}
use Rattle.std.proofs.Common.{inl, inr}
use Rattle.std.proofs.Common.{sym, refl, ap, ◌∙◌, get_or-set_same, set-set}
use lib.Seq.{map-set, set-get_or}
use Rattle.std.proofs.lemmas.List.{get_or-map, length-map}
use Rattle.std.proofs.lemmas.Bool.{cond-true}
use Rattle.memory.specs.declared.access.Access.{Access}
use Rattle.memory.specs.declared.access.Access.TheVariants.{Reads, Writes}
use Rattle.memory.specs.declared.fault.Refusal.{Refusal}
use Rattle.memory.specs.declared.fault.Refusal.TheVariants.{NoTransaction}
use Rattle.memory.specs.declared.log.Log.{Log}
use Rattle.memory.specs.declared.place.Place.{Place}
use Rattle.memory.specs.declared.write.Write.{Write}
use Rattle.memory.specs.Meaning.{Meaning, Outcome, Tx, none, live, doomed, struck, standing, marking, recording}
use Rattle.memory.specs.Meaning.{accepted, refused, served, with_tx, value_in, tx_of, in_range, reading, writing}
use Rattle.memory.specs.Meaning.{read_at, read_open, read_marking, write_at, write_open, landed, commit_at, committing}
use Rattle.memory.specs.declared.log.Transaction.{Transaction}
use Rattle.memory.specs.Logs.{writes_of, tx_kept}
use Rattle.deferred.specs.Own.{Taken, own_read, own_read_open, own_marking, own_write, own_write_open}

-- the whole access, by the answer of the first part and the card's transaction after it
abbrev pub finished : {X : Type 0} → Access → Meaning → ℕ → ℕ → Tx → Result X Refusal → Outcome X
finished how m card cell t (Ok x) = accepted x (served how card cell t m)
finished how m card cell t (Err f) = refused f card cell (with_tx m card t)

-- a transaction that is put where it stands already changes nothing
same_tx : (m : Meaning) (card : ℕ) (t : Tx) → get_or m.txs card none ≡ t → m ≡ with_tx m card t
same_tx m card t e =
    ap (λ ts. record { cells = m.cells; txs = ts })
    (sym (ap (λ x. set m.txs card x) (sym e) ∙ set-get_or m.txs card none))

-- a read that found no own write of the cell
marking_finished : (m : Meaning) (card cell : ℕ) (ws : List Write) (o : Option (List ℕ))
    → let p = own_marking ws (standing m cell) o in
    read_marking m card cell ws o ≡ finished Reads m card cell p.1 p.0
marking_finished m card cell ws (Some ms) = refl
marking_finished m card cell ws None = refl

read_open_finished : (m : Meaning) (card cell : ℕ) (ms : List ℕ) (ws : List Write) (o : Option ℕ)
    → let p = own_read_open ms ws cell (standing m cell) o in
    read_open m card cell ms ws o ≡ finished Reads m card cell p.1 p.0
read_open_finished m card cell ms ws (Some v) = refl
read_open_finished m card cell ms ws None = marking_finished m card cell ws (marking ms cell)

-- a read is its two parts
pub read_finished : (m : Meaning) (card cell : ℕ) (t : Tx) → get_or m.txs card none ≡ t
    → let p = own_read t cell (standing m cell) in
    read_at m card cell t ≡ finished Reads m card cell p.1 p.0
read_finished m card cell none e = ap (λ x. refused NoTransaction card cell x) (same_tx m card none e)
read_finished m card cell (live ms ws) e = read_open_finished m card cell ms ws (value_in ws cell)
read_finished m card cell doomed e = refl

write_open_finished : (m : Meaning) (card cell : ℕ) (ms : List ℕ) (o : Option (List Write))
    → let p = own_write_open ms o in
    write_open m card cell ms o ≡ finished Writes m card cell p.1 p.0
write_open_finished m card cell ms (Some ws) = refl
write_open_finished m card cell ms None = refl

-- a write is its two parts
pub write_finished : (m : Meaning) (card cell value : ℕ) (t : Tx) → get_or m.txs card none ≡ t
    → let p = own_write t cell value in
    write_at m card cell value t ≡ finished Writes m card cell p.1 p.0
write_finished m card cell value none e = ap (λ x. refused NoTransaction card cell x) (same_tx m card none e)
write_finished m card cell value (live ms ws) e = write_open_finished m card cell ms (recording ws cell value)
write_finished m card cell value doomed e = refl

-- the others are struck alike whether the card's own transaction changed before or changes after
pub others_after_own : (how : Access) (cell card : ℕ) (ts : List Tx) (t : Tx) → card < length ts
    → set (map (struck how cell) (set ts card t)) card (get_or (set ts card t) card none)
    ≡ set (map (struck how cell) ts) card t
others_after_own how cell card ts t h =
    ap (λ l. set l card (get_or (set ts card t) card none)) (map-set (struck how cell) ts card t)
    ∙ (set-set (map (struck how cell) ts) card (struck how cell t) (get_or (set ts card t) card none)
    ∙ ap (set (map (struck how cell) ts) card) (get_or-set_same ts card t none h))

-- the same of the records
pub struck_after_own : (how : Access) (cell card : ℕ) (txs : List Transaction) (x : Transaction) → card < length txs
    → set (map (struck how cell) (map tx_kept (set txs card x))) card (get_or (map tx_kept (set txs card x)) card none)
    ≡ set (map (struck how cell) (map tx_kept txs)) card (tx_kept x)
struck_after_own how cell card txs x h =
    ap (λ l. set (map (struck how cell) l) card (get_or l card none)) (map-set tx_kept txs card x)
    ∙ others_after_own how cell card (map tx_kept txs) (tx_kept x) (rw (length-map txs tx_kept) h)

-- a read in range, by its first part
pub reading_by : (m : Meaning) (p : Place) (card cell : ℕ) (t : Tx) (r : Result ℕ Refusal)
    → (in_range card cell ≡ true) × (p.card ≡ card) × (p.cell ≡ cell)
    → (r, t) ≡ own_read (tx_of m card) p.cell (standing m cell)
    → reading m card cell ≡ finished Reads m card cell t r
reading_by m p card cell t r h e =
    cond-true _ _ _ h.0
    ∙ (read_finished m card cell (tx_of m card) refl
    ∙ ap (λ q. finished Reads m card cell q.1 q.0)
    (sym (e ∙ ap (λ c. own_read (tx_of m card) c (standing m cell)) h.2)))

-- a write in range, by its first part
pub writing_by : (m : Meaning) (p : Place) (card cell value : ℕ) (t : Tx) (r : Result (Unit {0}) Refusal)
    → (in_range card cell ≡ true) × (p.card ≡ card) × (p.cell ≡ cell)
    → (r, t) ≡ own_write (tx_of m card) p.cell value
    → writing m card cell value ≡ finished Writes m card cell t r
writing_by m p card cell value t r h e =
    cond-true _ _ _ h.0
    ∙ (write_finished m card cell value (tx_of m card) refl
    ∙ ap (λ q. finished Writes m card cell q.1 q.0) (sym (e ∙ ap (λ c. own_write (tx_of m card) c value) h.2)))

-- what a commit leaves, by what was taken
abbrev pub committed : Meaning → ℕ → Result Log Refusal → Outcome (Unit {0})
committed m card (Ok l) = accepted tt (record { cells = landed m.cells (writes_of l); txs = set m.txs card none })
committed m card (Err f) = refused f card 0 (with_tx m card none)

-- a commit in range, by what was taken
pub committing_by : (m : Meaning) (card : ℕ) (r : Result Log Refusal) → in_range card 0 ≡ true
    → Taken (tx_of m card) r → committing m card ≡ committed m card r
committing_by m card (Ok l) h e = cond-true _ _ _ h ∙ ap (commit_at m card) e
committing_by m card (Err f) h (inl e) =
    cond-true _ _ _ h
    ∙ (ap (commit_at m card) e.0
    ∙ (ap (λ x. refused NoTransaction card 0 x) (same_tx m card none e.0)
    ∙ ap (λ g. refused g card 0 (with_tx m card none)) (sym e.1)))
committing_by m card (Err f) h (inr e) =
    cond-true _ _ _ h
    ∙ (ap (commit_at m card) e.0 ∙ ap (λ g. refused g card 0 (with_tx m card none)) (sym e.1))

-- the parts of an access, and a card's record where it is read and where it is put, for the tactics
pub ruleset parts = (map-set, get_or-map, reading_by, writing_by, committing_by, struck_after_own)
