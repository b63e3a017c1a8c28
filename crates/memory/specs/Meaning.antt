-- What a memory means, and what each of its nine calls answers and leaves, refused calls too.
use Rattle.std.specs.Prelude.{ℕ, ◌+◌, Bool, true, false, cond, ◌||◌, List, [], ◌∷◌, ◌++◌, map, length, replicate}
use Rattle.std.specs.Prelude.{Some, None, Ok, Err, Option, Result, ◌==◌, nat_lt, slice_index, slice_index_or}
use Rattle.std.specs.Prelude.{slice_set}
use Rattle.memory.specs.declared.write.Write.{Write}
use Rattle.memory.specs.declared.access.Access.{Access}
use Rattle.memory.specs.declared.access.Access.TheVariants.{Reads, Writes}
use Rattle.memory.specs.declared.fault.MemoryFault.{MemoryFault}
use Rattle.memory.specs.declared.fault.Refusal.{Refusal}
use Rattle.memory.specs.declared.fault.Refusal.TheVariants.{OutOfRange, Already, NoTransaction, Doomed, Full}

-- a card's transaction: none; an open one with its marks (the cells that it read) and its writes, each in the
-- order in which they came (live); or a doomed one, which keeps nothing else
pub data Tx : Type 0 where
  none : Tx
  live : List ℕ → List Write → Tx
  doomed : Tx

-- the standing value of each of 137 cells, and the transaction of each of eight cards; clear makes the lists that
-- long, and every call keeps their lengths
pub record Meaning : Type 0 where
  pub cells : List ℕ
  pub txs : List Tx

-- what a call answers, and the meaning after it
pub record Outcome (X : Type 0) : Type 0 where
  pub answer : Result X MemoryFault
  pub after : Meaning

-- the standing value of a cell
abbrev pub standing : Meaning → ℕ → ℕ
standing m cell = slice_index m.cells cell

-- a card's transaction
abbrev pub tx_of : Meaning → ℕ → Tx
tx_of m card = slice_index_or m.txs card none

-- a card and a cell that every memory has
abbrev pub in_range : ℕ → ℕ → Bool
in_range card cell = cond (nat_lt card 8) (nat_lt cell 137) false

-- the meaning with another transaction for a card
abbrev pub with_tx : Meaning → ℕ → Tx → Meaning
with_tx m card t = record { cells = m.cells; txs = slice_set m.txs card t }

-- the meaning with another standing value for a cell
abbrev pub with_cell : Meaning → ℕ → ℕ → Meaning
with_cell m cell value = record { cells = slice_set m.cells cell value; txs = m.txs }

-- a call that is accepted with an answer
abbrev pub accepted : {X : Type 0} → X → Meaning → Outcome X
accepted x m = record { answer = Ok x; after = m }

-- a call that is refused, with its card and its cell
abbrev pub refused : {X : Type 0} → Refusal → ℕ → ℕ → Meaning → Outcome X
refused why card cell m = record { answer = Err (record { refusal = why; card = card; cell = cell }); after = m }

-- whether one of the records is of the cell; f gives a record's cell
abbrev pub has : {X : Type 0} → (X → ℕ) → List X → ℕ → Bool
has f [] cell = false
has f (x ∷ xs) cell = cond (f x == cell) true (has f xs cell)

-- the place, counted from k, of the first record of the cell
abbrev pub seek : {X : Type 0} → (X → ℕ) → ℕ → ℕ → List X → Option ℕ
seek f cell k [] = None
seek f cell k (x ∷ xs) = cond (f x == cell) (Some k) (seek f cell (k + 1) xs)

-- whether the writes have one of the cell
abbrev pub wrote : List Write → ℕ → Bool
wrote ws cell = has (λ w. w.cell) ws cell

-- whether the marks have the cell
abbrev pub marked : List ℕ → ℕ → Bool
marked ms cell = has (λ k. k) ms cell

-- the value that the writes record for a cell
abbrev pub value_in : List Write → ℕ → Option ℕ
value_in [] cell = None
value_in (w ∷ ws) cell = cond (w.cell == cell) (Some w.value) (value_in ws cell)

-- the writes with the value in place of an earlier one of the cell
abbrev pub replaced : List Write → ℕ → ℕ → List Write
replaced [] cell value = []
replaced (w ∷ ws) cell value =
    cond (w.cell == cell) (record { cell = cell; value = value } ∷ ws) (w ∷ replaced ws cell value)

-- the marks with the cell among them once; None where it would be a fifth
abbrev pub marking : List ℕ → ℕ → Option (List ℕ)
marking ms cell = cond (marked ms cell) (Some ms) (cond (nat_lt (length ms) 4) (Some (ms ++ cell ∷ [])) None)

-- the writes with the value for the cell; None where it would be a fifth
abbrev pub recording : List Write → ℕ → ℕ → Option (List Write)
recording ws cell value =
    cond (wrote ws cell) (Some (replaced ws cell value))
    (cond (nat_lt (length ws) 4) (Some (ws ++ record { cell = cell; value = value } ∷ [])) None)

-- whether an access by another card dooms an open transaction: one that looks goes against those that have
-- written the cell, one that gives a value against those that have marked or written it
abbrev pub against : Access → List ℕ → List Write → ℕ → Bool
against Reads ms ws cell = wrote ws cell
against Writes ms ws cell = wrote ws cell || marked ms cell

-- the same of a card's transaction: only an open one can be doomed
abbrev pub conflicts : Access → ℕ → Tx → Bool
conflicts a cell none = false
conflicts a cell (live ms ws) = against a ms ws cell
conflicts a cell doomed = false

-- another card's transaction after an accepted access: the requester wins
abbrev pub struck : Access → ℕ → Tx → Tx
struck a cell t = cond (conflicts a cell t) doomed t

-- an accepted access: every other card's transaction is struck, and the card has the transaction own
abbrev pub served : Access → ℕ → ℕ → Tx → Meaning → Meaning
served a card cell own m = record { cells = m.cells; txs = slice_set (map (struck a cell) m.txs) card own }

-- a call on a card and a cell that have to be there; k goes by the card's transaction
abbrev pub guarded : {X : Type 0} → Meaning → ℕ → ℕ → (Tx → Outcome X) → Outcome X
guarded m card cell k = cond (in_range card cell) (k (tx_of m card)) (refused OutOfRange card cell m)

-- clear: every cell 0, and no transaction
abbrev pub cleared : Meaning
cleared = record { cells = replicate 137 0; txs = replicate 8 none }

-- look: the standing value; nothing changes
abbrev pub looking : Meaning → ℕ → Result ℕ MemoryFault
looking m cell =
    cond (nat_lt cell 137) (Ok (standing m cell)) (Err (record { refusal = OutOfRange; card = 0; cell = cell }))

-- load: the standing value
abbrev pub load_at : Meaning → ℕ → ℕ → Tx → Outcome ℕ
load_at m card cell none = accepted (standing m cell) (served Reads card cell none m)
load_at m card cell (live ms ws) = refused Already card cell m
load_at m card cell doomed = refused Already card cell m

-- load: the range is judged first, and then it goes by the card's transaction
abbrev pub loading : Meaning → ℕ → ℕ → Outcome ℕ
loading m card cell = guarded m card cell (load_at m card cell)

-- store: the value becomes the standing one
abbrev pub store_at : Meaning → ℕ → ℕ → ℕ → Tx → Outcome (Unit {0})
store_at m card cell value none = accepted tt (with_cell (served Writes card cell none m) cell value)
store_at m card cell value (live ms ws) = refused Already card cell m
store_at m card cell value doomed = refused Already card cell m

-- store: the range is judged first, and then it goes by the card's transaction
abbrev pub storing : Meaning → ℕ → ℕ → ℕ → Outcome (Unit {0})
storing m card cell value = guarded m card cell (store_at m card cell value)

-- begin: an open transaction with no marks and no writes
abbrev pub begin_at : Meaning → ℕ → Tx → Outcome (Unit {0})
begin_at m card none = accepted tt (with_tx m card (live [] []))
begin_at m card (live ms ws) = refused Already card 0 m
begin_at m card doomed = refused Already card 0 m

-- begin: the range is judged first, and then it goes by the card's transaction
abbrev pub beginning : Meaning → ℕ → Outcome (Unit {0})
beginning m card = guarded m card 0 (begin_at m card)

-- read: the transaction's own write of the cell and no mark, or else the standing value and one mark of the cell
abbrev pub read_marking : Meaning → ℕ → ℕ → List Write → Option (List ℕ) → Outcome ℕ
read_marking m card cell ws (Some ms) = accepted (standing m cell) (served Reads card cell (live ms ws) m)
read_marking m card cell ws None = refused Full card cell (with_tx m card none)

-- read in an open transaction, by its own write of the cell
abbrev pub read_open : Meaning → ℕ → ℕ → List ℕ → List Write → Option ℕ → Outcome ℕ
read_open m card cell ms ws (Some v) = accepted v (served Reads card cell (live ms ws) m)
read_open m card cell ms ws None = read_marking m card cell ws (marking ms cell)

-- read, by the card's transaction
abbrev pub read_at : Meaning → ℕ → ℕ → Tx → Outcome ℕ
read_at m card cell none = refused NoTransaction card cell m
read_at m card cell (live ms ws) = read_open m card cell ms ws (value_in ws cell)
read_at m card cell doomed = refused Doomed card cell (with_tx m card none)

-- read: the range is judged first, and then it goes by the card's transaction
abbrev pub reading : Meaning → ℕ → ℕ → Outcome ℕ
reading m card cell = guarded m card cell (read_at m card cell)

-- write: the value is recorded, in place of an earlier one of the cell
abbrev pub write_open : Meaning → ℕ → ℕ → List ℕ → Option (List Write) → Outcome (Unit {0})
write_open m card cell ms (Some ws) = accepted tt (served Writes card cell (live ms ws) m)
write_open m card cell ms None = refused Full card cell (with_tx m card none)

-- write, by the card's transaction
abbrev pub write_at : Meaning → ℕ → ℕ → ℕ → Tx → Outcome (Unit {0})
write_at m card cell value none = refused NoTransaction card cell m
write_at m card cell value (live ms ws) = write_open m card cell ms (recording ws cell value)
write_at m card cell value doomed = refused Doomed card cell (with_tx m card none)

-- write: the range is judged first, and then it goes by the card's transaction
abbrev pub writing : Meaning → ℕ → ℕ → ℕ → Outcome (Unit {0})
writing m card cell value = guarded m card cell (write_at m card cell value)

-- the cells with all recorded values made standing
abbrev pub landed : List ℕ → List Write → List ℕ
landed cs [] = cs
landed cs (w ∷ ws) = landed (slice_set cs w.cell w.value) ws

-- commit: all recorded values become standing, and the transaction is closed
abbrev pub commit_at : Meaning → ℕ → Tx → Outcome (Unit {0})
commit_at m card none = refused NoTransaction card 0 m
commit_at m card (live ms ws) = accepted tt (record { cells = landed m.cells ws; txs = slice_set m.txs card none })
commit_at m card doomed = refused Doomed card 0 (with_tx m card none)

-- commit: the range is judged first, and then it goes by the card's transaction
abbrev pub committing : Meaning → ℕ → Outcome (Unit {0})
committing m card = guarded m card 0 (commit_at m card)

-- drop: the transaction, open or doomed, is closed, and no standing value changes
abbrev pub drop_at : Meaning → ℕ → Tx → Outcome (Unit {0})
drop_at m card none = refused NoTransaction card 0 m
drop_at m card (live ms ws) = accepted tt (with_tx m card none)
drop_at m card doomed = accepted tt (with_tx m card none)

-- drop: the range is judged first, and then it goes by the card's transaction
abbrev pub dropping : Meaning → ℕ → Outcome (Unit {0})
dropping m card = guarded m card 0 (drop_at m card)
