-- What an access makes of the card's own transaction, whatever it does to others: the answer, and the transaction
-- after it. A refusal that is not for want of a transaction closes it.
use Rattle.std.specs.Prelude.{◌≡◌, ◌⊎◌, ℕ, List, Some, None, Ok, Err, Option, Result}
use Rattle.memory.specs.declared.fault.Refusal.{Refusal}
use Rattle.memory.specs.declared.fault.Refusal.TheVariants.{NoTransaction, Doomed, Full}
use Rattle.memory.specs.declared.log.Log.{Log}
use Rattle.memory.specs.declared.write.Write.{Write}
use Rattle.memory.specs.Logs.{marks_of, writes_of}
use Rattle.memory.specs.Meaning.{Tx, none, live, doomed, marking, recording, value_in}

-- the log of a transaction, or why there is none to go on with
abbrev pub Taken : Tx → Result Log Refusal → Type 0
Taken t (Ok l) = t ≡ live (marks_of l) (writes_of l)
Taken t (Err f) = ((t ≡ none) × (f ≡ NoTransaction)) ⊎ ((t ≡ doomed) × (f ≡ Doomed))

-- a read of a cell that is not written: the standing value, and a mark
abbrev pub own_marking : List Write → ℕ → Option (List ℕ) → Result ℕ Refusal × Tx
own_marking ws standing (Some ms) = (Ok standing, live ms ws)
own_marking ws standing None = (Err Full, none)

-- a read in an open transaction, by the value that it has set aside for the cell
abbrev pub own_read_open : List ℕ → List Write → ℕ → ℕ → Option ℕ → Result ℕ Refusal × Tx
own_read_open ms ws cell standing (Some v) = (Ok v, live ms ws)
own_read_open ms ws cell standing None = own_marking ws standing (marking ms cell)

-- a read
abbrev pub own_read : Tx → ℕ → ℕ → Result ℕ Refusal × Tx
own_read none cell standing = (Err NoTransaction, none)
own_read (live ms ws) cell standing = own_read_open ms ws cell standing (value_in ws cell)
own_read doomed cell standing = (Err Doomed, none)

-- a write in an open transaction, by the writes with the value among them
abbrev pub own_write_open : List ℕ → Option (List Write) → Result (Unit {0}) Refusal × Tx
own_write_open ms (Some ws) = (Ok tt, live ms ws)
own_write_open ms None = (Err Full, none)

-- a write
abbrev pub own_write : Tx → ℕ → ℕ → Result (Unit {0}) Refusal × Tx
own_write none cell value = (Err NoTransaction, none)
own_write (live ms ws) cell value = own_write_open ms (recording ws cell value)
own_write doomed cell value = (Err Doomed, none)
