-- The old values that transactions keep, and what their records mean.
use Rattle.std.specs.Prelude.{ℕ, Bool, List, map, slice_index}
use Rattle.std.specs.List.{flat_map}
use Rattle.memory.specs.declared.write.Write.{Write}
use Rattle.memory.specs.declared.log.Log.{Log}
use Rattle.memory.specs.declared.log.Transaction.{Transaction}
use Rattle.memory.specs.declared.log.Transaction.TheVariants.{Closed, Open, Doomed}
use Rattle.memory.specs.Logs.{marks_of, writes_of, writes_in}
use Rattle.memory.specs.Meaning.{Tx, none, live, doomed}
use Rattle.memory.specs.Isolation.{once}

-- the writes that undo a log: each puts an old value back
abbrev pub undo_log : Log → List Write
undo_log l = writes_of l

-- the writes that undo a transaction
abbrev pub undo_of : Transaction → List Write
undo_of t = writes_in t

-- the writes that undo all transactions
abbrev pub undoes : List Transaction → List Write
undoes ts = flat_map undo_of ts

-- no two of the writes are of one cell
abbrev pub distinct : List Write → Bool
distinct us = once (λ w. w.cell) us

-- the write of which u keeps the old value: its own value is in the cell
abbrev pub written : List ℕ → Write → Write
written cells u = record { cell = u.cell; value = slice_index cells u.cell }

-- a transaction, by its record and the cells
abbrev pub tx_in : List ℕ → Transaction → Tx
tx_in cells Closed = none
tx_in cells (Open l) = live (marks_of l) (map (written cells) (undo_log l))
tx_in cells Doomed = doomed
