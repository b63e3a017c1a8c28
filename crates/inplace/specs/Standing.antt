-- What a memory that writes in place means: the old values, put back, are the standing ones.
use Rattle.std.specs.Prelude.{◌≡◌, ℕ, cond, List, map, Ok, Err, Result, nat_lt, slice_index}
use Rattle.std.specs.Prelude.{slice_index_or}
use Rattle.memory.specs.declared.fault.MemoryFault.{MemoryFault}
use Rattle.memory.specs.declared.fault.Refusal.TheVariants.{OutOfRange}
use Rattle.memory.specs.declared.access.Access.{Access}
use Rattle.memory.specs.Meaning.{Meaning, landed, tx_of, served, reading, writing, committing}
use Rattle.inplace.specs.Undo.{undoes, tx_in}
use Rattle.memory.specs.declared.log.Log.{Log}
use Rattle.memory.specs.declared.log.Transaction.{Transaction}
use Rattle.memory.specs.declared.place.Place.{Place}
use Rattle.memory.specs.declared.log.Transaction.TheVariants.{Closed, Open}
use Rattle.inplace.specs.declared.inplace.InPlace.{InPlace}

-- the meaning of cells and records
abbrev pub meant : List ℕ → List Transaction → Meaning
meant cells txs = record { cells = landed cells (undoes txs); txs = map (tx_in cells) txs }

-- the meaning of the memory
abbrev pub meaning_of : InPlace → Meaning
meaning_of e = meant e.cells e.txs

-- what a cell itself holds
abbrev pub holding : InPlace → ℕ → Result ℕ MemoryFault
holding e cell =
    cond (nat_lt cell 137) (Ok (slice_index e.cells cell))
    (Err (record { refusal = OutOfRange; card = 0; cell = cell }))

-- an accepted access by a card that keeps its own transaction
abbrev pub dooming : Access → ℕ → ℕ → Meaning → Meaning
dooming a card cell m = served a card cell (tx_of m card) m

-- a card's transaction as it is looked up
abbrev pub Fetched : InPlace → Place → Transaction → Type 0
Fetched e p t = (tx_of (meaning_of e) p.card ≡ tx_in e.cells t) × (slice_index_or e.txs p.card Closed ≡ t)

-- the log of a card's open transaction, where the meaning stays; or the refusal of every call that wants one
abbrev pub Opened : InPlace → InPlace → Place → Result Log MemoryFault → Type 0
Opened e n p (Ok l) = (meaning_of n ≡ meaning_of e) × Fetched n p (Open l)
Opened e n p (Err f) =
    (reading (meaning_of e) p.card p.cell ≡ record { answer = Err f; after = meaning_of n })
    × ((value : ℕ) → writing (meaning_of e) p.card p.cell value ≡ record { answer = Err f; after = meaning_of n })
    × (p.cell ≡ 0 → committing (meaning_of e) p.card ≡ record { answer = Err f; after = meaning_of n })
