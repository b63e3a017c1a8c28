-- What the record of a card's transaction says.
use Rattle.std.specs.Prelude.{◌≡◌, ℕ, true, List, [], Ok, Err, Result}
use Rattle.memory.specs.declared.fault.MemoryFault.{MemoryFault}
use Rattle.memory.specs.declared.fault.Refusal.{Refusal}
use Rattle.memory.specs.declared.fault.Refusal.TheVariants.{Already}
use Rattle.memory.specs.declared.place.Place.{Place}
use Rattle.memory.specs.declared.write.Write.{Write}
use Rattle.memory.specs.declared.log.Log.{Log}
use Rattle.memory.specs.declared.log.Transaction.{Transaction}
use Rattle.memory.specs.declared.log.Transaction.TheVariants.{Closed, Open, Doomed}
use Rattle.memory.specs.Few.{items_of}
use Rattle.memory.specs.Meaning.{Tx, Meaning, none, live, doomed, tx_of, in_range, loading, storing, beginning}

-- the marked cells, in the order in which they came
abbrev pub marks_of : Log → List ℕ
marks_of l = items_of l.marks

-- the writes, in the order in which their cells were first written
abbrev pub writes_of : Log → List Write
writes_of l = items_of l.writes

-- a transaction, by its record alone
abbrev pub tx_kept : Transaction → Tx
tx_kept Closed = none
tx_kept (Open l) = live (marks_of l) (writes_of l)
tx_kept Doomed = doomed

-- the writes of a transaction
abbrev pub writes_in : Transaction → List Write
writes_in Closed = []
writes_in (Open l) = writes_of l
writes_in Doomed = []

-- the refusal of a call that wants no transaction, where there is one
abbrev pub wanting_none : Transaction → Result (Unit {0}) Refusal
wanting_none Closed = Ok tt
wanting_none (Open l) = Err Already
wanting_none Doomed = Err Already

-- what a call that wants no transaction finds: its place, and none; or the refusal of every such call
abbrev pub Vacant : Meaning → ℕ → ℕ → Result Place MemoryFault → Type 0
Vacant m card cell (Ok p) = (in_range card cell ≡ true) × (p.card ≡ card) × (p.cell ≡ cell) × (tx_of m card ≡ none)
Vacant m card cell (Err f) =
    (loading m card cell ≡ record { answer = Err f; after = m })
    × ((value : ℕ) → storing m card cell value ≡ record { answer = Err f; after = m })
    × (cell ≡ 0 → beginning m card ≡ record { answer = Err f; after = m })
