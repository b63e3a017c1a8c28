-- A table with another record for a card.
use Rattle.std.proofs.Common.{◌∙◌, length-set}
use Rattle.std.specs.Prelude.{ℕ, slice_set}
use Rattle.lock.specs.declared.table.Table.{Table}

-- the table with w as the record of card c
abbrev pub with_record : {T : Type 0} → Table T → ℕ → T → Table T
with_record t c w = record { records = slice_set t.records c w; whole = length-set t.records c w ∙ t.whole }
