-- Tables with the same records.
use Rattle.std.proofs.Common.{◌≡◌, List, length}
use native.Mathlib.Nat.{ℕ_set}
use Rattle.lock.specs.declared.table.Table.{Table}

-- tables with the same records are the same, whatever the proof of their number
pub same_table : {T : Type 0} (xs : List T) (p q : length xs ≡ 8)
    → ◌≡◌ {A = Table T} (record { records = xs; whole = p }) (record { records = xs; whole = q })
same_table xs p q i = record { records = xs; whole = ℕ_set _ _ p q i }
