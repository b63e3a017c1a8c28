-- The number of each refusal of a memory.
use Rattle.std.specs.Prelude.{ℕ}
use Rattle.memory.specs.declared.fault.Refusal.{Refusal}
use Rattle.memory.specs.declared.fault.Refusal.TheVariants.{OutOfRange, Already, NoTransaction, Doomed, Full}

-- the number by which a refusal is known outside
abbrev pub number : Refusal → ℕ
number OutOfRange = 21
number Already = 22
number NoTransaction = 23
number Doomed = 24
number Full = 25
