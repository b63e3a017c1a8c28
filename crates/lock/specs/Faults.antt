-- The faults of the lock: their numbers, and how a fault of the memory becomes one.
use Rattle.std.specs.Prelude.{ℕ}
use Rattle.memory.specs.declared.fault.MemoryFault.{MemoryFault}
use Rattle.lock.specs.declared.fault.SizeFault.{SizeFault}
use Rattle.lock.specs.declared.fault.SizeFault.TheVariants.{OutOfRange}
use Rattle.lock.specs.declared.fault.LockFault.{LockFault}
use Rattle.lock.specs.declared.fault.LockFault.TheVariants.{NoCard, NotAllowed, NoPlace, NotFree, Memory}

-- the number by which the refusal of sizes is known outside
abbrev pub size_number : SizeFault → ℕ
size_number OutOfRange = 1

-- the number by which a refusal is known outside
abbrev pub number : LockFault → ℕ
number NoCard = 2
number NotAllowed = 5
number NoPlace = 6
number NotFree = 7
number (Memory f) = 8

-- a fault of the memory passes up whole
abbrev pub raised : MemoryFault → LockFault
raised f = Memory f
