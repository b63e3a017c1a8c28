-- The faults of the door: their numbers, and how a fault of the lock becomes one.
use Rattle.std.specs.Prelude.{ℕ}
use Rattle.lock.specs.declared.fault.LockFault.{LockFault}
use Rattle.lock.specs.Faults as lock
use Rattle.door.specs.declared.fault.DoorFault.{DoorFault}
use Rattle.door.specs.declared.fault.DoorFault.TheVariants.{Malformed, Differs, Lock}

-- the number by which a refusal is known outside
abbrev pub number : DoorFault → ℕ
number Malformed = 3
number Differs = 4
number (Lock f) = lock.number f

-- a fault of the lock passes up whole
abbrev pub raised : LockFault → DoorFault
raised f = Lock f
