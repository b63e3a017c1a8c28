-- What a door in the code is, over the meaning of its memory.
use Rattle.std.specs.Prelude.{ℕ, Ok, Err, Result}
use Rattle.memory.specs.Meaning.{Meaning}
use Rattle.lock.specs.Lock.{Size, sized}
use Rattle.lock.specs.Locks.{lock_state, size_of}
use Rattle.door.specs.declared.door.Door.{Door}
use Rattle.door.specs.declared.fault.Unfit.{Unfit}
use Rattle.door.specs.Door.{DoorState, new_door}

-- the state of a door's lock, and what it remembers
abbrev pub door_state : {X : Type 0} → (X → Meaning) → Door X → DoorState
door_state meaning d = record { lock = lock_state meaning d.lock; memos = d.memos }

-- the sizes of a door's lock
abbrev pub door_size : {X : Type 0} → Door X → Size
door_size d = size_of d.lock.sizes

-- what set-up in the code gives
abbrev pub given_by : {X : Type 0} → (X → Meaning) → Result (Door X) (Unfit X) → Result (Size × DoorState) (Unfit X)
given_by meaning (Ok d) = Ok (door_size d, door_state meaning d)
given_by meaning (Err u) = Err u

-- what set-up has to give: a new board of these sizes, or the memory back as it was
abbrev pub set_up : {X : Type 0} → X → ℕ → ℕ → ℕ → Result (Size × DoorState) (Unfit X)
set_up memory c n k =
    elim (sized c n k) [ Ok z ↦ Ok (z, new_door) | Err e ↦ Err (record { fault = e; memory = memory }) ]
