-- What a lock in the code is, over the meaning of its memory.
use Rattle.std.specs.Prelude.{Ok, Err, Result}
use Rattle.memory.specs.Meaning.{Meaning}
use Rattle.lock.specs.declared.fault.SizeFault.{SizeFault}
use Rattle.lock.specs.declared.lock.Lock.{Lock}
use Rattle.lock.specs.declared.sizes.Sizes.{Sizes}
use Rattle.lock.specs.Lock.{LockState, Size}

-- the meaning of a lock's memory, and its cards' records
abbrev pub lock_state : {X : Type 0} → (X → Meaning) → Lock X → LockState
lock_state meaning l = record { meaning = meaning l.memory; cards = l.table.records }

-- the sizes as numbers
abbrev pub size_of : Sizes → Size
size_of z = record { cards = z.cards; nodes = z.nodes; counters = z.counters }

-- a judgement of sizes in the code
abbrev pub sizes_judged : Result Sizes SizeFault → Result Size SizeFault
sizes_judged (Ok z) = Ok (size_of z)
sizes_judged (Err e) = Err e
