-- A request that is sent again.
use Rattle.std.specs.Prelude.{◌≡◌, ℕ, List, [], ◌∷◌, Result, ◌≢◌}
use Rattle.stages.specs.declared.answer.Answer.{Answer}
use Rattle.lock.specs.Lock.{Size}
use Rattle.door.specs.declared.fault.DoorFault.{DoorFault}
use Rattle.door.specs.declared.call.Call.{Call}
use Rattle.door.specs.declared.call.Call.TheVariants as call
use Rattle.door.specs.Door.{DoorState, called, ran}

-- a list of calls that holds no request of card c
abbrev pub NoRequest : ℕ → List Call → Type 0
NoRequest c [] = Unit {0}
NoRequest c (call.Request d t k a b ∷ cs) = (d ≢ c) × NoRequest c cs
NoRequest c (call.Step d ∷ cs) = NoRequest c cs
NoRequest c (call.Abort d ∷ cs) = NoRequest c cs
NoRequest c (call.Reuse d n v ∷ cs) = NoRequest c cs

-- A request was answered r and left the state s. Sent again, whatever was called in between but requests of its
-- card, it gets the same answer and changes nothing.
abbrev pub Again : Size → Call → DoorState → Result Answer DoorFault → Type 0
Again z (call.Request c t k a b) s r = (cs : List Call) → NoRequest c cs
    → called z (ran z s cs) (call.Request c t k a b) ≡ (r, ran z s cs)
Again z (call.Step c) s r = Unit {0}
Again z (call.Abort c) s r = Unit {0}
Again z (call.Reuse c n v) s r = Unit {0}
