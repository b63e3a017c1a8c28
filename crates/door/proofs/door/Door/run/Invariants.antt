use Rattle.std.proofs.Common.{◌≡◌, drop}
use Rattle.door.specs.Door.{ran}
use Rattle.door.specs.Doors.{door_state, door_size}
use Rattle.door.proofs.door.Door.run.Given as goal

-- the sizes are as they were, and the calls that are left lead where all of them lead from the start
abbrev pub invariant-loop-call : goal.invariant-loop-call
invariant-loop-call g l =
    (l.self.lock.sizes ≡ l.initial.self.lock.sizes) ×
    (ran (door_size l.initial.self) (door_state g.M.Memory.meaning l.self) (drop l.call-index l.calls)
    ≡ ran (door_size l.initial.self) (door_state g.M.Memory.meaning l.initial.self) l.calls)
