use Rattle.std.proofs.Common.{refl}
use Rattle.memory.specs.Calls.{performed}
use Rattle.door.specs.Door.{new_door, called}
use Rattle.door.proofs.runs.runs_hold.Goals as goal

-- by computation
pub returns : goal.returns
unfolding new_door called performed
returns c = refl
