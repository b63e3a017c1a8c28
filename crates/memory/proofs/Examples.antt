-- The examples hold by computation.
use Rattle.std.proofs.Common.{refl}
use Rattle.memory.specs.Calls.{performed}
use Rattle.memory.specs.Examples.{ExamplesHold}

-- each call of the list gets the answer that is stated beside it
pub examples_hold : ExamplesHold
unfolding performed
examples_hold = refl
