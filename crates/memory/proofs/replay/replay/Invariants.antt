use Rattle.std.proofs.Common.{◌≡◌, drop}
use Rattle.memory.specs.Meaning.{cleared}
use Rattle.memory.specs.Calls.{after_calls}
use Rattle.memory.proofs.replay.replay.Given as goal

-- the calls that are left lead to where all of them lead
abbrev pub invariant-loop-call : goal.invariant-loop-call
invariant-loop-call g l =
    after_calls (g.M.Memory.meaning l.memory) (drop l.call-index l.calls) ≡ after_calls cleared l.calls
