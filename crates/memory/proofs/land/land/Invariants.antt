use Rattle.std.proofs.Common.{◌≡◌, drop}
use Rattle.memory.specs.Meaning.{landed}
use Rattle.memory.proofs.land.land.Given as goal

-- what is left gives what is wanted
abbrev pub invariant-loop-write : goal.invariant-loop-write
invariant-loop-write l = landed l.cells (drop l.write-index l.writes) ≡ landed l.initial.cells l.writes
