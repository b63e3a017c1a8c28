use Rattle.std.proofs.Common.{◌≡◌, map, take, vec_items}
use Rattle.std.specs.List.{AllByRecursion}
use Rattle.twocars.specs.declared.compare.Round.{Round}
use Rattle.twocars.specs.Agreement.{SameMeaning, Alike}
use Rattle.twocars.proofs.compare.compare.Given as goal

-- the memories agree over the calls so far
abbrev pub invariant-loop-call : goal.invariant-loop-call
invariant-loop-call l =
    (map (λ (r : Round). r.call) (vec_items l.rounds) ≡ take l.call-index l.calls)
    × AllByRecursion Alike (vec_items l.rounds) × SameMeaning l.pair
