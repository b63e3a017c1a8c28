-- What it is for two memories that get the same calls to agree.
use Rattle.std.specs.Prelude.{◌≡◌, List, map, vec_items}
use Rattle.std.specs.List.{AllByRecursion}
use Rattle.memory.specs.declared.call.MemoryCall.{MemoryCall}
use Rattle.deferred.specs.Deferral as deferred
use Rattle.inplace.specs.Standing as inplace
use Rattle.twocars.specs.declared.compare.Pair.{Pair}
use Rattle.twocars.specs.declared.compare.Round.{Round}
use Rattle.twocars.specs.declared.compare.Comparison.{Comparison}

-- both memories have the same meaning: the same standing values, and the same transactions
abbrev pub SameMeaning : Pair → Type 0
SameMeaning p = deferred.meaning_of p.deferred ≡ inplace.meaning_of p.inplace

-- both memories gave the call the same answer, and the same value stands in the counter after it
pub record Alike (r : Round) : Type 0 where
  pub answer : r.deferred.answer ≡ r.inplace.answer
  pub standing : r.deferred.standing ≡ r.inplace.standing

-- each call was made on both memories, in turn; every round is alike, and the memories have the same meaning
-- at the end
pub record Agrees (cs : List MemoryCall) (c : Comparison) : Type 0 where
  pub calls : map (λ (r : Round). r.call) (vec_items c.rounds) ≡ cs
  pub rounds : AllByRecursion Alike (vec_items c.rounds)
  pub meaning : SameMeaning c.pair
