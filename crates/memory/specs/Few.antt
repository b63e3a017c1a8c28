-- At most four records: what they are, and what one more makes of them.
use Rattle.std.specs.Prelude.{List, [], ◌∷◌, ◌++◌, length, take, cond, nat_lt, Some, None, Option, Ok, Err, Result}
use Rattle.memory.specs.declared.fault.Refusal.{Refusal}
use Rattle.memory.specs.declared.fault.Refusal.TheVariants.{Full}
use Rattle.memory.specs.declared.few.Few.{Few}

-- the records, in the order in which they came
abbrev pub items_of : {X : Type 0} → Few X → List X
items_of f = take f.count f.items

-- the records with one more at the end; None where it would be a fifth
abbrev pub room : {X : Type 0} → List X → X → Option (List X)
room xs x = cond (nat_lt (length xs) 4) (Some (xs ++ x ∷ [])) None

-- what a call answers and leaves: the new records, or where they are too many, the refusal and the old ones
abbrev pub fitted : {X : Type 0} → List X → Option (List X) → Result (Unit {0}) Refusal × List X
fitted xs (Some ys) = (Ok tt, ys)
fitted xs None = (Err Full, xs)
