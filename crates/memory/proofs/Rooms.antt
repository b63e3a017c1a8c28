-- What a call left that may be refused for want of room.
use Rattle.std.proofs.Common.{◌≡◌, ◌<◌, Bool, true, false, cond, ltb, List, [], ◌∷◌, ◌++◌, length, Some, None}
use Rattle.std.proofs.Common.{Option, Ok, Err, Result, refl, sym, ap, ◌∙◌}
use Rattle.std.proofs.lemmas.Bool.{ltb-true}
use Rattle.memory.specs.declared.fault.Refusal.{Refusal}
use Rattle.memory.specs.declared.fault.Refusal.TheVariants.{Full}
use Rattle.memory.specs.Few.{room, fitted}

-- the new records
pub fitted_ok : {X : Type 0} (xs ys : List X) (o : Option (List X)) (r : Result (Unit {0}) Refusal) (u : Unit {0})
    → (r, ys) ≡ fitted xs o → r ≡ Ok u → o ≡ Some ys
fitted_ok xs ys (Some zs) r u e q = let z : zs ≡ ys = ap (λ p. p.1) (sym e) in ap Some z
fitted_ok xs ys None r u e q =
    let z : Err Full ≡ Ok u = ap (λ p. p.0) (sym e) ∙ q in cc

-- or a refusal, since there was no room
pub fitted_err : {X : Type 0} (xs ys : List X) (o : Option (List X)) (r : Result (Unit {0}) Refusal) (f : Refusal)
    → (r, ys) ≡ fitted xs o → r ≡ Err f → (o ≡ None) × (f ≡ Full)
fitted_err xs ys (Some zs) r f e q =
    let z : Ok tt ≡ Err f = ap (λ p. p.0) (sym e) ∙ q in cc
fitted_err xs ys None r f e q = let z : Err Full ≡ Err f = ap (λ p. p.0) (sym e) ∙ q in (refl, cc)

-- where there was room for one more, the new records are the old ones with it
pub room_some : {X : Type 0} (xs ys : List X) (y : X) → room xs y ≡ Some ys → (length xs < 4) × (ys ≡ xs ++ y ∷ [])
room_some xs ys y = go (ltb (length xs) 4) refl where
  go : (b : Bool) → ltb (length xs) 4 ≡ b → cond b (Some (xs ++ y ∷ [])) None ≡ Some ys
      → (length xs < 4) × (ys ≡ xs ++ y ∷ [])
  go true q e = (ltb-true _ _ q, cc)
  go false q e = cc
