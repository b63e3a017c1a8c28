-- The sizes of a board are within the ranges: their type says so. And a board that was set up is new.
use Rattle.std.proofs.Common.{◌≡◌, ℕ, Ok, Err, Result, refl, ap, ◌∙◌}
use Rattle.lock.specs.declared.fault.SizeFault.{SizeFault}
use Rattle.lock.specs.Lock.{Size, sized}
use Rattle.door.specs.declared.fault.Unfit.{Unfit}
use Rattle.door.specs.Door.{DoorState, new_door}
use Rattle.door.specs.Doors.{set_up}
use Rattle.lock.specs.declared.sizes.Sizes.{Sizes}
use Rattle.lock.specs.Locks.{size_of}
use Rattle.board.proofs.Ranges.{Within}

-- the sizes of the type are those of a board that can be set up
pub within_of : (z : Sizes) → Within (size_of z)
within_of z = record { cards = z.few_cards.1; nodes = z.few_nodes.1; counters = z.few_counters.1 }

-- what set-up makes of a judgement of sizes
abbrev pub made_of : {X : Type 0} → X → Result Size SizeFault → Result (Size × DoorState) (Unfit X)
made_of memory (Ok z) = Ok (z, new_door)
made_of memory (Err e) = Err (record { fault = e; memory = memory })

-- a board that was set up is new
fresh_by : {X : Type 0} (memory : X) (j : Result Size SizeFault) (r : Result (Size × DoorState) (Unfit X)) (z : Size)
    (s : DoorState) → r ≡ Ok (z, s) → r ≡ made_of memory j → s ≡ new_door
fresh_by memory (Ok y) r z s p q =
    let e : ◌≡◌ {A = Size × DoorState} (z, s) (y, new_door) = cc in ap (λ (w : Size × DoorState). w.1) e
fresh_by memory (Err e) r z s p q = cc

-- set-up as a judgement of sizes
pub made_is : {X : Type 0} (memory : X) (j : Result Size SizeFault)
    → ◌≡◌ {A = Result (Size × DoorState) (Unfit X)}
    (elim j [ Ok z ↦ Ok (z, new_door) | Err e ↦ Err (record { fault = e; memory = memory }) ]) (made_of memory j)
made_is memory (Ok z) = refl
made_is memory (Err e) = refl

-- by what set-up has to give
pub fresh : {X : Type 0} (memory : X) (c n k : ℕ) (r : Result (Size × DoorState) (Unfit X)) (z : Size) (s : DoorState)
    → r ≡ Ok (z, s) → r ≡ set_up memory c n k → s ≡ new_door
fresh memory c n k r z s p q = fresh_by memory (sized c n k) r z s p (q ∙ made_is memory (sized c n k))
