-- What set-up of a board gives, and calls on a new one.
use Rattle.std.specs.Prelude.{ℕ, List, Ok, Err, Result}
use Rattle.memory.specs.Meaning.{Meaning}
use Rattle.lock.specs.Lock.{Size, sized}
use Rattle.door.specs.declared.call.Call.{Call}
use Rattle.door.specs.declared.fault.Unfit.{Unfit}
use Rattle.door.specs.Door.{DoorState, new_door, ran}
use Rattle.board.specs.declared.board.Board.{Board}
use Rattle.board.specs.History.{board_state, board_size}

-- the sizes and the state of the board, or the refusal with the memory
abbrev pub given_by : {X : Type 0} → (X → Meaning) → Result (Board X) (Unfit X) → Result (Size × DoorState) (Unfit X)
given_by meaning (Ok b) = Ok (board_size b, board_state meaning b)
given_by meaning (Err u) = Err u

-- what calls on a new board have to give: the state after them, or the memory back as it was
abbrev pub played : {X : Type 0} → X → ℕ → ℕ → ℕ → List Call → Result (Size × DoorState) (Unfit X)
played memory c n k cs =
    elim (sized c n k) [
      | Ok z ↦ Ok (z, ran z new_door cs)
      | Err e ↦ Err (record { fault = e; memory = memory })
    ]
