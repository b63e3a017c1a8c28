-- What the public calls of a board promise over histories.
-- Set-up gives a board that follows the empty list of calls; each call gives one that follows the list with that
-- call at its end. Nothing else makes or changes a board, so every board follows the calls that were made on it.
use Rattle.std.specs.Prelude.{◌≡◌, ℕ, List, [], ◌∷◌, ◌++◌, map, length, Result}
use Rattle.memory.specs.Meaning.{Meaning}
use Rattle.stages.specs.declared.answer.Answer.{Answer}
use Rattle.lock.specs.Lock.{Size}
use Rattle.lock.specs.Lines.{placed}
use Rattle.door.specs.declared.fault.DoorFault.{DoorFault}
use Rattle.door.specs.declared.call.Call.{Call}
use Rattle.door.specs.Door.{DoorState, called}
use Rattle.door.specs.Doors.{door_state, door_size}
use Rattle.board.specs.declared.board.Board.{Board}
use Rattle.board.specs.Book.{Place, fed, Follows}
use Rattle.board.specs.Promise.{Stands, Untouched, Never8}

-- a board's state
abbrev pub board_state : {X : Type 0} → (X → Meaning) → Board X → DoorState
board_state meaning b = door_state meaning b.door

-- a board's sizes
abbrev pub board_size : {X : Type 0} → Board X → Size
board_size b = door_size b.door

-- the standing cells of a board's memory
abbrev pub cells_in : DoorState → List ℕ
cells_in s = s.lock.meaning.cells

-- a board in state s has followed the calls, and the whole promise stands in its memory
pub record StandsAfter (z : Size) (cs : List Call) (s : DoorState) : Type 0 where
  pub follows : Follows z cs s
  pub stands : Stands z (cells_in s) (fed z cs)

-- a call k took a board from state s to state t and answered r; it had followed the calls cs
pub record Carried (z : Size) (k : Call) (cs : List Call) (s t : DoorState) (r : Result Answer DoorFault) : Type 0 where
  pub after : StandsAfter z (cs ++ k ∷ []) t
  pub untouched : Untouched z k (cells_in s) (cells_in t) (fed z cs) (fed z (cs ++ k ∷ []))
  pub never_8 : Never8 r

-- the same for every history that the board may have followed
abbrev pub Carries : Size → Call → DoorState → DoorState → Result Answer DoorFault → Type 0
Carries z k s t r = (cs : List Call) → Follows z cs s → Carried z k cs s t r

-- The calls ks, refused ones included, were made in turn on a board that had followed the calls cs. Of every state s
-- that the board was in before the first of them or after one of them, and of every one of them:
pub record CarriedThroughout (z : Size) (cs ks : List Call) : Type 0 where
  -- the promise stands in the board's memory
  pub stands : (before rest : List Call) → ks ≡ before ++ rest → (s : DoorState) → Follows z (cs ++ before) s
      → Stands z (cells_in s) (fed z (cs ++ before))
  -- the call changes no cell of a node that is free before and after it, and is not refused by the memory
  pub carried : (before : List Call) (k : Call) (rest : List Call) → ks ≡ before ++ k ∷ rest → (s t : DoorState)
      → (r : Result Answer DoorFault) → Follows z (cs ++ before) s → (r, t) ≡ called z s k
      → Carried z k (cs ++ before) s t r

-- a list of calls took a board from state s to state t, for every history that the board may have followed
abbrev pub CarriesAll : Size → List Call → DoorState → DoorState → Type 0
CarriesAll z ks s t = (cs : List Call) → Follows z cs s → StandsAfter z (cs ++ ks) t × CarriedThroughout z cs ks

-- the nodes of the book's line
abbrev pub nodes_of : List Place → List ℕ
nodes_of l = map (λ p. p.node) l

-- the place and the count that the line call gives are the book's line, for every history
abbrev pub LinesUp : Size → DoorState → List ℕ → ℕ → Type 0
LinesUp z s place count = (cs : List Call) → Follows z cs s
    → (place ≡ placed (nodes_of (fed z cs).line)) × (count ≡ length (fed z cs).line)
