-- What a call says and leaves, beyond the promise that stands after it: its answer tells the truth, nothing is refused
-- without cause, and a free node keeps its cells.
use Rattle.std.specs.Prelude.{◌≡◌, ℕ, ◌<◌, List, [], ◌∷◌, ◌++◌, Result}
use Rattle.stages.specs.declared.answer.Answer.{Answer}
use Rattle.stages.specs.declared.layout.Field.{Field}
use Rattle.stages.specs.Layout.{node_cell}
use Rattle.lock.specs.Lock.{Size}
use Rattle.door.specs.declared.fault.DoorFault.{DoorFault}
use Rattle.door.specs.declared.call.Call.{Call}
use Rattle.door.specs.declared.call.Call.TheVariants as call
use Rattle.door.specs.Door.{DoorState, called, ran}
use Rattle.board.specs.Book.{Book, fed, Follows}
use Rattle.board.specs.Promise.{Free, at}
use Rattle.board.specs.Answers.{Tells, Grants}
use Rattle.board.specs.History.{StandsAfter, Carried, cells_in}

-- a call that is no reuse of node n
abbrev pub Spares : Call → ℕ → Type 0
Spares (call.Request c t k x y) n = Unit {0}
Spares (call.Step c) n = Unit {0}
Spares (call.Abort c) n = Unit {0}
Spares (call.Reuse c m v) n = m ≡ n → ⊥

-- no call but a reuse of that very node changes a cell of a node that is free before and after it
abbrev pub LeavesFree : Size → Call → List ℕ → List ℕ → Book → Book → Type 0
LeavesFree z k old new b d = (n : ℕ) → n < z.nodes → Spares k n → Free b n → Free d n
    → (f : Field) → at new (node_cell n f) ≡ at old (node_cell n f)

-- a call k took a board from state s to state t and answered r; it had followed the calls cs
pub record Recounted (z : Size) (k : Call) (cs : List Call) (s t : DoorState) (r : Result Answer DoorFault)
    : Type 0 where
  pub spared : LeavesFree z k (cells_in s) (cells_in t) (fed z cs) (fed z (cs ++ k ∷ []))
  pub tells : Tells z k s t (fed z cs) (fed z (cs ++ k ∷ [])) r
  pub grants : Grants z k s (fed z cs) r

-- the same for every history that the board may have followed
abbrev pub Recounts : Size → Call → DoorState → DoorState → Result Answer DoorFault → Type 0
Recounts z k s t r = (cs : List Call) → Follows z cs s → Recounted z k cs s t r

-- The calls ks, refused ones included, were made in turn on a board in state s that had followed the calls cs. Of
-- every state that the board was in, before the first of them and after each, and of every one of them:
pub record RecountedThroughout (z : Size) (cs ks : List Call) (s : DoorState) : Type 0 where
  -- the board has followed the calls so far, and the promise stands in its memory
  pub stands : (before rest : List Call) → ks ≡ before ++ rest → StandsAfter z (cs ++ before) (ran z s before)
  -- the call keeps it so
  pub carried : (before : List Call) (k : Call) (rest : List Call) → ks ≡ before ++ k ∷ rest
      → Carried z k (cs ++ before) (ran z s before)
      (called z (ran z s before) k).1 (called z (ran z s before) k).0
  -- its answer tells the truth, it is not refused without cause, and free nodes keep their cells
  pub recounted : (before : List Call) (k : Call) (rest : List Call) → ks ≡ before ++ k ∷ rest
      → Recounted z k (cs ++ before) (ran z s before)
      (called z (ran z s before) k).1 (called z (ran z s before) k).0

-- the same of a list of calls from state s, for every history that the board may have followed
abbrev pub RecountsAll : Size → List Call → DoorState → Type 0
RecountsAll z ks s = (cs : List Call) → Follows z cs s → RecountedThroughout z cs ks s
