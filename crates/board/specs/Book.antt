-- The book: a second record of every run, kept by the rules of the memory, the lock and the door alone.
-- It takes nothing from a board or its memory. It is fed the same calls, with their arguments alone, and keeps a
-- meaning, stages and remembered requests of its own; and beside them the line, the finished adds and what was asked.
use Rattle.std.specs.Prelude.{◌≡◌, ℕ, Bool, true, false, cond, List, [], ◌∷◌, ◌++◌, Some, None, Ok, Err, Option}
use Rattle.std.specs.Prelude.{Result, ◌==◌, nat_lt}
use Rattle.memory.specs.declared.call.MemoryCall.{MemoryCall}
use Rattle.memory.specs.Meaning.{Meaning}
use Rattle.memory.specs.Calls.{performed}
use Rattle.stages.specs.declared.stage.Mode.{Mode}
use Rattle.stages.specs.declared.stage.Mode.TheVariants.{Read, Write}
use Rattle.stages.specs.declared.stage.WriterEntry.TheVariants.{W1, W2, W3, W4, W5, W6}
use Rattle.stages.specs.declared.stage.ReaderEntry.TheVariants.{R1, R2, R3, R4, R5, R6, R7, R8, R9, R10, R11, R12}
use Rattle.stages.specs.declared.stage.ReaderEntry.TheVariants.{R13, R14}
use Rattle.stages.specs.declared.stage.Addition.TheVariants.{A1, A2}
use Rattle.stages.specs.declared.stage.WriterExit.TheVariants.{X1, X2, X3, X4, X5}
use Rattle.stages.specs.declared.stage.ReaderExit.TheVariants.{Y1, Y2, Y3, Y4, Y5, Y6, Y7, Y8}
use Rattle.stages.specs.declared.stage.Stage.{Stage}
use Rattle.stages.specs.declared.stage.Stage.TheVariants.{Idle, WriterEnters, ReaderEnters, Inside, Adds}
use Rattle.stages.specs.declared.stage.Stage.TheVariants.{WriterLeaves, ReaderLeaves}
use Rattle.stages.specs.Rows.{call_of}
use Rattle.lock.specs.Lock.{Size, LockState, stage_of}
use Rattle.door.specs.declared.request.Request.{Request}
use Rattle.door.specs.declared.request.Request.TheVariants.{Enter, Leave, Add, Show}
use Rattle.door.specs.declared.fault.DoorFault.{DoorFault}
use Rattle.door.specs.declared.call.Call.{Call}
use Rattle.door.specs.declared.call.Call.TheVariants as call
use Rattle.door.specs.Door.{DoorState, new_door, called, understood, memo_of, served}

-- a place in line, or an entry that was asked for: the card, its node and its mode
pub record Place : Type 0 where
  pub card : ℕ
  pub node : ℕ
  pub mode : Mode

-- an add, asked for or finished: the card, the counter and the amount
pub record Sum : Type 0 where
  pub card : ℕ
  pub counter : ℕ
  pub amount : ℕ

-- what the book keeps
pub record Book : Type 0 where
  -- a meaning, stages and remembered requests of its own
  pub board : DoorState
  -- the places in line, in the order of their joining commits
  pub line : List Place
  -- the finished adds, in order
  pub finished : List Sum
  -- every joining commit so far, in order
  pub joinings : List Place
  -- the accepted enter requests and the accepted add requests so far, in order
  pub entries : List Place
  pub asked : List Sum

-- a board newly set up, an empty line and no finished adds
abbrev pub new_book : Book
new_book = record { board = new_door; line = []; finished = []; joinings = []; entries = []; asked = [] }

-- what an accepted call of a stage's row does to the line and the counts
pub data Deed : Type 0 where
  plain : Deed
  joins : ℕ → Mode → Deed
  parts : Deed
  finishes : ℕ → ℕ → Deed

-- the deed of each row: the commits of W5 and R7 join, those of X4 and Y7 take out, the store of A2 finishes an add
abbrev pub deed : Stage → Deed
deed Idle = plain
deed (WriterEnters n W1) = plain
deed (WriterEnters n W2) = plain
deed (WriterEnters n (W3 p)) = plain
deed (WriterEnters n (W4 p)) = plain
deed (WriterEnters n (W5 p)) = joins n Write
deed (WriterEnters n W6) = plain
deed (ReaderEnters n R1) = plain
deed (ReaderEnters n R2) = plain
deed (ReaderEnters n (R3 p)) = plain
deed (ReaderEnters n (R4 p)) = plain
deed (ReaderEnters n (R5 p)) = plain
deed (ReaderEnters n (R6 p)) = plain
deed (ReaderEnters n (R7 p s)) = joins n Read
deed (ReaderEnters n R8) = plain
deed (ReaderEnters n R9) = plain
deed (ReaderEnters n R10) = plain
deed (ReaderEnters n R11) = plain
deed (ReaderEnters n (R12 t)) = plain
deed (ReaderEnters n (R13 t)) = plain
deed (ReaderEnters n (R14 t)) = plain
deed (Inside n m) = plain
deed (Adds n (A1 k a)) = plain
deed (Adds n (A2 k a v)) = finishes k a
deed (WriterLeaves n X1) = plain
deed (WriterLeaves n X2) = plain
deed (WriterLeaves n (X3 t)) = plain
deed (WriterLeaves n (X4 t)) = parts
deed (WriterLeaves n (X5 t)) = plain
deed (ReaderLeaves n Y1) = plain
deed (ReaderLeaves n Y2) = plain
deed (ReaderLeaves n (Y3 p)) = plain
deed (ReaderLeaves n (Y4 p t)) = plain
deed (ReaderLeaves n (Y5 p t)) = plain
deed (ReaderLeaves n (Y6 p t)) = plain
deed (ReaderLeaves n (Y7 p t s)) = parts
deed (ReaderLeaves n (Y8 t)) = plain

-- the line without the place of a card; a card has one place at most, and it has the card's node
abbrev pub without : ℕ → List Place → List Place
without c [] = []
without c (p ∷ l) = cond (p.card == c) l (p ∷ without c l)

-- the joinings after a deed of card c
abbrev pub joined : ℕ → Deed → List Place → List Place
joined c plain l = l
joined c (joins n m) l = l ++ record { card = c; node = n; mode = m } ∷ []
joined c parts l = l
joined c (finishes k a) l = l

-- the line after it
abbrev pub lined : ℕ → Deed → List Place → List Place
lined c plain l = l
lined c (joins n m) l = l ++ record { card = c; node = n; mode = m } ∷ []
lined c parts l = without c l
lined c (finishes k a) l = l

-- the finished adds after it, with the amount that was asked for
abbrev pub summed : ℕ → Deed → List Sum → List Sum
summed c plain l = l
summed c (joins n m) l = l
summed c parts l = l
summed c (finishes k a) l = l ++ record { card = c; counter = k; amount = a } ∷ []

-- whether a call was accepted
abbrev pub accepted : {X : Type 0} → {E : Type 0} → Result X E → Bool
accepted (Ok x) = true
accepted (Err e) = false

-- the deed of a row: none unless the memory accepts its call
abbrev pub deed_by : Meaning → Stage → Option MemoryCall → Deed
deed_by m g None = plain
deed_by m g (Some k) = cond (accepted (performed m k).answer) (deed g) plain

-- the deed of a step of card c, which has to be there
abbrev pub step_deed : Size → LockState → ℕ → Deed
step_deed z s c =
    cond (nat_lt c z.cards) (deed_by s.meaning (stage_of s c) (call_of z.nodes c (stage_of s c))) plain

-- a request of its form, where it is neither refused nor a resend
abbrev pub new_request : Size → DoorState → ℕ → ℕ → Result Request DoorFault → Option Request
new_request z s c t (Ok w) =
    cond ((memo_of s c).toggle == t) None (cond (accepted (served z s.lock c w).0) (Some w) None)
new_request z s c t (Err e) = None

-- the request that five numbers make, where it is neither refused nor a resend
abbrev pub taken_request : Size → DoorState → ℕ → ℕ → ℕ → ℕ → ℕ → Option Request
taken_request z s c t k a b = cond (nat_lt c z.cards) (new_request z s c t (understood t k a b)) None

-- the entries asked for after a request of card c
abbrev pub noted_entry : ℕ → Option Request → List Place → List Place
noted_entry c None l = l
noted_entry c (Some (Enter m n)) l = l ++ record { card = c; node = n; mode = m } ∷ []
noted_entry c (Some Leave) l = l
noted_entry c (Some (Add k a)) l = l
noted_entry c (Some (Show k)) l = l

-- the adds asked for after it
abbrev pub noted_add : ℕ → Option Request → List Sum → List Sum
noted_add c None l = l
noted_add c (Some (Enter m n)) l = l
noted_add c (Some Leave) l = l
noted_add c (Some (Add k a)) l = l ++ record { card = c; counter = k; amount = a } ∷ []
noted_add c (Some (Show k)) l = l

-- the book after a call
abbrev pub after : Size → Book → Call → Book
after z b (call.Request c t k x y) =
    let w = taken_request z b.board c t k x y in record {
      board = (called z b.board (call.Request c t k x y)).1;
      line = b.line;
      finished = b.finished;
      joinings = b.joinings;
      entries = noted_entry c w b.entries;
      asked = noted_add c w b.asked;
    }
after z b (call.Step c) =
    let d = step_deed z b.board.lock c in record {
      board = (called z b.board (call.Step c)).1;
      line = lined c d b.line;
      finished = summed c d b.finished;
      joinings = joined c d b.joinings;
      entries = b.entries;
      asked = b.asked;
    }
after z b (call.Abort c) = record {
  board = (called z b.board (call.Abort c)).1;
  line = b.line;
  finished = b.finished;
  joinings = b.joinings;
  entries = b.entries;
  asked = b.asked;
}
after z b (call.Reuse c n v) = record {
  board = (called z b.board (call.Reuse c n v)).1;
  line = b.line;
  finished = b.finished;
  joinings = b.joinings;
  entries = b.entries;
  asked = b.asked;
}

-- the book after a list of calls, the first first
abbrev pub fed_from : Size → Book → List Call → Book
fed_from z b [] = b
fed_from z b (c ∷ cs) = fed_from z (after z b c) cs

-- the book of a board newly set up, after a list of calls
unfoldable pub fed : Size → List Call → Book
fed z cs = fed_from z new_book cs

-- a board in state s follows the calls cs: it keeps what the book that was fed them keeps
abbrev pub Follows : Size → List Call → DoorState → Type 0
Follows z cs s = (fed z cs).board ≡ s
