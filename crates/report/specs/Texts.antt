-- The bytes of every line that a run prints. Assumes nothing.
use Rattle.std.specs.Prelude.{ℕ, List, [], ◌∷◌, ◌++◌, Ok, Err, codes, decimal, Result}
use Rattle.memory.specs.Numbers as memory
use Rattle.stages.specs.declared.answer.Answer.{Answer}
use Rattle.stages.specs.declared.answer.Answer.TheVariants.{Done, Step, Wait, Lost, In, Out, Added, Count}
use Rattle.lock.specs.declared.fault.LockFault.TheVariants.{NoCard, NotAllowed, NoPlace, NotFree, Memory}
use Rattle.lock.specs.declared.fault.SizeFault.{SizeFault}
use Rattle.lock.specs.declared.fault.SizeFault.TheVariants.{OutOfRange}
use Rattle.door.specs.declared.fault.DoorFault.{DoorFault}
use Rattle.door.specs.declared.fault.DoorFault.TheVariants.{Malformed, Differs, Lock}
use Rattle.textline.specs.Numbers.{spelled}
-- `bad`, the line and the number of a fault of form
pub use Rattle.textline.specs.Faults.{bad_line}

-- the words and numbers of every answer; 8 has the memory's number and the cell after it
abbrev pub words : Result Answer DoorFault → List ℕ
words (Ok Done) = codes "ok"
words (Ok Step) = codes "step"
words (Ok Wait) = codes "wait"
words (Ok Lost) = codes "lost"
words (Ok In) = codes "in"
words (Ok Out) = codes "out"
words (Ok (Added count)) = codes "added " ++ decimal count
words (Ok (Count count)) = codes "count " ++ decimal count
words (Err (Lock NoCard)) = codes "refused 2"
words (Err Malformed) = codes "refused 3"
words (Err Differs) = codes "refused 4"
words (Err (Lock NotAllowed)) = codes "refused 5"
words (Err (Lock NoPlace)) = codes "refused 6"
words (Err (Lock NotFree)) = codes "refused 7"
words (Err (Lock (Memory f))) =
    codes "refused 8 " ++ (decimal (memory.number f.refusal) ++ (codes " " ++ decimal f.cell))

-- the number of an event and its answer, one space between them
abbrev pub answer_line : ℕ → Result Answer DoorFault → List ℕ
answer_line k result = decimal k ++ (codes " " ++ (words result ++ (10 ∷ [])))

-- sizes out of range get 1
abbrev pub sizes_line : SizeFault → List ℕ
sizes_line OutOfRange = codes "refused 1\n"

-- `queue` and the nodes in line, one space before each
abbrev pub queue_line : List ℕ → List ℕ
queue_line nodes = codes "queue" ++ (spelled nodes ++ (10 ∷ []))
