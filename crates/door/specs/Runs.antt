-- Runs to hold a board against, with their answers and some standing cells after them.
use Rattle.std.specs.Prelude.{◌≡◌, ℕ, List, [], ◌∷◌, ◌++◌, map, replicate, Ok, Err, Result}
use Rattle.memory.specs.Meaning.{standing}
use Rattle.stages.specs.declared.answer.Answer.{Answer}
use Rattle.stages.specs.declared.answer.Answer.TheVariants as answer
use Rattle.lock.specs.declared.values.NodeValues.{NodeValues}
use Rattle.lock.specs.Faults.{size_number}
use Rattle.lock.specs.Lock.{sized}
use Rattle.door.specs.declared.fault.DoorFault.{DoorFault}
use Rattle.door.specs.declared.call.Call.{Call}
use Rattle.door.specs.declared.call.Call.TheVariants as call
use Rattle.door.specs.Door.{new_door, answers, ran}

-- what is seen of a run: the answers and the cells that are looked at after it, or the number of a refused set-up
abbrev pub Seen : Type 0
Seen = Result (List (Result Answer DoorFault) × List ℕ) ℕ

-- a board newly set up, calls in turn, cells to look at then, and what is to be seen
pub record Run : Type 0 where
  pub cards : ℕ
  pub nodes : ℕ
  pub counters : ℕ
  pub calls : List Call
  pub cells : List ℕ
  pub seen : Seen

-- what is seen of a run by the definitions
abbrev pub played : Run → Seen
played r =
    elim (sized r.cards r.nodes r.counters) [
      | Ok z ↦ Ok (answers z new_door r.calls, map (standing (ran z new_door r.calls).lock.meaning) r.cells)
      | Err e ↦ Err (size_number e)
    ]

-- a run on a board of two cards, four nodes and one counter
abbrev pub small : List Call → List ℕ → List (Result Answer DoorFault) → List ℕ → Run
small cs xs rs vs =
    record { cards = 2; nodes = 4; counters = 1; calls = cs; cells = xs; seen = Ok (rs, vs) }

-- a request of card c with toggle t: to enter to read on node n
abbrev pub enters_to_read : ℕ → ℕ → ℕ → Call
enters_to_read c t n = call.Request c t 1 n 0

-- to enter to write on node n
abbrev pub enters_to_write : ℕ → ℕ → ℕ → Call
enters_to_write c t n = call.Request c t 2 n 0

-- to leave
abbrev pub leaves : ℕ → ℕ → Call
leaves c t = call.Request c t 3 0 0

-- to add an amount to counter 0
abbrev pub adds : ℕ → ℕ → ℕ → Call
adds c t a = call.Request c t 4 0 a

-- n steps of a card
abbrev pub steps : ℕ → ℕ → List Call
steps c n = replicate n (call.Step c)

-- the answer to an accepted request
abbrev pub done : Result Answer DoorFault
done = Ok answer.Done

-- one answer
abbrev pub is : Answer → List (Result Answer DoorFault)
is a = Ok a ∷ []

-- n steps are taken, and then the next one answers
abbrev pub then_after : ℕ → Answer → List (Result Answer DoorFault)
then_after n a = replicate n (Ok answer.Step) ++ is a

-- card 0 is inside to write on node 0, and card 1 waits behind it on node 1
abbrev pub one_behind : List Call
one_behind = enters_to_write 0 0 0 ∷ steps 0 4 ++ (enters_to_write 1 0 1 ∷ steps 1 6)

-- the answers to that: card 0 is in at its 4th step, and card 1 waits at its 6th
abbrev pub one_behind_answers : List (Result Answer DoorFault)
one_behind_answers = done ∷ then_after 3 answer.In ++ (done ∷ then_after 5 answer.Wait)

-- four times 65,535
abbrev pub all_ones : NodeValues
all_ones = record { next = 65535; prev = 65535; state = 65535; spin = 65535 }

-- the runs, each with what is to be seen of it
abbrev pub runs : List Run
runs =
    -- the largest board
    record { cards = 8; nodes = 32; counters = 8; calls = []; cells = []; seen = Ok ([], []) } ∷
    -- a node too many
    record { cards = 8; nodes = 33; counters = 8; calls = []; cells = []; seen = Err 1 } ∷
    -- a lone writer
    small (enters_to_write 0 0 0 ∷ steps 0 4) [] (done ∷ then_after 3 answer.In) [] ∷
    -- a lone reader
    small (enters_to_read 0 0 0 ∷ steps 0 8) [] (done ∷ then_after 7 answer.In) [] ∷
    -- a writer behind a writer inside: the tail is its link, and so is the other's next
    small one_behind (0 ∷ 1 ∷ []) one_behind_answers (2 ∷ 2 ∷ []) ∷
    -- the first then leaves, and the other is in at its next step
    small (one_behind ++ (leaves 0 1 ∷ steps 0 5 ++ steps 1 1)) []
    (one_behind_answers ++ (done ∷ then_after 4 answer.Out ++ is answer.In)) [] ∷
    -- a reader behind an active reader
    small (enters_to_read 0 0 0 ∷ steps 0 8 ++ (enters_to_read 1 0 1 ∷ steps 1 11)) []
    (done ∷ then_after 7 answer.In ++ (done ∷ then_after 10 answer.In)) [] ∷
    -- card 0 has written the tail when card 1 reads it
    small (enters_to_write 0 0 0 ∷ steps 0 3 ++ (enters_to_write 1 0 1 ∷ steps 1 2 ++ steps 0 1)) []
    (done ∷ replicate 3 (Ok answer.Step) ++ (done ∷ then_after 2 answer.Lost)) [] ∷
    -- a full counter stays full
    small (enters_to_write 0 0 0 ∷ steps 0 4 ++ (adds 0 1 65535 ∷ steps 0 2 ++ (adds 0 0 1 ∷ steps 0 2))) (17 ∷ [])
    (done ∷ then_after 3 answer.In ++ (done ∷ then_after 1 (answer.Added 65535)
    ++ (done ∷ then_after 1 (answer.Added 65535)))) (65535 ∷ []) ∷
    -- a reused node that is entered to write keeps its prev: cells 13 to 16 are next, prev, state and spin
    small (call.Reuse 0 3 all_ones ∷ enters_to_write 0 0 3 ∷ []) (13 ∷ 14 ∷ 15 ∷ 16 ∷ [])
    (done ∷ done ∷ []) (0 ∷ 65535 ∷ 2 ∷ 1 ∷ []) ∷
    []

-- every run is seen as it should be
abbrev pub RunsHold : Type 0
RunsHold = map played runs ≡ map (λ r. r.seen) runs
