-- A memory call seen through the standing values f and the transactions t, for a card and a cell in range. The rules
-- are those of the meaning; only lists have become functions.
use Rattle.std.proofs.Common.{ℕ, List, [], ◌∷◌, ◌++◌, Some, None, Ok, Err, Option, Result}
use Rattle.memory.specs.declared.access.Access.TheVariants.{Reads, Writes}
use Rattle.memory.specs.declared.write.Write.{Write}
use Rattle.memory.specs.declared.fault.MemoryFault.{MemoryFault}
use Rattle.memory.specs.declared.fault.Refusal.{Refusal}
use Rattle.memory.specs.declared.fault.Refusal.TheVariants.{Already, NoTransaction, Doomed, Full}
use Rattle.memory.specs.declared.call.MemoryCall.{MemoryCall}
use Rattle.memory.specs.declared.call.MemoryCall.TheVariants as call
use Rattle.memory.specs.Meaning.{Tx, none, live, doomed, value_in, marking, recording, struck}
use Rattle.board.specs.Book.{Deed, plain, joins, parts, finishes}
use Rattle.board.proofs.Cells.{at}
use Rattle.board.proofs.Chain.{without}

-- the standing values and the transactions after a call, and its answer
pub record Out : Type 0 where
  pub cell : ℕ → ℕ
  pub tx : ℕ → Tx
  pub answer : Result ℕ MemoryFault

-- an outcome by its parts
abbrev pub out : (ℕ → ℕ) → (ℕ → Tx) → Result ℕ MemoryFault → Out
out f t r = record { cell = f; tx = t; answer = r }

-- a refusal
abbrev pub no : Refusal → ℕ → ℕ → Result ℕ MemoryFault
no why c a = Err (record { refusal = why; card = c; cell = a })

-- all recorded values made standing
abbrev pub lands : List Write → (ℕ → ℕ) → ℕ → ℕ
lands [] f = f
lands (w ∷ ws) f = lands ws (at f w.cell w.value)

-- a load
abbrev pub load_seen : ℕ → ℕ → (ℕ → ℕ) → (ℕ → Tx) → Tx → Out
load_seen c a f t none = out f (at (λ d. struck Reads a (t d)) c none) (Ok (f a))
load_seen c a f t (live r w) = out f t (no Already c a)
load_seen c a f t doomed = out f t (no Already c a)

-- a store
abbrev pub store_seen : ℕ → ℕ → ℕ → (ℕ → ℕ) → (ℕ → Tx) → Tx → Out
store_seen c a v f t none = out (at f a v) (at (λ d. struck Writes a (t d)) c none) (Ok 0)
store_seen c a v f t (live r w) = out f t (no Already c a)
store_seen c a v f t doomed = out f t (no Already c a)

-- a begin
abbrev pub begin_seen : ℕ → (ℕ → ℕ) → (ℕ → Tx) → Tx → Out
begin_seen c f t none = out f (at t c (live [] [])) (Ok 0)
begin_seen c f t (live r w) = out f t (no Already c 0)
begin_seen c f t doomed = out f t (no Already c 0)

-- a read that marks
abbrev pub mark_seen : ℕ → ℕ → (ℕ → ℕ) → (ℕ → Tx) → List Write → Option (List ℕ) → Out
mark_seen c a f t w (Some r) = out f (at (λ d. struck Reads a (t d)) c (live r w)) (Ok (f a))
mark_seen c a f t w None = out f (at t c none) (no Full c a)

-- a read in an open transaction
abbrev pub value_seen : ℕ → ℕ → (ℕ → ℕ) → (ℕ → Tx) → List ℕ → List Write → Option ℕ → Out
value_seen c a f t r w (Some v) = out f (at (λ d. struck Reads a (t d)) c (live r w)) (Ok v)
value_seen c a f t r w None = mark_seen c a f t w (marking r a)

-- a read
abbrev pub read_seen : ℕ → ℕ → (ℕ → ℕ) → (ℕ → Tx) → Tx → Out
read_seen c a f t none = out f t (no NoTransaction c a)
read_seen c a f t (live r w) = value_seen c a f t r w (value_in w a)
read_seen c a f t doomed = out f (at t c none) (no Doomed c a)

-- a write in an open transaction
abbrev pub record_seen : ℕ → ℕ → (ℕ → ℕ) → (ℕ → Tx) → List ℕ → Option (List Write) → Out
record_seen c a f t r (Some w) = out f (at (λ d. struck Writes a (t d)) c (live r w)) (Ok 0)
record_seen c a f t r None = out f (at t c none) (no Full c a)

-- a write
abbrev pub write_seen : ℕ → ℕ → ℕ → (ℕ → ℕ) → (ℕ → Tx) → Tx → Out
write_seen c a v f t none = out f t (no NoTransaction c a)
write_seen c a v f t (live r w) = record_seen c a f t r (recording w a v)
write_seen c a v f t doomed = out f (at t c none) (no Doomed c a)

-- a commit
abbrev pub commit_seen : ℕ → (ℕ → ℕ) → (ℕ → Tx) → Tx → Out
commit_seen c f t none = out f t (no NoTransaction c 0)
commit_seen c f t (live r w) = out (lands w f) (at t c none) (Ok 0)
commit_seen c f t doomed = out f (at t c none) (no Doomed c 0)

-- a drop
abbrev pub drop_seen : ℕ → (ℕ → ℕ) → (ℕ → Tx) → Tx → Out
drop_seen c f t none = out f t (no NoTransaction c 0)
drop_seen c f t (live r w) = out f (at t c none) (Ok 0)
drop_seen c f t doomed = out f (at t c none) (Ok 0)

-- each call, by the transaction x of its card
abbrev pub seen_on : MemoryCall → (ℕ → ℕ) → (ℕ → Tx) → Tx → Out
seen_on call.Clear f t x = out (λ a. 0) (λ d. none) (Ok 0)
seen_on (call.Look a) f t x = out f t (Ok (f a))
seen_on (call.Load c a) f t x = load_seen c a f t x
seen_on (call.Store c a v) f t x = store_seen c a v f t x
seen_on (call.Begin c) f t x = begin_seen c f t x
seen_on (call.Read c a) f t x = read_seen c a f t x
seen_on (call.Write c a v) f t x = write_seen c a v f t x
seen_on (call.Commit c) f t x = commit_seen c f t x
seen_on (call.Drop c) f t x = drop_seen c f t x

-- a call of card c
abbrev pub seen : ℕ → MemoryCall → (ℕ → ℕ) → (ℕ → Tx) → Out
seen c k f t = seen_on k f t (t c)

-- the cards in line after a deed of card c
abbrev pub lined_cards : ℕ → Deed → List ℕ → List ℕ
lined_cards c plain l = l
lined_cards c (joins n m) l = l ++ (c ∷ [])
lined_cards c parts l = without c l
lined_cards c (finishes k a) l = l
