-- The definitions at work: one list of calls from a cleared memory, each with the answer that it gets.
use Rattle.std.specs.Prelude.{◌≡◌, ℕ, List, [], ◌∷◌, map, Ok, Err, Result}
use Rattle.memory.specs.declared.fault.MemoryFault.{MemoryFault}
use Rattle.memory.specs.declared.call.MemoryCall.{MemoryCall}
use Rattle.memory.specs.declared.call.MemoryCall.TheVariants.{Look, Load, Store, Begin, Read, Write, Commit, Drop}
use Rattle.memory.specs.Numbers.{number}
use Rattle.memory.specs.Meaning.{Meaning, cleared}
use Rattle.memory.specs.Calls.{performed}

-- an answer with a refusal's number in place of the refusal
abbrev pub numbered : Result ℕ MemoryFault → Result ℕ ℕ
numbered (Ok value) = Ok value
numbered (Err fault) = Err (number fault.refusal)

-- the answers of a list of calls, made in turn
abbrev pub answers : Meaning → List MemoryCall → List (Result ℕ ℕ)
answers m [] = []
answers m (c ∷ cs) = numbered (performed m c).answer ∷ answers (performed m c).after cs

-- a call, and the answer that it gets
pub record Example : Type 0 where
  pub call : MemoryCall
  pub answer : Result ℕ ℕ

infixl 20 ◌gets◌
abbrev pub ◌gets◌ : MemoryCall → Result ℕ ℕ → Example
c gets a = record { call = c; answer = a }

abbrev pub examples : List Example
examples =
    -- a cell or a card that no memory has
    (Look 137 gets Err 21) ∷ (Load 8 0 gets Err 21) ∷ (Begin 8 gets Err 21)
    -- no transaction, or one there already
    ∷ (Commit 0 gets Err 23) ∷ (Begin 0 gets Ok 0) ∷ (Begin 0 gets Err 22)
    -- card 0 reads cell 0, card 1 stores there: card 0 is doomed; a load wants no transaction, doomed or not
    ∷ (Read 0 0 gets Ok 0) ∷ (Store 1 0 7 gets Ok 0) ∷ (Load 0 0 gets Err 22)
    ∷ (Commit 0 gets Err 24) ∷ (Commit 0 gets Err 23)
    -- a doomed transaction may be dropped
    ∷ (Begin 0 gets Ok 0) ∷ (Read 0 0 gets Ok 7) ∷ (Store 1 0 8 gets Ok 0)
    ∷ (Drop 0 gets Ok 0) ∷ (Drop 0 gets Err 23)
    -- four cells are written, one of them again; a fifth closes the transaction, and nothing of it stands
    ∷ (Begin 2 gets Ok 0) ∷ (Write 2 1 5 gets Ok 0) ∷ (Write 2 2 5 gets Ok 0) ∷ (Write 2 3 5 gets Ok 0)
    ∷ (Write 2 4 5 gets Ok 0) ∷ (Write 2 3 9 gets Ok 0) ∷ (Write 2 5 5 gets Err 25)
    ∷ (Commit 2 gets Err 23) ∷ (Look 3 gets Ok 0)
    -- the read of an own write answers it and marks nothing: four cells more are marked, one of them again, and
    -- a fifth closes the transaction
    ∷ (Begin 3 gets Ok 0) ∷ (Write 3 10 6 gets Ok 0) ∷ (Read 3 10 gets Ok 6)
    ∷ (Read 3 11 gets Ok 0) ∷ (Read 3 12 gets Ok 0) ∷ (Read 3 13 gets Ok 0) ∷ (Read 3 14 gets Ok 0)
    ∷ (Read 3 11 gets Ok 0) ∷ (Read 3 10 gets Ok 6) ∷ (Read 3 15 gets Err 25) ∷ (Read 3 10 gets Err 23)
    -- a load dooms who has written the cell
    ∷ (Begin 4 gets Ok 0) ∷ (Write 4 20 3 gets Ok 0) ∷ (Load 5 20 gets Ok 0) ∷ (Commit 4 gets Err 24)
    -- and not who has only marked it; a store to a cell that nobody touched dooms nobody
    ∷ (Begin 4 gets Ok 0) ∷ (Read 4 20 gets Ok 0) ∷ (Load 5 20 gets Ok 0) ∷ (Store 5 21 1 gets Ok 0)
    -- a value that is written stands after the commit, and not before
    ∷ (Write 4 136 9 gets Ok 0) ∷ (Look 136 gets Ok 0) ∷ (Commit 4 gets Ok 0) ∷ (Look 136 gets Ok 9)
    ∷ []

-- each call gets its answer
abbrev pub ExamplesHold : Type 0
ExamplesHold = answers cleared (map (λ e. e.call) examples) ≡ map (λ e. e.answer) examples
