-- Memory calls as values, and runs of them.
use Rattle.std.specs.Prelude.{ℕ, List, [], ◌∷◌, Ok, Err}
use Rattle.memory.specs.declared.call.MemoryCall.{MemoryCall}
use Rattle.memory.specs.declared.call.MemoryCall.TheVariants as call
use Rattle.memory.specs.Meaning.{Meaning, Outcome, cleared, looking, loading, storing}
use Rattle.memory.specs.Meaning.{beginning, reading, writing, committing, dropping}

-- a call that answers no number answers 0
abbrev pub as_zero : Outcome (Unit {0}) → Outcome ℕ
as_zero o = record { answer = elim o.answer [ Ok u ↦ Ok 0 | Err f ↦ Err f ]; after = o.after }

-- what a call answers and leaves
unfoldable pub performed : Meaning → MemoryCall → Outcome ℕ
performed m call.Clear = record { answer = Ok 0; after = cleared }
performed m (call.Look cell) = record { answer = looking m cell; after = m }
performed m (call.Load card cell) = loading m card cell
performed m (call.Store card cell value) = as_zero (storing m card cell value)
performed m (call.Begin card) = as_zero (beginning m card)
performed m (call.Read card cell) = reading m card cell
performed m (call.Write card cell value) = as_zero (writing m card cell value)
performed m (call.Commit card) = as_zero (committing m card)
performed m (call.Drop card) = as_zero (dropping m card)

-- the meaning after a list of calls, the first first
abbrev pub after_calls : Meaning → List MemoryCall → Meaning
after_calls m [] = m
after_calls m (c ∷ cs) = after_calls (performed m c).after cs
