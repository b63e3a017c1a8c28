-- What a transaction has read is still true while it is open: a law over all runs of a memory.
use Rattle.std.specs.Prelude.{◌≡◌, ℕ, false, ◌≢◌, List, [], ◌∷◌, Ok}
use Rattle.memory.specs.declared.write.Write.{Write}
use Rattle.memory.specs.declared.call.MemoryCall.{MemoryCall}
use Rattle.memory.specs.declared.call.MemoryCall.TheVariants as call
use Rattle.memory.specs.Meaning.{live, standing, tx_of, cleared}
use Rattle.memory.specs.Calls.{performed, after_calls}
use Rattle.memory.specs.Isolation.{has_written}

-- a call that is no clear, and no begin, commit or drop of the card
abbrev pub Within : ℕ → MemoryCall → Type 0
Within c call.Clear = ⊥
Within c (call.Look x) = Unit {0}
Within c (call.Load d x) = Unit {0}
Within c (call.Store d x v) = Unit {0}
Within c (call.Begin d) = d ≢ c
Within c (call.Read d x) = Unit {0}
Within c (call.Write d x v) = Unit {0}
Within c (call.Commit d) = d ≢ c
Within c (call.Drop d) = d ≢ c

-- a list of such calls
abbrev pub AllWithin : ℕ → List MemoryCall → Type 0
AllWithin c [] = Unit {0}
AllWithin c (k ∷ ks) = Within c k × AllWithin c ks

-- In every run, card c reads a cell that it has not written, and is answered v. Whatever is called then, by any card,
-- before its transaction ends: as long as that is open, the cell stands at v.
abbrev pub ReadsLast : Type 0
ReadsLast = (before later : List MemoryCall) (c x v : ℕ)
    → has_written (tx_of (after_calls cleared before) c) x ≡ false
    → (performed (after_calls cleared before) (call.Read c x)).answer ≡ Ok v
    → AllWithin c later
    → let m = after_calls (performed (after_calls cleared before) (call.Read c x)).after later in
    (ms : List ℕ) (ws : List Write) → tx_of m c ≡ live ms ws → standing m x ≡ v
