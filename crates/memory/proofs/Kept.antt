-- A property of meanings that every call keeps, by what a call can do to a meaning.
use Rattle.std.proofs.Common.{◌≡◌, ℕ, ◌<◌, Bool, true, false, cond, ltb, List, [], ◌∷◌, set, Some, None, Option, refl}
use Rattle.std.proofs.lemmas.Bool.{ltb-true}
use Rattle.memory.specs.declared.write.Write.{Write}
use Rattle.memory.specs.declared.access.Access.{Access}
use Rattle.memory.specs.declared.access.Access.TheVariants.{Reads, Writes}
use Rattle.memory.specs.declared.fault.Refusal.TheVariants.{OutOfRange}
use Rattle.memory.specs.declared.call.MemoryCall.{MemoryCall}
use Rattle.memory.specs.declared.call.MemoryCall.TheVariants as call
use Rattle.memory.specs.Meaning.{Meaning, Tx, Outcome, none, live, doomed, tx_of, in_range, with_tx, with_cell}
use Rattle.memory.specs.Meaning.{served, refused}
use Rattle.memory.specs.Meaning.{cleared, guarded, landed, marking, recording, value_in}
use Rattle.memory.specs.Meaning.{load_at, store_at, begin_at, read_marking, read_open, read_at, write_open, write_at}
use Rattle.memory.specs.Meaning.{commit_at, drop_at}
use Rattle.memory.specs.Calls.{performed, after_calls}

-- what a call can do to a meaning, by name
pub record Kept (P : Meaning → Type 0) : Type 0 where
  -- clear
  pub at_clear : P cleared
  -- begin
  pub at_begin : (m : Meaning) (card : ℕ) → P m → P (with_tx m card (live [] []))
  -- drop, and a refusal that closes
  pub at_close : (m : Meaning) (card : ℕ) → P m → P (with_tx m card none)
  -- commit
  pub at_commit : (m : Meaning) (card : ℕ) (ws : List Write) → P m
      → P (record { cells = landed m.cells ws; txs = set m.txs card none })
  -- load, and the first half of store
  pub at_access : (m : Meaning) (a : Access) (card cell : ℕ) → P m → P (served a card cell none m)
  -- the second half of store
  pub at_store : (m : Meaning) (cell value : ℕ) → P m → P (with_cell m cell value)
  -- read of an own write
  pub at_own_read : (m : Meaning) (card cell : ℕ) (ms : List ℕ) (ws : List Write) → card < 8 → cell < 137
      → tx_of m card ≡ live ms ws → P m → P (served Reads card cell (live ms ws) m)
  -- read of a standing value
  pub at_read : (m : Meaning) (card cell : ℕ) (ms ns : List ℕ) (ws : List Write) → card < 8 → cell < 137
      → tx_of m card ≡ live ms ws → marking ms cell ≡ Some ns → P m → P (served Reads card cell (live ns ws) m)
  -- write
  pub at_write : (m : Meaning) (card cell value : ℕ) (ms : List ℕ) (ws vs : List Write) → card < 8 → cell < 137
      → tx_of m card ≡ live ms ws → recording ws cell value ≡ Some vs → P m
      → P (served Writes card cell (live ms vs) m)

-- the two bounds of a card and a cell that are in range
pub range_bounds : (card cell : ℕ) → in_range card cell ≡ true → (card < 8) × (cell < 137)
range_bounds card cell e = go (ltb card 8) refl e where
  go : (b : Bool) → ltb card 8 ≡ b → cond b (ltb cell 137) false ≡ true → (card < 8) × (cell < 137)
  go true q r = (ltb-true card 8 q, ltb-true cell 137 r)
  go false q r = cc

module _ (P : Meaning → Type 0) (K : Kept P) (m : Meaning) (p : P m) where
  -- a call that is refused for its range changes nothing
  on_guarded : {X : Type 0} (card cell : ℕ) (k : Tx → Outcome X)
      → (card < 8 → cell < 137 → (t : Tx) → tx_of m card ≡ t → P (k t).after) → P (guarded m card cell k).after
  on_guarded card cell k h = go (in_range card cell) refl where
    go : (b : Bool) → in_range card cell ≡ b
        → P (cond b (k (tx_of m card)) (refused OutOfRange card cell m)).after
    go true q = let r = range_bounds card cell q in h r.0 r.1 (tx_of m card) refl
    go false q = p

  -- a load, by the card's transaction
  on_load : (card cell : ℕ) (t : Tx) → P (load_at m card cell t).after
  on_load card cell none = K.at_access m Reads card cell p
  on_load card cell (live ms ws) = p
  on_load card cell doomed = p

  -- a store
  on_store : (card cell value : ℕ) (t : Tx) → P (store_at m card cell value t).after
  on_store card cell value none =
      K.at_store (served Writes card cell none m) cell value (K.at_access m Writes card cell p)
  on_store card cell value (live ms ws) = p
  on_store card cell value doomed = p

  -- a begin
  on_begin : (card : ℕ) (t : Tx) → P (begin_at m card t).after
  on_begin card none = K.at_begin m card p
  on_begin card (live ms ws) = p
  on_begin card doomed = p

  -- a read of a cell that is not written, by whether there is room for its mark
  on_mark : (card cell : ℕ) (ms : List ℕ) (ws : List Write) (o : Option (List ℕ)) → card < 8 → cell < 137
      → tx_of m card ≡ live ms ws → marking ms cell ≡ o → P (read_marking m card cell ws o).after
  on_mark card cell ms ws (Some ns) b h e q = K.at_read m card cell ms ns ws b h e q p
  on_mark card cell ms ws None b h e q = K.at_close m card p

  -- a read in an open transaction, by whether it has written the cell
  on_read_open : (card cell : ℕ) (ms : List ℕ) (ws : List Write) (o : Option ℕ) → card < 8 → cell < 137
      → tx_of m card ≡ live ms ws → P (read_open m card cell ms ws o).after
  on_read_open card cell ms ws (Some v) b h e = K.at_own_read m card cell ms ws b h e p
  on_read_open card cell ms ws None b h e = on_mark card cell ms ws (marking ms cell) b h e refl

  -- a read
  on_read : (card cell : ℕ) → card < 8 → cell < 137 → (t : Tx) → tx_of m card ≡ t
      → P (read_at m card cell t).after
  on_read card cell b h none e = p
  on_read card cell b h (live ms ws) e = on_read_open card cell ms ws (value_in ws cell) b h e
  on_read card cell b h doomed e = K.at_close m card p

  -- a write in an open transaction, by whether there is room for it
  on_write_open : (card cell value : ℕ) (ms : List ℕ) (ws : List Write) (o : Option (List Write)) → card < 8
      → cell < 137 → tx_of m card ≡ live ms ws → recording ws cell value ≡ o → P (write_open m card cell ms o).after
  on_write_open card cell value ms ws (Some vs) b h e q = K.at_write m card cell value ms ws vs b h e q p
  on_write_open card cell value ms ws None b h e q = K.at_close m card p

  -- a write
  on_write : (card cell value : ℕ) → card < 8 → cell < 137 → (t : Tx) → tx_of m card ≡ t
      → P (write_at m card cell value t).after
  on_write card cell value b h none e = p
  on_write card cell value b h (live ms ws) e =
      on_write_open card cell value ms ws (recording ws cell value) b h e refl
  on_write card cell value b h doomed e = K.at_close m card p

  -- a commit
  on_commit : (card : ℕ) (t : Tx) → P (commit_at m card t).after
  on_commit card none = p
  on_commit card (live ms ws) = K.at_commit m card ws p
  on_commit card doomed = K.at_close m card p

  -- a drop
  on_drop : (card : ℕ) (t : Tx) → P (drop_at m card t).after
  on_drop card none = p
  on_drop card (live ms ws) = K.at_close m card p
  on_drop card doomed = K.at_close m card p

  -- what is kept so, every call keeps
  pub kept_call : (c : MemoryCall) → P (performed m c).after
  unfolding performed
  kept_call call.Clear = K.at_clear
  kept_call (call.Look cell) = p
  kept_call (call.Load card cell) = on_guarded card cell (load_at m card cell) (λ b h t e. on_load card cell t)
  kept_call (call.Store card cell value) =
      on_guarded card cell (store_at m card cell value) (λ b h t e. on_store card cell value t)
  kept_call (call.Begin card) = on_guarded card 0 (begin_at m card) (λ b h t e. on_begin card t)
  kept_call (call.Read card cell) = on_guarded card cell (read_at m card cell) (on_read card cell)
  kept_call (call.Write card cell value) =
      on_guarded card cell (write_at m card cell value) (on_write card cell value)
  kept_call (call.Commit card) = on_guarded card 0 (commit_at m card) (λ b h t e. on_commit card t)
  kept_call (call.Drop card) = on_guarded card 0 (drop_at m card) (λ b h t e. on_drop card t)

-- and every list of calls
pub kept_calls : (P : Meaning → Type 0) → Kept P → (m : Meaning) → P m → (cs : List MemoryCall) → P (after_calls m cs)
kept_calls P K m p [] = p
kept_calls P K m p (c ∷ cs) = kept_calls P K (performed m c).after (kept_call P K m p c) cs
