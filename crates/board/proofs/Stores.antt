-- Stores in turn by a card outside of a transaction: all are accepted, and all stand.
use Rattle.std.proofs.Common.{◌≡◌, ℕ, ◌<◌, false, List, [], ◌∷◌, length, Ok, sym, refl, ap, ◌∙◌, subst, arith}
use Rattle.memory.specs.declared.call.MemoryCall.TheVariants as memory-call
use Rattle.memory.specs.Meaning.{Meaning, Tx, standing, tx_of}
use Rattle.memory.specs.Calls.{performed}
use Rattle.stages.specs.declared.stage.Stage.{Stage}
use Rattle.lock.specs.Lock.{stores}
use Rattle.board.proofs.Held.{in_tx, Isolated}
use Rattle.board.proofs.Model.{Out, seen}
use Rattle.board.proofs.Bridge.{Recorded, bridge}
use Rattle.board.proofs.Isolation.{outside, store_accepted, store_isolated}
use Rattle.board.proofs.Frames.{stored, AllWithin}

-- the stores go to cells that there are
abbrev pub AllBelow : List (ℕ × ℕ) → Type 0
AllBelow [] = Unit {0}
AllBelow (w ∷ ws) = (w.0 < 137) × AllBelow ws

-- such as the cells of a node
pub within_below : (n : ℕ) (ws : List (ℕ × ℕ)) → n < 32 → AllWithin n ws → AllBelow ws
within_below n [] lt h = tt
within_below n (w ∷ ws) lt h = let k = h.0.1 in (omega arith, within_below n ws lt h.1)

-- what stores in turn leave: all are accepted, their values stand, the lengths are kept, and transactions are isolated
pub record Stored (c : ℕ) (S : ℕ → Stage) (ws : List (ℕ × ℕ)) (m n : Meaning) : Type 0 where
  pub done : stores c ws m ≡ (Ok tt, n)
  pub cells : length n.cells ≡ 137
  pub txs : length n.txs ≡ 8
  pub stands : standing n ≡ stored ws (standing m)
  pub isolated : Isolated (standing n) (tx_of n) S

-- stores of a card outside of a transaction leave that
pub stores_done : (c : ℕ) (S : ℕ → Stage) → c < 8 → in_tx (S c) ≡ false → (ws : List (ℕ × ℕ)) → AllBelow ws
    → (m : Meaning) → length m.cells ≡ 137 → length m.txs ≡ 8 → Isolated (standing m) (tx_of m) S
    → (n : Meaning) × Stored c S ws m n
stores_done c S lt o [] b m cl tl I = (m, record { done = refl; cells = cl; txs = tl; stands = refl; isolated = I })
stores_done c S lt o (w ∷ ws) b m cl tl I =
    let k = memory-call.Store c w.0 w.1 in
    let none_is = outside (standing m) (S c) (tx_of m c) o (I.agrees c) in
    let B = bridge m cl tl c lt k (refl, b.0) (subst Recorded (sym none_is) tt) in
    let E = store_accepted (standing m) (tx_of m) S I c w.0 w.1 o in
    let D = (performed m k).after in
    let J : Isolated (standing D) (tx_of D) S =
    subst (λ (f : ℕ → ℕ). Isolated f (tx_of D) S) (sym B.cell)
    (subst (λ (t : ℕ → Tx). Isolated (seen c k (standing m) (tx_of m)).cell t S) (sym B.tx)
    (store_isolated (standing m) (tx_of m) S I c w.0 w.1 o)) in
    let R = stores_done c S lt o ws b.1 D B.cells B.txs J in
    let a : (performed m k).answer ≡ Ok 0 = B.answer ∙ ap (λ (o : Out). o.answer) E in (
      R.0,
      record {
        done = rw (a, stores) R.1.done;
        cells = R.1.cells;
        txs = R.1.txs;
        stands = R.1.stands ∙ ap (stored ws) (B.cell ∙ ap (λ (o : Out). o.cell) E);
        isolated = R.1.isolated;
      },
    )
