-- The promise stands on every board that size lines ask for. Assumes nothing.
use Rattle.std.proofs.Common.{◌≡◌, ℕ, ◌≤◌, Bool, true, false, cond, leb, [], Ok, Err, sym, refl, ap, arith, leb-true}
use Rattle.lock.specs.declared.fault.SizeFault.TheVariants.{OutOfRange}
use Rattle.lock.specs.Lock.{Size, within, sized}
use Rattle.board.proofs.Ranges.{Within}
use Rattle.board.proofs.History.{throughout, recounted_new}
use Rattle.runner.specs.Calls.{calls_of}
use Rattle.runner.specs.Prints.{PromiseStands, RecountsStand}

-- both of two tests hold
both : (a b : Bool) → cond a b false ≡ true → (a ≡ true) × (b ≡ true)
both true b e = (refl, e)
both false b e = cc

-- sizes that are not refused passed the test, and are as they were asked for
taken : (b : Bool) (y z : Size) → cond b (Ok y) (Err OutOfRange) ≡ Ok z → (b ≡ true) × (y ≡ z)
taken true y z e = (refl, cc)
taken false y z e = cc

-- a size that is within its range is at most its most
at_most : (most x : ℕ) → within most x ≡ true → x ≤ most
at_most most x e = leb-true x most (both (leb 1 x) (leb x most) e).1

within_ranges : (c n k : ℕ) (z : Size) → sized c n k ≡ Ok z → Within z
within_ranges c n k z e =
    let t = taken (cond (within 8 c) (cond (within 32 n) (within 8 k) false) false)
    (record { cards = c; nodes = n; counters = k }) z e in
    let p = both (within 8 c) (cond (within 32 n) (within 8 k) false) t.0 in
    let q = both (within 32 n) (within 8 k) p.1 in
    let cards : z.cards ≡ c = sym (ap (λ (w : Size). w.cards) t.1) in
    let nodes : z.nodes ≡ n = sym (ap (λ (w : Size). w.nodes) t.1) in
    let counters : z.counters ≡ k = sym (ap (λ (w : Size). w.counters) t.1) in
    record {
      cards = omega (arith, at_most 8 c p.0);
      nodes = omega (arith, at_most 32 n q.0);
      counters = omega (arith, at_most 8 k q.1);
    }

-- before the first event and after each
pub promise_stands : PromiseStands
promise_stands s z es is = throughout z (within_ranges s.cards s.nodes s.counters z is) [] (calls_of es)

-- and what each event's answer says and leaves
pub recounts_stand : RecountsStand
recounts_stand s z es is = recounted_new z (within_ranges s.cards s.nodes s.counters z is) (calls_of es)
