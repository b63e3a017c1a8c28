-- The card's own record.
use Rattle.std.proofs.Common.{◌≡◌, ℕ, ◌<◌, List, length, get_or, sym, ◌∙◌, arith}
use Rattle.std.proofs.lemmas.List.{get_or_default}
use Rattle.inplace.specs.declared.inplace.InPlace.{InPlace}
use Rattle.memory.specs.declared.log.Transaction.{Transaction}
use Rattle.memory.specs.declared.log.Transaction.TheVariants.{Closed}

-- it is the same whatever is taken for a place past the end
pub own_is : (ts : List Transaction) (i : ℕ) (t : Transaction) → i < length ts → get_or ts i Closed ≡ t
    → t ≡ get_or ts i t
own_is ts i t h e = sym (get_or_default ts i t Closed h ∙ e)

-- it has a place, and is there whatever is taken for a place past the end
pub own_at : (e : InPlace) (card : ℕ) (t : Transaction) → card < 8 → get_or e.txs card Closed ≡ t
    → (card < length e.txs) × (t ≡ get_or e.txs card t)
own_at e card t lt is =
    let n = e.eight in
    let h : card < length e.txs = omega arith in
    (h, own_is e.txs card t h is)
