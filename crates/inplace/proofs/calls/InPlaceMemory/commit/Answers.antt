use Rattle.std.proofs.Common.{sym, refl, ap, ◌∙◌}
use lib.Seq.{map-set}
use Rattle.memory.specs.declared.log.Transaction.TheVariants.{Closed, Open}
use Rattle.inplace.specs.Undo.{tx_in}
use Rattle.inplace.proofs.Means.{both}
use Rattle.inplace.proofs.Opens.{commit_open}
use Rattle.inplace.proofs.Own.{own_at}
use Rattle.inplace.proofs.Restores.{restored_apart, kept_cells}
use Rattle.inplace.proofs.calls.InPlaceMemory.commit.Goals as goal

-- old values that are let go leave no cell twice
pub invariant_of-self-clause-apart : goal.invariant_of-self-clause-apart
invariant_of-self-clause-apart c =
    let e = c.open.new.self in
    let p = c.in_ok-place.place in
    let t = Open c.in_ok-open.field-0 in
    let own = own_at e p.card t p.within.0 c.in_ok-open.ensures.1.1 in
    restored_apart e.cells e.txs p.card t Closed own.0 own.1 refl e.apart

-- the values that the transaction wrote stand
pub returns-clause-after : goal.returns-clause-after
returns-clause-after c =
    let e = c.open.new.self in
    let p = c.in_ok-place.place in
    let t = Open c.in_ok-open.field-0 in
    let own = own_at e p.card t p.within.0 c.in_ok-open.ensures.1.1 in
    both _ _ (kept_cells e.cells e.txs p.card t own.0 own.1 e.apart) (map-set (tx_in e.cells) e.txs p.card Closed)
    ∙ sym (ap (λ o. o.after)
    (commit_open c.args.self.now e p c.args.card 0 c.in_ok-open.field-0 c.in_ok-place.ensures
    c.in_ok-open.ensures refl))
