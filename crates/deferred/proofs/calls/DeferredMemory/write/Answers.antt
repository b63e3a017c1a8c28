use Rattle.std.proofs.Common.{◌≡◌, ◌<◌, length, Err, sym, ap, ◌∙◌, rules}
use lib.Seq.{map-set}
use Rattle.std.proofs.lemmas.List.{get_or-map}
use Rattle.memory.specs.declared.fault.Refusal.{Refusal}
use Rattle.memory.specs.declared.access.Access.TheVariants.{Writes}
use Rattle.memory.specs.Logs.{tx_kept}
use Rattle.memory.specs.Meaning.{none}
use Rattle.deferred.specs.Deferral.{meaning_of}
use Rattle.deferred.specs.Own.{own_write}
use Rattle.deferred.proofs.Own.{finished, writing_by}
use Rattle.deferred.proofs.calls.DeferredMemory.write.Goals as goal

-- a refusal leaves the transaction closed
pub returns-in_err-map_err-clause-after : goal.returns-in_err-map_err-clause-after
returns-in_err-map_err-clause-after c =
    let d = c.args.self.now in
    let m = meaning_of d in
    let card = c.args.card in
    let cell = c.args.cell in
    let h : card < length d.txs = search rules in
    let own = get_or-map tx_kept d.txs card c.index-self-card.result none h in
    let q : (f : Refusal) × (c.write.result ≡ Err f) = search rules in
    let e = writing_by m c.in_ok-place.place card cell c.args.value (tx_kept c.write.new.tx) c.write.result
    c.in_ok-place.ensures (c.write.ensures ∙ ap (λ t. own_write t c.in_ok-place.place.cell c.args.value) (sym own)) in
    ap (λ ts. record { cells = d.cells; txs = ts }) (map-set tx_kept d.txs card c.write.new.tx)
    ∙ sym (ap (λ o. o.after) (e ∙ ap (finished Writes m card cell (tx_kept c.write.new.tx)) q.1))
