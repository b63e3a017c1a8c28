use Rattle.std.proofs.Common.{◌≡◌, ◌<◌, length, Err, sym, ap, ◌∙◌, rules}
use lib.Seq.{map-set}
use Rattle.std.proofs.lemmas.List.{get_or-map}
use Rattle.memory.specs.declared.fault.Refusal.{Refusal}
use Rattle.memory.specs.declared.access.Access.TheVariants.{Reads}
use Rattle.memory.specs.Logs.{tx_kept}
use Rattle.memory.specs.Meaning.{none, standing}
use Rattle.deferred.specs.Deferral.{meaning_of}
use Rattle.deferred.specs.Own.{own_read}
use Rattle.deferred.proofs.Own.{finished, reading_by}
use Rattle.deferred.proofs.calls.DeferredMemory.read.Goals as goal

-- a refusal leaves the transaction closed
pub returns-in_err-value-clause-after : goal.returns-in_err-value-clause-after
returns-in_err-value-clause-after c =
    let d = c.args.self.now in
    let m = meaning_of d in
    let card = c.args.card in
    let cell = c.args.cell in
    let h : card < length d.txs = search rules in
    let own = get_or-map tx_kept d.txs card c.index-self-card.result none h in
    let q : (f : Refusal) × (c.read.result ≡ Err f) = search rules in
    let e = reading_by m c.in_ok-place.place card cell (tx_kept c.read.new.tx) c.read.result c.in_ok-place.ensures
    (c.read.ensures ∙ ap (λ t. own_read t c.in_ok-place.place.cell (standing m cell)) (sym own)) in
    ap (λ ts. record { cells = d.cells; txs = ts }) (map-set tx_kept d.txs card c.read.new.tx)
    ∙ sym (ap (λ o. o.after) (e ∙ ap (finished Reads m card cell (tx_kept c.read.new.tx)) q.1))
