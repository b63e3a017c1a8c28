use Rattle.std.proofs.Common.{◌<◌, map, length, sym, ap, ◌∙◌, inl, inr, arith}
use lib.Seq.{map-set, set-get_or}
use Rattle.std.proofs.lemmas.List.{get_or-map, length-map}
use Rattle.std.proofs.lemmas.Bool.{cond-true, cond-false}
use Rattle.memory.specs.declared.log.Transaction.TheVariants.{Doomed}
use Rattle.memory.specs.Meaning.{none, doomed, struck, conflicts}
use Rattle.memory.specs.Logs.{tx_kept}
use Rattle.memory.proofs.Woven.{others_set, others_kept}
use Rattle.deferred.proofs.doom.doom.Goals as goal
use Rattle.deferred.proofs.doom.doom.Goals.{then-i-place+then-conflicts, else-i-place}
use Rattle.deferred.proofs.doom.doom.Goals.{else-i-place-via-then-i-place+else-conflicts, else-i-place-via-else-i-place}

-- a turn of the loop does the place i
pub loop-i-preserved : goal.loop-i-preserved
loop-i-preserved c =
    let ts = map tx_kept c.args.txs.now in
    let f = struck c.args.how c.args.place.cell in
    let i = c.loop-i.i in
    let h : i < length ts = rw (length-map c.args.txs.now tx_kept) c.loop-i-test.true in
    let h' : i < length c.loop-i.txs = omega arith in
    let e = get_or-map tx_kept c.loop-i.txs i c.index-txs-i.result none h' in
    let back = set-get_or c.loop-i.txs i c.index-txs-i.result in
    let k = conflicts c.args.how c.args.place.cell in
    let card = c.args.place.card in
    let kept = others_kept f card none ts (map tx_kept c.loop-i.txs) i c.loop-i.invariant h in
    elim c.if-i-place.branch [
      | then-i-place+then-conflicts w ↦
          ap (map tx_kept) w.txs-is
          ∙ (map-set tx_kept c.loop-i.txs i Doomed
          ∙ others_set f card none ts (map tx_kept c.loop-i.txs) i c.loop-i.invariant h doomed w.if-i-place.true
          (sym (cond-true _ _ _ (ap k e ∙ sym w.if-conflicts.ensures))))
      | else-i-place w ↦ ap (map tx_kept) w.txs-is ∙ elim w.else-i-place.branch [
        | else-i-place-via-then-i-place+else-conflicts v ↦
            ap (map tx_kept) (v.txs-is ∙ back)
            ∙ kept (inr (v.if-i-place.true, cond-false _ _ _ (ap k e ∙ sym v.if-conflicts.ensures)))
        | else-i-place-via-else-i-place v ↦ ap (map tx_kept) (v.txs-is ∙ back) ∙ kept (inl v.if-i-place.false)
      ]
    ]
