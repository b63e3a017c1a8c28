use Rattle.std.proofs.Common.{◌≡◌, ◌+◌, ◌<◌, length, set, sym, ap, ◌∙◌, inl, inr, arith}
use lib.Seq.{set-get_or}
use Rattle.memory.specs.Meaning.{landed}
use Rattle.memory.specs.declared.log.Transaction.TheVariants.{Doomed}
use Rattle.inplace.specs.Undo.{undo_of}
use Rattle.inplace.proofs.Dooms.{done_none, done_is, done_doom, done_keep, done_all}
use Rattle.inplace.proofs.undo.doom.Goals as goal
use Rattle.inplace.proofs.undo.doom.Goals.{then-i-place+then-conflicts, else-i-place}
use Rattle.inplace.proofs.undo.doom.Goals.{else-i-place-via-then-i-place+else-conflicts, else-i-place-via-else-i-place}

pub loop-i-init : goal.loop-i-init
loop-i-init c =
    done_none c.args.how c.args.place.card c.args.place.cell c.args.cells.now c.args.txs.now c.requires

pub loop-i-preserved : goal.loop-i-preserved
loop-i-preserved c =
    let a = c.args in
    let cells = a.cells.now in
    let txs = a.txs.now in
    let i = c.loop-i.i in
    let cs = c.loop-i.cells in
    let ts = c.loop-i.txs in
    let t = c.index-txs-i.result in
    let D = c.loop-i.invariant in
    let l : length ts ≡ length txs = c.loop-i.auto.txs in
    let h : i < length ts = omega arith in
    let same = set-get_or ts i t in
    let is = done_is a.how a.place.card a.place.cell cells txs (i + 1) in
    let keep = done_keep a.how a.place.card a.place.cell cells txs i cs ts D h l t in
    elim c.if-i-place.branch [
      | then-i-place+then-conflicts w ↦
          is (landed cs (undo_of t)) c.if-i-place.cells (set ts i Doomed) c.if-i-place.txs
          (w.cells-is
          ∙ (w.land.ensures ∙ ap (landed cs) (w.writes.ensures ∙ ap undo_of (sym c.index-txs-i.is))))
          w.txs-is
          (done_doom a.how a.place.card a.place.cell cells txs i cs ts D h l t w.if-i-place.true c.index-txs-i.is
          (sym w.if-conflicts.ensures))
      | else-i-place w ↦ elim w.else-i-place.branch [
        | else-i-place-via-then-i-place+else-conflicts v ↦
            is cs c.if-i-place.cells ts c.if-i-place.txs w.cells-is (w.txs-is ∙ (v.txs-is ∙ same))
            (keep (inr (v.if-i-place.true, sym v.if-conflicts.ensures)))
        | else-i-place-via-else-i-place v ↦
            is cs c.if-i-place.cells ts c.if-i-place.txs w.cells-is (w.txs-is ∙ (v.txs-is ∙ same))
            (keep (inl v.if-i-place.false))
      ]
    ]

pub returns : goal.returns
returns c =
    let a = c.args in
    let D = c.loop-i.invariant in
    record {
      apart = D.apart;
      own = D.own;
      after =
          done_all a.how a.place.card a.place.cell a.cells.now a.txs.now c.loop-i.i c.loop-i.cells
          c.loop-i.txs D c.loop-i-test.false;
    }
