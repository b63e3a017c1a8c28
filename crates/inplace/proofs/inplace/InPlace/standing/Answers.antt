use Rattle.std.proofs.Common.{◌+◌, ◌<◌, ◌≤◌, length, get_or, drop, sym, ◌∙◌, arith, rules}
use Rattle.std.proofs.lemmas.List.{at_drop_more, at_drop_all}
use Rattle.memory.specs.Meaning.{value_in}
use Rattle.memory.proofs.Lasting.{landed_other}
use Rattle.inplace.specs.Undo.{undo_of, undoes}
use Rattle.inplace.proofs.Undoes.{value_lacks, value_append, value_skip, landed_at}
use Rattle.inplace.proofs.inplace.InPlace.standing.Goals as goal

pub loop-tx-preserved : goal.loop-tx-preserved
loop-tx-preserved c =
    let cell = c.args.place.cell in
    let ts = c.args.self.now.txs in
    let i = c.loop-tx.tx-index in
    let t = c.tx-item.result in
    let n = c.args.self.now.eight in
    let h : i < length ts = omega arith in
    let step = at_drop_more (λ l. value_in (undoes l) cell) ts i t h in
    c.loop-tx.invariant
    ∙ (step ∙ value_skip (undo_of (get_or ts i t)) (undoes (drop (i + 1) ts)) cell (sym c.in_default.ensures))

pub returns-in-Some : goal.returns-in-Some
returns-in-Some c =
    let cell = c.args.place.cell in
    let e = c.args.self.now in
    let ts = e.txs in
    let i = c.loop-tx.tx-index in
    let t = c.tx-item.result in
    let old = c.in-Some.old in
    let n = e.eight in
    let h : i < length ts = omega arith in
    let step = at_drop_more (λ l. value_in (undoes l) cell) ts i t h in
    let here =
    value_append (undo_of (get_or ts i t)) (undoes (drop (i + 1) ts)) cell old (sym c.in-Some.ensures) in
    let k : cell < length e.cells = search rules in
    sym (landed_at e.cells (undoes ts) cell old e.apart k (c.loop-tx.invariant ∙ (step ∙ here)))

pub returns : goal.returns
returns c =
    let cell = c.args.place.cell in
    let e = c.args.self.now in
    let n = e.eight in
    let h : length e.txs ≤ c.loop-tx.tx-index = omega arith in
    let none =
    c.loop-tx.invariant ∙ at_drop_all (λ l. value_in (undoes l) cell) e.txs c.loop-tx.tx-index h in
    sym (landed_other e.cells (undoes e.txs) cell (value_lacks (undoes e.txs) cell none))
