use Rattle.std.proofs.Common.{rules, arith, sym, ◌∙◌, ◌≡◌}
use Rattle.std.proofs.lemmas.List.{set-get_or}
use Rattle.lock.proofs.Lines.{filling_start, filling_turn, filled_short, filled_up}
use Rattle.lock.proofs.lock.Lock.line.Goals as goal

pub loop-count-init : goal.loop-count-init
loop-count-init g c = search (rules, filling_start)

pub loop-count-preserved : goal.loop-count-preserved
loop-count-preserved g c = search (rules, filling_turn)

pub returns-then-link-eq0 : goal.returns-then-link-eq0
returns-then-link-eq0 g c =
    let f = filled_short _ _ _ _ _ c.if-link-eq0.true c.loop-count.invariant in
    record { nodes = set-get_or c.loop-count.place c.loop-count.count 0 ∙ f.nodes; count = f.count }

pub returns : goal.returns
returns g c =
    let e : c.loop-count.count ≡ 8 = omega arith in
    let f = filled_up _ _ _ _ _ c.loop-count-test.false c.loop-count.invariant in
    record { nodes = f.nodes; count = sym e ∙ f.count }
