use Rattle.std.proofs.Common.{arith}
use Rattle.schedule.proofs.Sized.{fails_at, stops_1, other_than_3, stops_2, stops_3, stops_4, opened}
use Rattle.schedule.proofs.sections.take_sizes.Goals as goal

pub returns-in_err-opening : goal.returns-in_err-opening
returns-in_err-opening c =
    let f = c.in_err-opening.ensures in
    fails_at _ _ _ 1 c.from_residual.ensures.1 f.0 (omega arith) (omega arith) (stops_1 _ (λ after. f.1 3 after))

pub returns-then-opening-ne-SIZES : goal.returns-then-opening-ne-SIZES
returns-then-opening-ne-SIZES c =
    (omega arith, omega arith, other_than_3 _ _ _ c.in_ok-opening.ensures c.if-opening-ne-SIZES.true)

pub returns-in_err-cards : goal.returns-in_err-cards
returns-in_err-cards c =
    let first = opened c.in_ok-opening.ensures c.if-opening-ne-SIZES.false in
    let f = c.in_err-cards.ensures in
    fails_at _ _ _ 2 c.from_residual-in_err-cards.ensures.1 f.0 (omega arith) (omega arith) (stops_2 _ _ first f.1)

pub returns-in_err-nodes : goal.returns-in_err-nodes
returns-in_err-nodes c =
    let first = opened c.in_ok-opening.ensures c.if-opening-ne-SIZES.false in
    let f = c.in_err-nodes.ensures in
    fails_at _ _ _ 3 c.from_residual-in_err-nodes.ensures.1 f.0 (omega arith) (omega arith)
    (stops_3 _ _ first _ _ c.in_ok-cards.ensures f.1)

pub returns-in_err-counters : goal.returns-in_err-counters
returns-in_err-counters c =
    let first = opened c.in_ok-opening.ensures c.if-opening-ne-SIZES.false in
    let f = c.in_err-counters.ensures in
    fails_at _ _ _ 4 c.from_residual-in_err-counters.ensures.1 f.0 (omega arith) (omega arith)
    (stops_4 _ _ first _ _ c.in_ok-cards.ensures _ _ c.in_ok-nodes.ensures f.1)
