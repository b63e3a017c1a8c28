use Rattle.std.proofs.Common.{[], sym, refl, ◌∙◌, append-nil, arith}
use Rattle.runner.specs.Prints.Prints.{refused}
use Rattle.runner.proofs.Playing.{fails, fails_sizes, bad_sizes, bad_count, sized_up, not_sized}
use Rattle.runner.proofs.Playing.{playing_none, playing_more, stops_event, stops_end}
use Rattle.runner.proofs.running.play.Goals as goal

pub returns-in_err-sizes : goal.returns-in_err-sizes
returns-in_err-sizes g c =
    fails g.M.Memory.meaning _ _ _ _ _ _ c.from_residual.ensures.1 (sym (append-nil _))
    (bad_sizes _ _ c.in_err-sizes.ensures)

pub returns-in_err-board : goal.returns-in_err-board
returns-in_err-board g c =
    let sizes = c.in_ok-sizes.ensures in
    fails_sizes g.M.Memory.meaning _ _ _ _ _ c.from_residual-in_err-board.ensures.1 refl
    (refused c.in_ok-sizes.sizes _ _ sizes.0 sizes.1
    (not_sized g.M.Memory.meaning c.args.memory c.in_ok-sizes.sizes _
    c.in_err-board.ensures.gives))

pub returns-in_err-count : goal.returns-in_err-count
returns-in_err-count g c =
    let sizes = c.in_ok-sizes.ensures in
    let made = sized_up g.M.Memory.meaning c.args.memory c.in_ok-sizes.sizes
    c.in_ok-board.board c.in_ok-board.ensures.gives in
    let f = c.in_err-count.ensures in
    fails g.M.Memory.meaning _ _ _ [] _ _ c.from_residual-in_err-count.ensures.1 (sym (append-nil _))
    (bad_count _ _ c.in_ok-sizes.sizes _ _ sizes.0 sizes.1 made.0 f.0 f.1)

pub loop-index-init : goal.loop-index-init
loop-index-init g c =
    let sizes = c.in_ok-sizes.ensures in
    let made = sized_up g.M.Memory.meaning c.args.memory c.in_ok-sizes.sizes
    c.in_ok-board.board c.in_ok-board.ensures.gives in
    let count = c.in_ok-count.ensures in
    playing_none _ _ _ _ c.in_ok-sizes.sizes _ _ _ sizes.0 made.0 made.1
    c.in_ok-board.ensures.promise sizes.1 count.0 count.1

pub returns-in_err-event : goal.returns-in_err-event
returns-in_err-event g c =
    let f = c.in_err-event.ensures in
    stops_event c.loop-index.invariant g.M.Memory.meaning _ _ (omega arith)
    c.from_residual-in_err-event.ensures.1 f.0 f.1

pub loop-index-preserved : goal.loop-index-preserved
loop-index-preserved g c =
    playing_more c.loop-index.invariant _ _ _ _ _ _ _ _ (omega arith) c.in_ok-event.ensures
    c.take_turn-answer.ensures.moves c.take_turn-answer.ensures.same c.take_turn-answer.ensures.promise
    c.in_ok-push_str.ensures.bytes
    (c.as_str.ensures.value ∙ c.in_ok-answer_line.ensures) c.number_of.ensures

pub returns-in_err-take_end : goal.returns-in_err-take_end
returns-in_err-take_end g c =
    let f = c.in_err-take_end.ensures in
    stops_end c.loop-index.invariant g.M.Memory.meaning _ _ (omega arith)
    c.from_residual-in_err-take_end.ensures.1 f.0 f.1
