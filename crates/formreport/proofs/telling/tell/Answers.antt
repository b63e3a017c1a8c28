use Rattle.std.proofs.Common.{sym, ◌∙◌, append-nil, arith}
use Rattle.formreport.proofs.Told.{pushed, opening, fails, before_sizes, before_count}
use Rattle.formreport.proofs.Told.{telling_none, telling_more, stops_event, stops_end, tells_all}
use Rattle.formreport.proofs.telling.tell.Goals as goal

pub returns-in_err-sizes : goal.returns-in_err-sizes
returns-in_err-sizes c =
    fails _ _ _ _ _ _ c.from_residual.ensures.1 (sym (append-nil _))
    (before_sizes _ _ c.in_err-sizes.ensures)

pub returns-in_err-count : goal.returns-in_err-count
returns-in_err-count c =
    let sizes = c.in_ok-sizes.ensures in
    let f = c.in_err-count.ensures in
    fails _ _ _ _ _ _ c.from_residual-in_err-count.ensures.1
    (pushed _ _ _ _ c.in_ok-push_str.ensures.bytes
    (c.as_str.ensures.value ∙ c.in_ok-sizes_line.ensures))
    (before_count _ _ _ _ sizes.0 sizes.1 f.0 f.1)

pub loop-index-init : goal.loop-index-init
loop-index-init c =
    let count = c.in_ok-count.ensures in
    telling_none _ _ _ _ _ _ c.in_ok-sizes.ensures.1 count.0 count.1

pub returns-in_err-e : goal.returns-in_err-e
returns-in_err-e c =
    let sizes = c.in_ok-sizes.ensures in
    let opened = opening _ _ _ _ _ _ _ c.in_ok-push_str.ensures.bytes
    (c.as_str.ensures.value ∙ c.in_ok-sizes_line.ensures) c.in_ok-push_str-2.ensures.bytes
    (c.as_str-2.ensures.value ∙ c.in_ok-count_line.ensures) in
    let f = c.in_err-e.ensures in
    stops_event c.loop-index.invariant _ _ _ sizes.0 sizes.1 opened _ _ (omega arith)
    c.from_residual-in_err-e.ensures.1 f.0 f.1

pub loop-index-preserved : goal.loop-index-preserved
loop-index-preserved c =
    telling_more c.loop-index.invariant _ _ _ _ _ (omega arith) c.in_ok-e.ensures
    c.in_ok-push_str-3.ensures.bytes
    (c.as_str-in-loop-index.ensures.value ∙ c.in_ok-event_line.ensures) c.line_of_event.ensures

pub returns-in_err-take_end : goal.returns-in_err-take_end
returns-in_err-take_end c =
    let sizes = c.in_ok-sizes.ensures in
    let opened = opening _ _ _ _ _ _ _ c.in_ok-push_str.ensures.bytes
    (c.as_str.ensures.value ∙ c.in_ok-sizes_line.ensures) c.in_ok-push_str-2.ensures.bytes
    (c.as_str-2.ensures.value ∙ c.in_ok-count_line.ensures) in
    let f = c.in_err-take_end.ensures in
    stops_end c.loop-index.invariant _ _ _ sizes.0 sizes.1 opened _ _ (omega arith)
    c.from_residual-in_err-take_end.ensures.1 f.0 f.1

pub returns : goal.returns
returns c =
    let sizes = c.in_ok-sizes.ensures in
    let opened = opening _ _ _ _ _ _ _ c.in_ok-push_str.ensures.bytes
    (c.as_str.ensures.value ∙ c.in_ok-sizes_line.ensures) c.in_ok-push_str-2.ensures.bytes
    (c.as_str-2.ensures.value ∙ c.in_ok-count_line.ensures) in
    tells_all c.loop-index.invariant _ _ _ sizes.0 sizes.1 opened tt (omega arith)
    c.in_ok-take_end.ensures
