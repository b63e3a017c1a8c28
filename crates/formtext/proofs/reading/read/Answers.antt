use Rattle.std.proofs.Common.{◌≡◌, ◌+◌, ◌<◌, length, vec_items, refl, arith}
use Rattle.std.proofs.lemmas.List.{length_push}
use Rattle.schedule.proofs.Progress.{progress_none, progress_more, progress_all}
use Rattle.schedule.proofs.Progress.{early_none, count_stops, event_stops, event_none, end_stops, end_none}
use Rattle.formtext.proofs.Exits.{whole, fails_sizes, fails_at}
use Rattle.formtext.proofs.reading.read.Goals as goal

pub returns-in_err-sizes : goal.returns-in_err-sizes
returns-in_err-sizes c = whole (fails_sizes _ _ _ c.from_residual.ensures.1 c.in_err-sizes.ensures)

pub returns-in_err-count : goal.returns-in_err-count
returns-in_err-count c =
    let sizes = c.in_ok-sizes.ensures in
    let f = c.in_err-count.ensures in
    let stop = count_stops _ _ _ sizes.1 f.1 in
    whole (fails_at _ _ _ 5 c.from_residual-in_err-count.ensures.1 f.0 sizes.0 stop
    (early_none _ 5 stop (omega arith)))

pub loop-index-init : goal.loop-index-init
loop-index-init c =
    let sizes = c.in_ok-sizes.ensures in
    let count = c.in_ok-count.ensures in
    rw c.new-events.ensures.items (refl, progress_none _ _ _ _ _ sizes.1 count.0 count.1)

pub returns-in_err-e : goal.returns-in_err-e
returns-in_err-e c =
    let p = c.loop-index.invariant.1 in
    let long = c.loop-index.invariant.0 in
    let f = c.in_err-e.ensures in
    let lt : length (vec_items c.loop-index.events) < c.in_ok-count.count = omega arith in
    let stop = event_stops p (6 + c.loop-index.index) (omega arith) lt f.1 in
    whole
    (fails_at _ _ _ _ c.from_residual-in_err-e.ensures.1 f.0 c.in_ok-sizes.ensures.0 stop
    (event_none p _ (omega arith) lt stop))

pub loop-index-preserved : goal.loop-index-preserved
loop-index-preserved c =
    let p = c.loop-index.invariant.1 in
    let long = c.loop-index.invariant.0 in
    let items = c.in_ok-push.ensures.items in
    let push = length_push (vec_items c.loop-index.events) c.in_ok-e.e in
    rw items (omega arith, progress_more _ _ p (omega arith) c.in_ok-e.ensures)

pub returns-in_err-take_end : goal.returns-in_err-take_end
returns-in_err-take_end c =
    let p = c.loop-index.invariant.1 in
    let long = c.loop-index.invariant.0 in
    let f = c.in_err-take_end.ensures in
    let done : length (vec_items c.loop-index.events) ≡ c.in_ok-count.count = omega arith in
    whole
    (fails_at _ _ _ _ c.from_residual-in_err-take_end.ensures.1 f.0 c.in_ok-sizes.ensures.0
    (end_stops p done) (end_none p done f.1))

pub returns : goal.returns
returns c =
    let p = c.loop-index.invariant.1 in
    let long = c.loop-index.invariant.0 in
    let done : length (vec_items c.loop-index.events) ≡ c.in_ok-count.count = omega arith in
    whole (c.in_ok-sizes.ensures.0, progress_all p done c.in_ok-take_end.ensures)
