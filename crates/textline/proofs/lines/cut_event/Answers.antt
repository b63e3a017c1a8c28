use Rattle.textline.specs.Events.{written}
use Rattle.textline.proofs.Ends.{no_cut, event_of_cut}
use Rattle.textline.proofs.lines.cut_event.Goals as goal

pub returns-in_err-line : goal.returns-in_err-line
returns-in_err-line c =
    rw c.from_residual.ensures (λ e after h. no_cut _ (written e) after c.in_err-line.ensures h.whole)

pub returns-in_err-read_event : goal.returns-in_err-read_event
returns-in_err-read_event c =
    rw c.from_residual-in_err-read_event.ensures
    (λ e after h. c.in_err-read_event.ensures e (event_of_cut _ _ _ after e c.in_ok-line.ensures h))
