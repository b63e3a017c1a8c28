use Rattle.std.proofs.Common.{decimal}
use Rattle.textline.proofs.Ends.{no_cut, number_of_cut}
use Rattle.textline.proofs.lines.cut_number.Goals as goal

pub returns-in_err-digits : goal.returns-in_err-digits
returns-in_err-digits c =
    rw c.from_residual.ensures (λ n after h. no_cut _ (decimal n) after c.in_err-digits.ensures h.whole)

pub returns-in_err-number : goal.returns-in_err-number
returns-in_err-number c =
    rw c.from_residual-in_err-number.ensures
    (λ n after h. c.in_err-number.ensures n (number_of_cut _ _ _ after n c.in_ok-digits.ensures h))
