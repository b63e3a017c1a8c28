use Rattle.textline.proofs.Fields.{spaced, field_is, numeral_is}
use Rattle.textline.proofs.numerals.field.Goals as goal

pub returns-in_err-number : goal.returns-in_err-number
returns-in_err-number c =
    rw c.from_residual-in_err-number.ensures
    (λ n after f. c.in_err-number.ensures n
    (numeral_is _ _ _ after _ n (spaced _ c.in_ok-rest.rest c.in_ok-rest.ensures.cases) c.digits_len.ensures.digits
    c.split_at.ensures.front f))

pub returns : goal.returns
returns c =
    field_is _ _ _ _ _ _ (spaced _ c.in_ok-rest.rest c.in_ok-rest.ensures.cases) c.digits_len.ensures.digits
    c.split_at.ensures.front c.split_at.ensures.back c.in_ok-number.ensures
