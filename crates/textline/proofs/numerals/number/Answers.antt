use Rattle.std.proofs.lemmas.Bool.{both_ways}
use Rattle.textline.proofs.Decimals.{starts_numeral, utf8_numeral, taken, reads_number}
use Rattle.textline.proofs.numerals.number.Goals as goal

pub returns-then-not-starts_plain : goal.returns-then-not-starts_plain
returns-then-not-starts_plain c n num =
    both_ways _ c.if-not-starts_plain.true (c.starts_plain.ensures.1 (starts_numeral _ n num))

pub returns-in_err-ok : goal.returns-in_err-ok
returns-in_err-ok c =
    rw c.from_residual.ensures
    (λ n num. taken _ _ _ _ c.from_utf8.ensures.cases c.in_err-ok.ensures.value (utf8_numeral _ n num))

pub returns : goal.returns
returns c =
    let same = taken _ _ _ _ c.from_utf8.ensures.cases c.in_ok-ok.ensures.value in
    let read = rw same at c.parse.ensures.value.0 in
    rw c.ok-2.ensures.value (reads_number _ _ read (c.starts_plain.ensures.0 c.if-not-starts_plain.false))
