-- The texts that `decimal` writes are those that a number is read from. Assumes nothing.
use Rattle.std.proofs.Common.{◌≡◌, ℕ, ◌<◌, List, length, get_or, Ok, Err, IsUtf8, decimal, Result, sym, ap, ◌∙◌}
use Rattle.std.proofs.Common.{subst, ⊎_elim, arith, Bor, Option, MatchResult, MatchOption}
use Rattle.std.specs.Result.{result_ok}
use Rattle.std.specs.Str.Parse.{ParsesUnsigned, AllDigits, digits_value}
use Rattle.std.proofs.lemmas.Fmt.{decimal_nonempty, decimal_digit, decimal-digits_value, digits_decimal}
use Rattle.std.proofs.lemmas.Fmt.{digits_value-decimal, first_decimal, IsAscii-decimal}
use Rattle.std.proofs.lemmas.Str.Parse.{IsNumeralModel, numerals_by_value, tells_digits, parse_plain, digit_at}
use Rattle.std.proofs.lemmas.Str.{IsUtf8-from_ascii}
use Rattle.std.proofs.str.Laws.{order}
use Rattle.textline.specs.Numbers.{Found, Numeral, StartsPlain}

-- the digits and the value of a text, as the library reads them
pub own : IsNumeralModel (AllDigits 10) (digits_value 10)
own = numerals_by_value (AllDigits 10) tells_digits

-- a text of a number that begins with a zero is that zero
one_zero : (n : ℕ) → n < 65536 → get_or (decimal n) 0 0 ≡ 48 → length (decimal n) ≡ 1
one_zero n h z =
    ⊎_elim (λ p. absurd (omega (arith, first_decimal n p (omega arith))))
    (λ p. ap length (decimal_digit n (omega arith)))
    (order 0 n)

-- the text of a number has no sign and no needless zero
pub starts_numeral : (bs : List ℕ) (n : ℕ) → Numeral bs n → StartsPlain bs
starts_numeral bs n h =
    let lt = h.small in
    let some = decimal_nonempty n (omega arith) in
    let first = digit_at (decimal n) 0 (digits_decimal own n (omega arith)) some in
    subst StartsPlain (sym h.text)
    (record { some = some; unsigned = λ e. omega (arith, first); alone = one_zero n lt })

-- the text of a number is text
pub utf8_numeral : (bs : List ℕ) (n : ℕ) → Numeral bs n → IsUtf8 bs
utf8_numeral bs n h =
    let lt = h.small in
    subst IsUtf8 (sym h.text) (IsUtf8-from_ascii _ (IsAscii-decimal n (omega arith)))

-- bytes that are taken as text stay as they are, and those that are not taken are no text
pub taken : {E : Type 0} (Q : E → Type 0) (bs : List ℕ) (r : Result (Bor (List ℕ)) E) (o : Option (Bor (List ℕ)))
    → MatchResult r (λ s. (s.now ≡ bs) × IsUtf8 bs) (λ e. (IsUtf8 bs → ⊥) × Q e) → o ≡ result_ok r
    → MatchOption o (IsUtf8 bs → ⊥) (λ s. s.now ≡ bs)
taken Q bs (Ok s) o m e = subst (λ x. MatchOption x (IsUtf8 bs → ⊥) (λ t. t.now ≡ bs)) (sym e) m.0
taken Q bs (Err f) o m e = subst (λ x. MatchOption x (IsUtf8 bs → ⊥) (λ t. t.now ≡ bs)) (sym e) m.0

-- what `parse` reads of a text that starts as a number's is the number
pub reads_number : {E : Type 0} (bs : List ℕ) (r : Result ℕ E) → ParsesUnsigned 16 10 bs r → StartsPlain bs
    → Found (Numeral bs) (result_ok r)
reads_number {E} bs (Ok x) h p =
    let k = parse_plain own {E = E} 16 bs (Ok x) h p.unsigned in
    record {
      small = omega (arith, k.0.2, k.1);
      text = sym (ap decimal k.1 ∙ decimal-digits_value own bs k.0.0 k.0.1 p.alone (omega (arith, k.0.2)));
    }
reads_number {E} bs (Err e) h p =
    let k = parse_plain own {E = E} 16 bs (Err e) h p.unsigned in
    λ n num.
    let lt = num.small in
    let is = num.text in
    k (
      subst (AllDigits 10) (sym is) (digits_decimal own n (omega arith)),
      p.some,
      omega (arith, ap (digits_value 10) is, digits_value-decimal own n (omega arith)),
    )
