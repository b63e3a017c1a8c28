-- Where a line ends, and that a text is cut into lines in one way. Assumes nothing.
use Rattle.std.proofs.Common.{◌≡◌, ℕ, suc, ◌<◌, List, [], ◌∷◌, ◌++◌, length, get_or, decimal}
use Rattle.std.proofs.Common.{sym, refl, ap, ◌∙◌, add-zero, arith, length-append}
use Rattle.std.specs.List.{All}
use Rattle.std.proofs.lemmas.Fmt.{digits_decimal}
use Rattle.std.proofs.lemmas.List.{get_or-append-add}
use Rattle.std.proofs.lemmas.List.Elements.{All-nil, All-cons, All-get_or, All-append, All-from_get_or}
use Rattle.std.proofs.lemmas.Str.Parse.{digit_at}
use Rattle.textline.specs.declared.events.Event.{Event}
use Rattle.textline.specs.declared.events.Event.TheVariants.{Read, Write, Leave, Add, Show, Step, Abort, Reuse}
use Rattle.textline.specs.Events.{Writes, written, letter, numbers_of}
use Rattle.textline.specs.Lines.{NoEnd, Cut, NumberLine, EventLine}
use Rattle.textline.specs.Numbers.{Numeral, spelled, Small}
use Rattle.textline.proofs.Decimals.{own}

-- a text without a line end has none behind its first byte
tail_free : (b : ℕ) (l : List ℕ) → NoEnd (b ∷ l) → NoEnd l
tail_free b l h k lt e = h (suc k) (omega arith) e

-- a text is cut in one way
pub one_cut : (l a m b : List ℕ) → NoEnd l → NoEnd m → l ++ (10 ∷ a) ≡ m ++ (10 ∷ b) → (l ≡ m) × (a ≡ b)
one_cut [] a [] b p q e = (refl, cc)
one_cut [] a (y ∷ m) b p q e = absurd (q 0 (omega arith) (cc))
one_cut (x ∷ l) a [] b p q e = absurd (p 0 (omega arith) (cc))
one_cut (x ∷ l) a (y ∷ m) b p q e =
    let rest : l ++ (10 ∷ a) ≡ m ++ (10 ∷ b) = cc in
    let head : x ≡ y = cc in
    let k = one_cut l a m b (tail_free x l p) (tail_free y m q) rest in
    ((λ i. head i ∷ k.0 i), k.1)

-- a text in which no line ends is not cut
pub no_cut : (s line after : List ℕ) → NoEnd s → s ≡ line ++ (10 ∷ after) → ⊥
no_cut s line after none whole =
    let at : get_or s (length line) 0 ≡ 10 =
    ap (λ l. get_or l (length line) 0) whole
    ∙ ap (λ i. get_or (line ++ (10 ∷ after)) i 0) (sym (add-zero (length line)))
    ∙ get_or-append-add line (10 ∷ after) 0 0 in
    none (length line) (omega (arith, simp length-append at (ap length whole))) at

-- bytes above 10
abbrev Inked : List ℕ → Type 0
Inked bs = All (λ b. 10 < b) bs

-- no line ends in bytes above 10
no_end_inked : (bs : List ℕ) → Inked bs → NoEnd bs
no_end_inked bs h k lt e = omega (arith, All-get_or (λ b. 10 < b) bs k 0 lt h)

-- digits are above 10
inked_decimal : (n : ℕ) → n < 65536 → Inked (decimal n)
inked_decimal n lt =
    All-from_get_or (λ b. 10 < b) (decimal n) 0
    (λ i h. omega (arith, digit_at (decimal n) i (digits_decimal own n (omega arith)) h))

-- spaces and digits are above 10
inked_spelled : (ns : List ℕ) → Small ns → Inked (spelled ns)
inked_spelled [] h = All-nil (λ b. 10 < b)
inked_spelled (n ∷ ns) h =
    All-cons (λ b. 10 < b) 32 (decimal n ++ spelled ns) (omega arith)
    (All-append (λ b. 10 < b) (decimal n) (spelled ns) (inked_decimal n h.0) (inked_spelled ns h.1))

-- letters are above 10
inked_letter : (e : Event) → 10 < letter e
inked_letter (Read card toggle node) = omega arith
inked_letter (Write card toggle node) = omega arith
inked_letter (Leave card toggle) = omega arith
inked_letter (Add card toggle counter amount) = omega arith
inked_letter (Show card toggle counter) = omega arith
inked_letter (Step card) = omega arith
inked_letter (Abort card) = omega arith
inked_letter (Reuse card node next prev state spin) = omega arith

-- no line ends in the text of a number
pub no_end_decimal : (n : ℕ) → n < 65536 → NoEnd (decimal n)
no_end_decimal n h = no_end_inked (decimal n) (inked_decimal n h)

-- no line ends in the line of an event
pub no_end_written : (e : Event) → Small (numbers_of e) → NoEnd (written e)
no_end_written e h =
    no_end_inked (written e)
    (All-cons (λ b. 10 < b) (letter e) (spelled (numbers_of e)) (inked_letter e) (inked_spelled (numbers_of e) h))

-- the line that is cut off holds the number that the text begins with
pub number_of_cut : (s line rest after : List ℕ) (n : ℕ) → Cut s line rest → NumberLine s n after → Numeral line n
number_of_cut s line rest after n c h = record {
  small = h.small;
  text =
      sym (one_cut (decimal n) after line rest (no_end_decimal n h.small) c.one (sym h.whole ∙ c.whole)).0;
}

-- the line that is cut off writes the event that the text begins with
pub event_of_cut : (s line rest after : List ℕ) (e : Event) → Cut s line rest → EventLine s e after → Writes line e
event_of_cut s line rest after e c h = record {
  small = h.small;
  text =
      sym (one_cut (written e) after line rest (no_end_written e h.small) c.one (sym h.whole ∙ c.whole)).0;
}
