-- Where a number ends in a text. Assumes nothing.
use Rattle.std.proofs.Common.{◌≡◌, ℕ, ◌+◌, ◌<◌, ◌≤◌, true, false, List, [], ◌∷◌, ◌++◌, length, get_or, take, drop, set}
use Rattle.std.proofs.Common.{decimal, sym, refl, ap, ◌∙◌, subst, append_assoc, add-zero, ⊎_elim, arith, rules, tests}
use Rattle.std.proofs.Common.{Bor, Some, nat_eq, length-append, take-append-drop}
use Rattle.std.specs.Char.{is_ascii_digit}
use Rattle.std.specs.Cmp.Lexicographic.{pointwise}
use Rattle.std.specs.Int.{IsInRange}
use Rattle.std.specs.List.{prefix_len}
use Rattle.std.proofs.lemmas.Fmt.{digits_decimal, decimal_injective}
use Rattle.std.proofs.lemmas.List.{take_at, drop_at, drop_more, take_more_set, get_or_append_left, append_cancel_right}
use Rattle.std.proofs.lemmas.List.{get_or-drop, get_or_past}
use Rattle.std.proofs.lemmas.Bool.{false≢true}
use Rattle.std.proofs.lemmas.Bool.Decides.{Decides-eqb}
use Rattle.std.proofs.lemmas.Slice.Eq.{strip_prefix_is}
use Rattle.std.proofs.str.Laws.{order}
use Rattle.std.proofs.lemmas.List.{get_or-append-add}
use Rattle.std.proofs.lemmas.List.Sums.{prefix_len_is, prefix_len_stops}
use Rattle.std.proofs.lemmas.List.Elements.{All-get_or, All-push, All-from_recursion, recursion_from_All}
use Rattle.std.proofs.lemmas.Str.Parse.{digit_at}
use Rattle.textline.specs.Numbers.{Numeral, Field, Stops, spelled, Small, Spells}
use Rattle.textline.proofs.Decimals.{own}

-- the test of a digit says yes to digits, and no to all else
is_digit : (c : ℕ) → IsInRange 48 57 c → is_ascii_digit c ≡ true
is_digit c h = search (rules, tests)

is_none : (c : ℕ) → (IsInRange 48 57 c → ⊥) → is_ascii_digit c ≡ false
is_none c h = search (rules, tests)

-- the digits at the front are those of the number
digits_run : (n : ℕ) (after : List ℕ) → n < 65536 → Stops after
    → prefix_len is_ascii_digit (decimal n ++ after) ≡ length (decimal n)
digits_run n after lt st =
    prefix_len_is is_ascii_digit (decimal n ++ after) (length (decimal n)) 0
    (omega (arith, length-append (decimal n) after))
    (λ k h. is_digit _ (subst (IsInRange 48 57) (sym (get_or_append_left (decimal n) after 0 k h))
    (digit_at (decimal n) k (digits_decimal own n (omega arith)) h)))
    (λ h. is_none _ (subst (λ v. IsInRange 48 57 v → ⊥) (sym (ap (λ i. get_or (decimal n ++ after) i 0)
    (sym (add-zero (length (decimal n)))) ∙ get_or-append-add (decimal n) after 0 0)) st))

-- they are its text
front_is : (bs after : List ℕ) (k n : ℕ) → k ≡ prefix_len is_ascii_digit bs → n < 65536 → bs ≡ decimal n ++ after
    → Stops after → take k bs ≡ decimal n
front_is bs after k n r lt e st =
    ap (take k) e ∙ take_at (decimal n) after k (sym (r ∙ ap (prefix_len is_ascii_digit) e ∙ digits_run n after lt st))

-- no digit stands behind the digits at the front
run_stops : (bs : List ℕ) → Stops (drop (prefix_len is_ascii_digit bs) bs)
run_stops bs h =
    let k = prefix_len is_ascii_digit bs in
    let here : is_ascii_digit (get_or bs k 0) ≡ true =
    is_digit _ (subst (IsInRange 48 57) (get_or-drop k bs 0 0 ∙ ap (λ i. get_or bs i 0) (add-zero k)) h) in
    ⊎_elim (λ lt. false≢true (sym (prefix_len_stops is_ascii_digit bs 0 lt) ∙ here))
    (λ le. omega (arith, h, get_or-drop k bs 0 0, get_or_past bs (k + 0) 0 (omega arith))) (order k (length bs))

-- the space at the front is taken off
pub spaced : (bs : List ℕ) (x : Bor (List ℕ))
    → (pointwise nat_eq (take 1 bs) (32 ∷ []) ≡ true) × (x.now ≡ drop 1 bs) × (length x.now + 1 ≡ length bs)
    → bs ≡ 32 ∷ x.now
spaced bs x h = strip_prefix_is {A = ℕ} Decides-eqb bs (32 ∷ []) (Some x) h

-- a space, the digits behind it, which are the text of a number, and what follows
pub field_is : (bs rest digits after : List ℕ) (k n : ℕ) → bs ≡ 32 ∷ rest → k ≡ prefix_len is_ascii_digit rest
    → digits ≡ take k rest → after ≡ drop k rest → Numeral digits n → Field bs n after
field_is bs rest digits after k n e r d a h = record {
  small = h.small;
  whole = e ∙ ap (λ l. 32 ∷ l) (sym (take-append-drop k rest) ∙ (λ i. (sym d ∙ h.text) i ++ sym a i));
  stops = subst Stops (sym (a ∙ ap (λ i. drop i rest) r)) (run_stops rest);
}

-- such a number at the front is the text of the digits there
pub numeral_is : (bs rest digits after : List ℕ) (k n : ℕ) → bs ≡ 32 ∷ rest → k ≡ prefix_len is_ascii_digit rest
    → digits ≡ take k rest → Field bs n after → Numeral digits n
numeral_is bs rest digits after k n e r d f =
    let x = f.whole in
    let same : rest ≡ decimal n ++ after = cc in
    record { small = f.small; text = d ∙ front_is rest after k n r f.small same f.stops }

-- a field is read in one way
pub same_after : (bs a b : List ℕ) (n m : ℕ) → Field bs n a → Field bs m b → a ≡ b
same_after bs a b n m f g =
    let p = f.small in
    let q = g.small in
    let x = f.whole in
    let y = g.whole in
    let e : decimal n ++ a ≡ decimal m ++ b = cc in
    let long : length (decimal n) ≡ length (decimal m) =
    sym (digits_run n a p f.stops) ∙ ap (prefix_len is_ascii_digit) e ∙ digits_run m b q g.stops in
    sym (drop_at (decimal n) a (length (decimal n)) refl) ∙ ap (drop (length (decimal n))) e
    ∙ drop_at (decimal m) b (length (decimal n)) (sym long)

-- and gives one number
pub same_first : (bs a b : List ℕ) (n m : ℕ) → Field bs n a → Field bs m b → n ≡ m
same_first bs a b n m f g =
    let p = f.small in
    let q = g.small in
    let x = f.whole in
    let y = g.whole in
    let after = same_after bs a b n m f g in
    let e : decimal n ++ a ≡ decimal m ++ a = cc in
    decimal_injective n m (omega arith) (omega arith) (append_cancel_right (decimal n) (decimal m) a e)

-- no digit stands before the first of several numbers
pub stops_spelled : (ns : List ℕ) → Stops (spelled ns)
stops_spelled [] h = omega (arith, h)
stops_spelled (n ∷ ns) h = omega (arith, h)

-- one number more at the end
pub spelled_push : (ns : List ℕ) (n : ℕ) (r : List ℕ)
    → spelled (ns ++ n ∷ []) ++ r ≡ spelled ns ++ (32 ∷ (decimal n ++ r))
spelled_push [] n r = ap (λ l. 32 ∷ l) (append_assoc (decimal n) [] r)
spelled_push (x ∷ ns) n r =
    ap (λ l. 32 ∷ l)
    (append_assoc (decimal x) (spelled (ns ++ n ∷ [])) r
    ∙ ap (λ l. decimal x ++ l) (spelled_push ns n r)
    ∙ sym (append_assoc (decimal x) (spelled ns) (32 ∷ (decimal n ++ r))))

-- i numbers of s stand in out, and rest follows them, in whichever way s is read
pub record Got (s : List ℕ) (i : ℕ) (out rest : List ℕ) : Type 0 where
  pub small : Small (take i out)
  pub whole : s ≡ spelled (take i out) ++ rest
  pub only : (ns : List ℕ) → Small ns → i ≤ length ns → s ≡ spelled ns → rest ≡ spelled (drop i ns)

-- each of several numbers is at most 65,535
small_at : (ns : List ℕ) (i : ℕ) → Small ns → i < length ns → get_or ns i 0 < 65536
small_at ns i h lt = All-get_or (λ n. n < 65536) ns i 0 lt (All-from_recursion (λ n. n < 65536) ns h)

-- what is left of a text of numbers begins with the next one
pub next_field : (ns rest : List ℕ) (i : ℕ) → Small ns → i < length ns → rest ≡ spelled (drop i ns)
    → Field rest (get_or ns i 0) (spelled (drop (i + 1) ns))
next_field ns rest i small lt e =
    record {
      small = small_at ns i small lt;
      whole = e ∙ ap spelled (drop_more ns i 0 lt);
      stops = stops_spelled (drop (i + 1) ns);
    }

-- one number more is taken
pub got_more : (s out rest after : List ℕ) (i n : ℕ) → i < length out → Got s i out rest → Field rest n after
    → Got s (i + 1) (set out i n) after
got_more s out rest after i n lt g f = record {
  whole = g.whole ∙ ap (λ l. spelled (take i out) ++ l) f.whole
      ∙ sym (ap (λ l. spelled l ++ after) (take_more_set out i n lt) ∙ spelled_push (take i out) n after);
  only = λ ns all le e.
      let here : i < length ns = omega arith in
      same_after rest after _ n (get_or ns i 0) f (next_field ns rest i all here (g.only ns all (omega arith) e));
  small = subst Small (sym (take_more_set out i n lt))
      (recursion_from_All (λ k. k < 65536) (take i out ++ n ∷ [])
      (All-push (λ k. k < 65536) (take i out) n (All-from_recursion (λ k. k < 65536) (take i out) g.small) f.small));
}

-- a text of n numbers goes on with a field after i of them
pub got_next : (s out rest ns : List ℕ) (n i : ℕ) → Got s i out rest → i < n → Spells n s ns
    → Field rest (get_or ns i 0) (spelled (drop (i + 1) ns))
got_next s out rest ns n i g lt h =
    let long = h.long in
    next_field ns rest i h.small (omega arith) (g.only ns h.small (omega arith) h.text)
