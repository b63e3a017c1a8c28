-- A schedule can be told from its text. Assumes nothing.
use Rattle.std.proofs.Common.{◌≡◌, ℕ, ◌<◌, cond, eqb, List, [], ◌∷◌, map, length, get_or, sym, refl, ap, ◌∙◌, subst}
use Rattle.std.proofs.Common.{arith, length-append}
use Rattle.std.specs.List.{AllByRecursion}
use Rattle.std.proofs.lemmas.Fmt.{decimal_injective}
use Rattle.textline.specs.declared.events.Event.{Event}
use Rattle.textline.specs.declared.events.Event.TheVariants.{Read, Write, Leave, Add, Show, Step, Abort, Reuse}
use Rattle.textline.specs.Events.{letter, numbers_of, written}
use Rattle.textline.specs.Lines.{NoEnd}
use Rattle.textline.specs.Numbers.{Field, spelled, Small}
use Rattle.schedule.specs.Schedules.{lines_of, text_of, OneRendering}
use Rattle.textline.proofs.Ends.{one_cut}
use Rattle.textline.proofs.Fields.{same_after, same_first, stops_spelled}
use Rattle.schedule.proofs.Fronts.{no_ends}

-- the event of a letter and its numbers
told : ℕ → List ℕ → Event
told l ns =
    let at : ℕ → ℕ = λ i. get_or ns i 0 in
    cond (eqb l 114) (Read (at 0) (at 1) (at 2))
    (cond (eqb l 119) (Write (at 0) (at 1) (at 2))
    (cond (eqb l 108) (Leave (at 0) (at 1))
    (cond (eqb l 97) (Add (at 0) (at 1) (at 2) (at 3))
    (cond (eqb l 99) (Show (at 0) (at 1) (at 2))
    (cond (eqb l 115) (Step (at 0))
    (cond (eqb l 120) (Abort (at 0)) (Reuse (at 0) (at 1) (at 2) (at 3) (at 4) (at 5))))))))

-- an event is told from its letter and its numbers
told_is : (e : Event) → told (letter e) (numbers_of e) ≡ e
unfolding told
told_is (Read card toggle node) = refl
told_is (Write card toggle node) = refl
told_is (Leave card toggle) = refl
told_is (Add card toggle counter amount) = refl
told_is (Show card toggle counter) = refl
told_is (Step card) = refl
told_is (Abort card) = refl
told_is (Reuse card node next prev state spin) = refl

-- the text of several numbers begins with the first
field : (n : ℕ) (ns : List ℕ) → n < 65536 → Field (spelled (n ∷ ns)) n (spelled ns)
field n ns h = record { small = h; whole = refl; stops = stops_spelled ns }

-- numbers can be told from their text
same_numbers : (xs ys : List ℕ) → Small xs → Small ys → spelled xs ≡ spelled ys → xs ≡ ys
same_numbers [] [] p q e = refl
same_numbers [] (y ∷ ys) p q e =
    let z : length (spelled []) ≡ length (spelled (y ∷ ys)) = ap length e in absurd (omega arith)
same_numbers (x ∷ xs) [] p q e =
    let z : length (spelled (x ∷ xs)) ≡ length (spelled []) = ap length e in absurd (omega arith)
same_numbers (x ∷ xs) (y ∷ ys) p q e =
    let g = subst (λ l. Field l y (spelled ys)) (sym e) (field y ys q.0) in
    let f = field x xs p.0 in
    let head = same_first _ _ _ x y f g in
    let tail = same_numbers xs ys p.1 q.1 (same_after _ _ _ x y f g) in
    (λ i. head i ∷ tail i)

-- an event can be told from its line
pub one_event : (a b : Event) → Small (numbers_of a) → Small (numbers_of b) → written a ≡ written b → a ≡ b
one_event a b p q e =
    let l : letter a ≡ letter b = cc in
    let s : spelled (numbers_of a) ≡ spelled (numbers_of b) = cc in
    let n = same_numbers (numbers_of a) (numbers_of b) p q s in
    sym (told_is a) ∙ (λ i. told (l i) (n i)) ∙ told_is b

-- events can be told from their lines
pub same_events : (es fs : List Event) → AllByRecursion (λ e. Small (numbers_of e)) es
    → AllByRecursion (λ e. Small (numbers_of e)) fs
    → map written es ≡ map written fs → es ≡ fs
same_events [] [] p q e = refl
same_events [] (f ∷ fs) p q e =
    let z : length (map written []) ≡ length (map written (f ∷ fs)) = ap length e in absurd (omega arith)
same_events (a ∷ es) [] p q e =
    let z : length (map written (a ∷ es)) ≡ length (map written []) = ap length e in absurd (omega arith)
same_events (a ∷ es) (f ∷ fs) p q e =
    let h : written a ≡ written f = cc in
    let t : map written es ≡ map written fs = cc in
    let head = one_event a f p.0 q.0 h in
    let tail = same_events es fs p.1 q.1 t in
    (λ i. head i ∷ tail i)

-- lines can be told from their text
same_lines : (ls ms : List (List ℕ)) → AllByRecursion NoEnd ls → AllByRecursion NoEnd ms → text_of ls ≡ text_of ms
    → ls ≡ ms
same_lines [] [] p q e = refl
same_lines [] (m ∷ ms) p q e =
    let z = ap length e in absurd (omega (arith, z, length-append m (10 ∷ text_of ms)))
same_lines (l ∷ ls) [] p q e =
    let z = ap length e in absurd (omega (arith, z, length-append l (10 ∷ text_of ls)))
same_lines (l ∷ ls) (m ∷ ms) p q e =
    let first = one_cut l (text_of ls) m (text_of ms) p.0 q.0 e in
    let tail = same_lines ls ms p.1 q.1 first.1 in
    (λ i. first.0 i ∷ tail i)

-- two schedules that differ never have one text
pub one_rendering : OneRendering
one_rendering s t es fs p q e =
    let lines = same_lines (lines_of s es) (lines_of t fs) (no_ends s es p) (no_ends t fs q) e in
    let pc = p.sizes.0 in
    let pn = p.sizes.1.0 in
    let pk = p.sizes.1.1.0 in
    let qc = q.sizes.0 in
    let qn = q.sizes.1.0 in
    let qk = q.sizes.1.1.0 in
    let cards = decimal_injective s.cards t.cards (omega arith) (omega arith) (ap (λ l. get_or l 1 []) lines) in
    let nodes = decimal_injective s.nodes t.nodes (omega arith) (omega arith) (ap (λ l. get_or l 2 []) lines) in
    let counters = decimal_injective s.counters t.counters (omega arith) (omega arith)
    (ap (λ l. get_or l 3 []) lines) in
    let written_same : map written es ≡ map written fs = cc in (
      (λ i. record { cards = cards i; nodes = nodes i; counters = counters i }),
      same_events es fs p.events q.events written_same,
    )
