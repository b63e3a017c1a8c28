-- A text of which the first lines are known: what some schedule's text goes on with. Assumes nothing.
use Rattle.std.proofs.Common.{◌≡◌, ℕ, ◌+◌, ◌<◌, ◌≤◌, List, [], ◌∷◌, ◌++◌, length, get_or, take, drop, decimal, sym}
use Rattle.std.proofs.Common.{map, refl, ap, ◌∙◌, append_assoc, arith, length-take-le}
use Rattle.std.specs.List.{AllByRecursion}
use Rattle.std.proofs.lemmas.Fmt.{decimal_injective}
use Rattle.std.proofs.lemmas.List.{take-take, drop-take, drop_more}
use Rattle.std.proofs.lemmas.List.Elements.{All-map, All-weaker, All-take, All-push, All-from_recursion}
use Rattle.std.proofs.lemmas.List.Elements.{recursion_from_All}
use Rattle.textline.specs.declared.events.Event.{Event}
use Rattle.textline.specs.declared.events.SizeLines.{SizeLines}
use Rattle.textline.specs.Events.{written, numbers_of}
use Rattle.textline.specs.Lines.{NoEnd, NumberLine}
use Rattle.textline.specs.Numbers.{Small}
use Rattle.schedule.specs.Schedules.{lines_of, text_of, Sound, Fits, StopsAt}
use Rattle.textline.proofs.Ends.{one_cut, no_end_decimal, no_end_written}

-- no line of an event has a line end within it
pub event_ends : (es : List Event) → AllByRecursion (λ e. Small (numbers_of e)) es
    → AllByRecursion NoEnd (map written es)
event_ends es h =
    recursion_from_All NoEnd (map written es)
    (All-map NoEnd written es
    (All-weaker (λ e. Small (numbers_of e)) (λ e. NoEnd (written e)) no_end_written es
    (All-from_recursion (λ e. Small (numbers_of e)) es h)))

-- no line of a schedule has one
pub no_ends : (s : SizeLines) (es : List Event) → Sound s es → AllByRecursion NoEnd (lines_of s es)
no_ends s es h =
    let few = h.few in
    let count : length es < 65536 = omega arith in (
      no_end_decimal 3 (omega arith),
      (
        no_end_decimal s.cards h.sizes.0,
        (
          no_end_decimal s.nodes h.sizes.1.0,
          (
            no_end_decimal s.counters h.sizes.1.1.0,
            (
              no_end_decimal (length es) count,
              event_ends es h.events,
            ),
          ),
        ),
      ),
    )

-- texts that begin with as many lines have these lines and what is behind them in common
pub peel : (done ls : List (List ℕ)) (rest after : List ℕ) → AllByRecursion NoEnd done → AllByRecursion NoEnd ls
    → length done ≤ length ls
    → text_of done ++ rest ≡ text_of ls ++ after
    → (take (length done) ls ≡ done) × (rest ≡ text_of (drop (length done) ls) ++ after)
peel [] ls rest after p q le e = (refl, e)
peel (d ∷ done) [] rest after p q le e = absurd (omega arith)
peel (d ∷ done) (l ∷ ls) rest after p q le e =
    let first = one_cut d (text_of done ++ rest) l (text_of ls ++ after) p.0 q.0
    (sym (append_assoc d (10 ∷ text_of done) rest) ∙ e ∙ append_assoc l (10 ∷ text_of ls) after) in
    let next = peel done ls rest after p.1 q.1 (omega arith) first.1 in
    ((λ i. sym first.0 i ∷ next.0 i), next.1)

-- bs is the lines `done` and then `rest`
pub record Begun (bs : List ℕ) (done : List (List ℕ)) (rest : List ℕ) : Type 0 where
  pub whole : bs ≡ text_of done ++ rest
  pub lines : AllByRecursion NoEnd done

-- no line is known yet
pub begun_none : (bs : List ℕ) → Begun bs [] bs
begun_none bs = record { whole = refl; lines = tt }

-- one line more at the end of the lines that are known
line_more : (done : List (List ℕ)) (l rest after : List ℕ) → rest ≡ l ++ (10 ∷ after)
    → text_of done ++ rest ≡ text_of (done ++ l ∷ []) ++ after
line_more [] l rest after e = e ∙ sym (append_assoc l (10 ∷ []) after)
line_more (d ∷ done) l rest after e =
    append_assoc d (10 ∷ text_of done) rest
    ∙ ap (λ x. d ++ (10 ∷ x)) (line_more done l rest after e)
    ∙ sym (append_assoc d (10 ∷ text_of (done ++ l ∷ [])) after)

-- one line more is known
pub begun_more : {bs : List ℕ} {done : List (List ℕ)} {rest : List ℕ} (l after : List ℕ) → Begun bs done rest → NoEnd l
    → rest ≡ l ++ (10 ∷ after) → Begun bs (done ++ l ∷ []) after
begun_more {bs} {done} {rest} l after b n e = record {
  whole = b.whole ∙ line_more done l rest after e;
  lines = recursion_from_All NoEnd (done ++ l ∷ [])
      (All-push NoEnd done l (All-from_recursion NoEnd done b.lines) n);
}

-- some schedule has the lines `done` and a line more, with which `rest` begins
pub record Next (done : List (List ℕ)) (rest : List ℕ) : Type 0 where
  pub sizes : SizeLines
  pub events : List Event
  pub after : List ℕ
  pub sound : Sound sizes events
  pub enough : length done < length (lines_of sizes events)
  pub same : take (length done) (lines_of sizes events) ≡ done
  pub goes : rest ≡ get_or (lines_of sizes events) (length done) [] ++ (10 ∷ after)

-- the text of one line among several
one_line : (L : List (List ℕ)) (n : ℕ) (after : List ℕ) → n < length L
    → text_of (drop n (take (n + 1) L)) ++ after ≡ get_or L n [] ++ (10 ∷ after)
one_line L n after lt =
    ap (λ x. text_of x ++ after) (drop-take n 1 L ∙ ap (take 1) (drop_more L n [] lt))
    ∙ append_assoc (get_or L n []) (10 ∷ []) after

-- a text that begins with one more line of a schedule than are known goes on with that line
pub next_of : {bs : List ℕ} {done : List (List ℕ)} {rest : List ℕ} (s : SizeLines) (es : List Event) (after : List ℕ)
    → Begun bs done rest → Sound s es → length done < length (lines_of s es)
    → bs ≡ text_of (take (length done + 1) (lines_of s es)) ++ after
    → (take (length done) (lines_of s es) ≡ done) × (rest ≡ get_or (lines_of s es) (length done) [] ++ (10 ∷ after))
next_of {bs} {done} {rest} s es after b sound lt e =
    let L = lines_of s es in
    let n = length done in
    let long = length-take-le (n + 1) L (omega arith) in
    let lines = All-take NoEnd (n + 1) L (All-from_recursion NoEnd L (no_ends s es sound)) in
    let k = peel done (take (n + 1) L) rest after b.lines (recursion_from_All NoEnd (take (n + 1) L) lines)
    (omega arith)
    (sym b.whole ∙ e) in
    (sym (take-take n (n + 1) L (omega arith)) ∙ k.0, k.1 ∙ one_line L n after lt)

-- the same of some schedule
pub fits_next : {bs : List ℕ} {done : List (List ℕ)} {rest : List ℕ} → Begun bs done rest → Fits (length done + 1) bs
    → Next done rest
fits_next {bs} {done} {rest} b f =
    let le : length done + 1 ≤ length (lines_of f.sizes f.events) = f.enough in
    let k = next_of f.sizes f.events f.after b f.sound (omega arith) f.whole in
    record {
      sizes = f.sizes;
      events = f.events;
      after = f.after;
      sound = f.sound;
      enough = omega arith;
      same = k.0;
      goes = k.1;
    }

-- the next line is the first at which the text stops being that of a schedule
pub stops : {bs : List ℕ} {done : List (List ℕ)} {rest : List ℕ} (line : ℕ) → line ≡ length done + 1
    → Begun bs done rest
    → Fits (length done) bs → (Next done rest → ⊥) → StopsAt line bs
stops {bs} {done} {rest} line is b f none =
    record { before = length done; next = is; fits = f; none = λ g. none (fits_next b g) }

-- lines of two numbers that begin one text are the same
pub same_number : (bs a b : List ℕ) (n m : ℕ) → NumberLine bs n a → NumberLine bs m b → (n ≡ m) × (a ≡ b)
same_number bs a b n m p q =
    let x = p.small in
    let y = q.small in
    let cut = one_cut (decimal n) a (decimal m) b (no_end_decimal n x) (no_end_decimal m y)
    (sym p.whole ∙ q.whole) in
    (decimal_injective n m (omega arith) (omega arith) cut.0, cut.1)
