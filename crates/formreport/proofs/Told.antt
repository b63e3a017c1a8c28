-- What is told of a text, piece by piece. Assumes nothing.
use Rattle.std.proofs.Common.{◌≡◌, ℕ, suc, ◌+◌, ◌<◌, ◌≤◌, List, [], ◌∷◌, ◌++◌, length, IsErrAnd, Ok, Err, Result, sym}
use Rattle.std.proofs.Common.{refl, ap, ◌∙◌, subst, append_assoc, append-nil, add-zero, arith}
use Rattle.std.proofs.lemmas.List.{length_push}
use Rattle.textline.specs.declared.events.Event.{Event}
use Rattle.textline.specs.declared.events.SizeLines.{SizeLines}
use Rattle.textline.specs.declared.faults.FormFault.{FormFault}
use Rattle.textline.specs.declared.faults.FormFault.TheVariants.{TooLong, BadLine}
use Rattle.textline.specs.Lines.{NumberLine, EventLine}
use Rattle.schedule.specs.Sections.{SizeSection, TakesSizes}
use Rattle.schedule.proofs.Progress.{Progress, progress_none, progress_more, progress_all, same_sizes}
use Rattle.schedule.proofs.Progress.{count_stops, event_stops, event_none, end_stops, end_none}
use Rattle.formtext.specs.declared.faults.ReadFault.{ReadFault}
use Rattle.formtext.specs.declared.faults.ReadFault.TheVariants.{Memory, Form}
use Rattle.formreport.specs.Accounts.{Before, Tells, Verdict, Accounts}
use Rattle.formreport.specs.Accounts.Accounts.{refused, accepted}
use Rattle.formreport.specs.Accounts.Before.{long, unsized, uncounted, stopped}
use Rattle.formwords.specs.Words.{sizes_line, count_line, event_line, event_lines}

-- one event more at the end
lines_push : (line : ℕ) (done : List Event) (e : Event)
    → event_lines line (done ++ e ∷ []) ≡ event_lines line done ++ event_line (line + length done) e
lines_push line [] e = append-nil (event_line line e) ∙ ap (λ k. event_line k e) (sym (add-zero line))
lines_push line (x ∷ done) e =
    let at : line + 1 + length done ≡ line + suc (length done) = omega arith in
    ap (λ l. event_line line x ++ l)
    (lines_push (line + 1) done e ∙ ap (λ k. event_lines (line + 1) done ++ event_line k e) at)
    ∙ sym (append_assoc (event_line line x) (event_lines (line + 1) done) (event_line (line + suc (length done)) e))

-- one piece
pub pushed : (first one x a : List ℕ) → one ≡ first ++ x → x ≡ a → one ≡ first ++ a
pushed first one x a p q = p ∙ ap (λ l. first ++ l) q

-- two pieces, one after the other
pub opening : (first one two x y a b : List ℕ) → one ≡ first ++ x → x ≡ a → two ≡ one ++ y → y ≡ b
    → two ≡ first ++ (a ++ b)
opening first one two x y a b p q r s =
    r ∙ (λ i. (p ∙ ap (λ l. first ++ l) q) i ++ s i) ∙ append_assoc first a b

-- all that is told of a schedule
abbrev told_of : SizeLines → List Event → List ℕ
told_of s es = sizes_line s ++ (count_line (length es) ++ event_lines 6 es)

-- a fault of the form is passed on
pub fails : (start bs now told : List ℕ) (r : Result (Unit {0}) ReadFault) (f : FormFault)
    → IsErrAnd r (λ y. y ≡ Form f) → now ≡ start ++ told → Before bs told f → Tells start bs now r
fails start bs now told (Ok u) f e is b = absurd e
fails start bs now told (Err g) f e is b = subst (λ h. Tells start bs now (Err h)) (sym e) (told, is, b)

-- nothing is told of a text whose size section is at fault
pub before_sizes : (bs : List ℕ) (f : FormFault) → TakesSizes bs (Err f) → Before bs [] f
before_sizes bs TooLong t = long t
before_sizes bs (BadLine line) t = unsized line t.0 t.1 t.2

-- the sizes are told where the count is at fault
pub before_count : (bs head : List ℕ) (s : SizeLines) (f : FormFault) → length bs ≤ 65535 → SizeSection bs s head
    → f ≡ BadLine 5
    → ((n : ℕ) (after : List ℕ) → n ≤ 2000 → NumberLine head n after → ⊥) → Before bs (sizes_line s) f
before_count bs head s f short section is none =
    subst (Before bs (sizes_line s)) (sym is) (uncounted s head short section (count_stops bs head s section none))

-- `index` events of bs are told, and `rest` follows them
pub record Telling (bs start now : List ℕ) (count index : ℕ) (rest : List ℕ) : Type 0 where
  pub sizes : SizeLines
  pub done : List Event
  pub reached : length done ≡ index
  pub progress : Progress bs sizes count done rest
  pub told : now ≡ start ++ event_lines 6 done

-- before the first event
pub telling_none : (bs start head body : List ℕ) (s : SizeLines) (count : ℕ) → SizeSection bs s head → count ≤ 2000
    → NumberLine head count body → Telling bs start start count 0 body
telling_none bs start head body s count section few counted = record {
  sizes = s;
  done = [];
  reached = refl;
  progress = progress_none bs head body s count section few counted;
  told = sym (append-nil start);
}

module _ {bs start now : List ℕ} {count index : ℕ} {rest : List ℕ} (t : Telling bs start now count index rest) where
  -- one event more is told
  pub telling_more : (next piece after : List ℕ) (line : ℕ) (e : Event) → index < count → EventLine rest e after
      → next ≡ now ++ piece → piece ≡ event_line line e → line ≡ 6 + index
      → Telling bs start next count (index + 1) after
  telling_more next piece after line e lt h pushed is at =
      let reached = t.reached in
      let here : line ≡ 6 + length t.done = omega arith in
      record {
        sizes = t.sizes;
        done = t.done ++ e ∷ [];
        reached = omega (arith, length_push t.done e);
        progress = progress_more e after t.progress (omega arith) h;
        told = pushed ∙ (λ i. t.told i ++ (is ∙ ap (λ k. event_line k e) here) i)
            ∙ append_assoc start (event_lines 6 t.done) (event_line (6 + length t.done) e)
            ∙ ap (λ l. start ++ l) (sym (lines_push 6 t.done e));
      }

  module _ (first head : List ℕ) (s : SizeLines) (short : length bs ≤ 65535) (section : SizeSection bs s head)
      (opened : start ≡ first ++ (sizes_line s ++ count_line count)) where
    -- the sizes that were read are those of the text
    progress_here : Progress bs s count t.done rest
    progress_here =
        subst (λ x. Progress bs x count t.done rest)
        (same_sizes bs _ head t.sizes s t.progress.section section) t.progress

    -- all that is told so far
    all_told : now ≡ first ++ (sizes_line s ++ (count_line count ++ event_lines 6 t.done))
    all_told =
        t.told ∙ ap (λ l. l ++ event_lines 6 t.done) opened
        ∙ append_assoc first (sizes_line s ++ count_line count) (event_lines 6 t.done)
        ∙ ap (λ l. first ++ l) (append_assoc (sizes_line s) (count_line count) (event_lines 6 t.done))

    -- the next line is that of no event
    pub stops_event : (r : Result (Unit {0}) ReadFault) (f : FormFault) → index < count → IsErrAnd r (λ y. y ≡ Form f)
        → f ≡ BadLine (6 + index) → ((e : Event) (after : List ℕ) → EventLine rest e after → ⊥) → Tells first bs now r
    stops_event r f lt e is none =
        let reached = t.reached in
        let more : length t.done < count = omega arith in
        let stop = event_stops progress_here (6 + index) (omega arith) more none in
        fails first bs now _ r f e all_told
        (subst (Before bs _) (sym is)
        (stopped s count t.done rest (6 + index) short progress_here.begun.whole (omega arith) stop
        (event_none progress_here (6 + index) (omega arith) more stop)))

    -- something follows the last event
    pub stops_end : (r : Result (Unit {0}) ReadFault) (f : FormFault) → index ≡ count → IsErrAnd r (λ y. y ≡ Form f)
        → f ≡ BadLine (6 + count) → (rest ≡ [] → ⊥) → Tells first bs now r
    stops_end r f last e is some =
        let reached = t.reached in
        let done : length t.done ≡ count = omega arith in
        fails first bs now _ r f e all_told
        (subst (Before bs _) (sym is)
        (stopped s count t.done rest (6 + count) short progress_here.begun.whole (omega arith)
        (end_stops progress_here done) (end_none progress_here done some)))

    -- the text ends with the last event
    pub tells_all : (u : Unit {0}) → index ≡ count → rest ≡ [] → Tells first bs now (Ok u)
    tells_all u last none =
        let reached = t.reached in
        let done : length t.done ≡ count = omega arith in (
          s,
          t.done,
          short,
          progress_all progress_here done none,
          all_told ∙ ap (λ n. first ++ (sizes_line s ++ (count_line n ++ event_lines 6 t.done))) (sym done),
        )

-- what is told and the verdict are the account
pub accounts : (bs start now out last : List ℕ) (r : Result (Unit {0}) ReadFault) → start ≡ [] → Tells start bs now r
    → Verdict r last → out ≡ now ++ last → Accounts bs out
accounts bs start now out last (Ok u) none t v is =
    subst (Accounts bs) (sym (is ∙ (λ i. (t.4 ∙ ap (λ l. l ++ told_of t.0 t.1) none) i ++ v i)))
    (accepted t.0 t.1 t.2 t.3)
accounts bs start now out last (Err (Form f)) none t v is =
    subst (Accounts bs) (sym (is ∙ (λ i. (t.1 ∙ ap (λ l. l ++ t.0) none) i ++ v i))) (refused t.0 f t.2)
accounts bs start now out last (Err (Memory e)) none t v is = absurd v
