-- A schedule's text, one line after another. Assumes nothing.
use Rattle.std.proofs.Common.{◌≡◌, ℕ, ◌+◌, ◌<◌, ◌≤◌, List, [], ◌∷◌, ◌++◌, map, length, get_or, take, decimal, sym}
use Rattle.std.proofs.Common.{refl, ap, ◌∙◌, append_assoc, arith}
use Rattle.std.proofs.lemmas.Fmt.{decimal_digit}
use Rattle.std.proofs.lemmas.List.{map_more, take_all}
use Rattle.textline.specs.declared.events.Event.{Event}
use Rattle.textline.specs.declared.events.SizeLines.{SizeLines}
use Rattle.textline.specs.Events.{written}
use Rattle.schedule.specs.Schedules.{text_of, rendered}
use Rattle.formtext.specs.Heads.{head_text}

-- one line more at the end
text_push : (ls : List (List ℕ)) (l : List ℕ) → text_of (ls ++ l ∷ []) ≡ text_of ls ++ (l ++ (10 ∷ []))
text_push [] l = refl
text_push (x ∷ ls) l =
    ap (λ t. x ++ (10 ∷ t)) (text_push ls l) ∙ sym (append_assoc x (10 ∷ text_of ls) (l ++ (10 ∷ [])))

-- the line of one event more
pub events_more : (start out next : List ℕ) (es : List Event) (i : ℕ) (d : Event) → i < length es
    → out ≡ start ++ text_of (map written (take i es)) → next ≡ out ++ (written (get_or es i d) ++ (10 ∷ []))
    → next ≡ start ++ text_of (map written (take (i + 1) es))
events_more start out next es i d lt inv pushed =
    let lines = map written (take i es) in
    pushed
    ∙ ap (λ l. l ++ (written (get_or es i d) ++ (10 ∷ []))) inv
    ∙ append_assoc start (text_of lines) (written (get_or es i d) ++ (10 ∷ []))
    ∙ ap (λ t. start ++ t) (sym (ap text_of (map_more written es i d lt) ∙ text_push lines (written (get_or es i d))))

-- the head and the lines of events are the lines of the schedule
head_is : (s : SizeLines) (count : ℕ) (rest : List (List ℕ)) → head_text s count ++ text_of rest
    ≡ text_of (decimal 3 ∷ decimal s.cards ∷ decimal s.nodes ∷ decimal s.counters ∷ decimal count ∷ rest)
head_is s count rest = rw (decimal_digit 3 (omega arith)) (simp append_assoc)

-- the lines of all events
pub events_all : (s : SizeLines) (start out : List ℕ) (es : List Event) (i : ℕ) → length es ≤ i
    → start ≡ head_text s (length es) → out ≡ start ++ text_of (map written (take i es)) → out ≡ rendered s es
events_all s start out es i le head inv =
    inv
    ∙ (λ j. head j ++ text_of (map written (take_all i es le j)))
    ∙ head_is s (length es) (map written es)
