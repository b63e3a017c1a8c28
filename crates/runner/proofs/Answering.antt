-- The answers of calls in turn and their lines, one call after another. Assumes nothing.
use Rattle.std.proofs.Common.{◌≡◌, ℕ, suc, ◌+◌, List, [], ◌∷◌, ◌++◌, length, Result, sym, refl, ap, ◌∙◌}
use Rattle.std.proofs.Common.{append_assoc, append-nil, add-zero, arith}
use Rattle.std.proofs.lemmas.List.{map-append, length-map}
use Rattle.stages.specs.declared.answer.Answer.{Answer}
use Rattle.lock.specs.Lock.{Size}
use Rattle.door.specs.declared.fault.DoorFault.{DoorFault}
use Rattle.door.specs.declared.call.Call.{Call}
use Rattle.door.specs.Door.{DoorState, new_door, called, ran, answers}
use Rattle.textline.specs.declared.events.Event.{Event}
use Rattle.report.specs.Texts.{answer_line}
use Rattle.runner.specs.Calls.{call_of_event, calls_of}
use Rattle.runner.specs.Prints.{answer_lines, answered}

-- the answers with one call more
answers_push : (z : Size) (s : DoorState) (cs : List Call) (k : Call)
    → answers z s (cs ++ k ∷ []) ≡ answers z s cs ++ (called z (ran z s cs) k).0 ∷ []
answers_push z s [] k = refl
answers_push z s (c ∷ cs) k = ap (λ l. (called z s c).0 ∷ l) (answers_push z (called z s c).1 cs k)

-- the state after one call more
ran_push : (z : Size) (s : DoorState) (cs : List Call) (k : Call)
    → ran z s (cs ++ k ∷ []) ≡ (called z (ran z s cs) k).1
ran_push z s [] k = refl
ran_push z s (c ∷ cs) k = ran_push z (called z s c).1 cs k

-- there are as many answers as calls
answers_count : (z : Size) (s : DoorState) (cs : List Call) → length (answers z s cs) ≡ length cs
answers_count z s [] = refl
answers_count z s (c ∷ cs) = ap suc (answers_count z (called z s c).1 cs)

-- the lines with one answer more
lines_push : (k : ℕ) (rs : List (Result Answer DoorFault)) (r : Result Answer DoorFault)
    → answer_lines k (rs ++ r ∷ []) ≡ answer_lines k rs ++ answer_line (k + length rs) r
lines_push k [] r = append-nil (answer_line k r) ∙ ap (λ n. answer_line n r) (sym (add-zero k))
lines_push k (x ∷ rs) r =
    let at : k + 1 + length rs ≡ k + suc (length rs) = omega arith in
    ap (λ l. answer_line k x ++ l)
    (lines_push (k + 1) rs r ∙ ap (λ n. answer_lines (k + 1) rs ++ answer_line n r) at)
    ∙ sym (append_assoc (answer_line k x) (answer_lines (k + 1) rs) (answer_line (k + suc (length rs)) r))

-- the calls with one event more
pub calls_push : (es : List Event) (e : Event) → calls_of (es ++ e ∷ []) ≡ calls_of es ++ call_of_event e ∷ []
calls_push es e = map-append call_of_event es (e ∷ [])

-- the state after one event more
pub state_push : (z : Size) (es : List Event) (e : Event)
    → ran z new_door (calls_of (es ++ e ∷ [])) ≡ (called z (ran z new_door (calls_of es)) (call_of_event e)).1
state_push z es e = ap (ran z new_door) (calls_push es e) ∙ ran_push z new_door (calls_of es) (call_of_event e)

-- what is answered with one event more
pub answered_push : (z : Size) (es : List Event) (e : Event) (n : ℕ) → n ≡ length es + 1
    → answered z (es ++ e ∷ [])
    ≡ answered z es ++ answer_line n (called z (ran z new_door (calls_of es)) (call_of_event e)).0
answered_push z es e n is =
    let cs = calls_of es in
    let r = (called z (ran z new_door cs) (call_of_event e)).0 in
    let at : 1 + length (answers z new_door cs) ≡ n =
    omega (arith, is, answers_count z new_door cs, length-map es call_of_event) in
    ap (answer_lines 1) (ap (answers z new_door) (calls_push es e) ∙ answers_push z new_door cs (call_of_event e))
    ∙ lines_push 1 (answers z new_door cs) r ∙ ap (λ k. answered z es ++ answer_line k r) at
