-- The ways out of a reading. Assumes nothing.
use Rattle.std.proofs.Common.{◌≡◌, ℕ, ◌≤◌, List, length, IsErrAnd, Ok, Err, vec_items, Result, sym, ◌∙◌, subst, arith}
use Rattle.textline.specs.declared.events.Event.{Event}
use Rattle.textline.specs.declared.events.SizeLines.{SizeLines}
use Rattle.textline.specs.declared.faults.FormFault.{FormFault}
use Rattle.textline.specs.declared.faults.FormFault.TheVariants.{TooLong, BadLine}
use Rattle.schedule.specs.Schedules.{Renders, RendersNone, StopsAt}
use Rattle.schedule.specs.Sections.{TakesSizes}
use Rattle.schedule.proofs.Once.{one_rendering}
use Rattle.schedule.proofs.Progress.{early_none}
use Rattle.formtext.specs.declared.faults.ReadFault.{ReadFault}
use Rattle.formtext.specs.declared.faults.ReadFault.TheVariants.{Memory, Form}
use Rattle.formtext.specs.declared.reading.Schedule.{Schedule}
use Rattle.formtext.specs.Reads.{Reads, GivesBack, ReadsWhole}

-- whatever schedule the text is of is the one that was read
gives_back : (bs : List ℕ) (r : Result Schedule ReadFault) → Reads bs r → (s : SizeLines) (es : List Event)
    → Renders bs s es → length bs ≤ 65535 → GivesBack s es r
gives_back bs (Ok v) h s es t le =
    one_rendering v.sizes s (vec_items v.events) es h.1.sound t.sound (sym h.1.text ∙ t.text)
gives_back bs (Err (Memory e)) h s es t le = tt
gives_back bs (Err (Form TooLong)) h s es t le = omega arith
gives_back bs (Err (Form (BadLine line))) h s es t le = h.2 s es t

-- what is read decides what comes back
pub whole : {bs : List ℕ} {r : Result Schedule ReadFault} → Reads bs r → ReadsWhole bs r
whole {bs} {r} h = record { reads = h; back = gives_back bs r h }

-- a fault in the size section
pub fails_sizes : (bs : List ℕ) (r : Result Schedule ReadFault) (f : FormFault) → IsErrAnd r (λ y. y ≡ Form f)
    → TakesSizes bs (Err f) → Reads bs r
fails_sizes bs (Ok v) f e t = absurd e
fails_sizes bs (Err g) TooLong e t = subst (λ h. Reads bs (Err h)) (sym e) t
fails_sizes bs (Err g) (BadLine line) e t =
    let early : line ≤ 5 = omega (arith, t.1) in
    subst (λ h. Reads bs (Err h)) (sym e) (t.0, t.2, early_none bs line t.2 early)

-- a fault at a later line
pub fails_at : (bs : List ℕ) (r : Result Schedule ReadFault) (f : FormFault) (line : ℕ) → IsErrAnd r (λ y. y ≡ Form f)
    → f ≡ BadLine line → length bs ≤ 65535 → StopsAt line bs → RendersNone bs → Reads bs r
fails_at bs (Ok v) f line e is le stop none = absurd e
fails_at bs (Err g) f line e is le stop none =
    subst (λ h. Reads bs (Err h)) (sym (e ∙ (λ i. Form (is i)))) (le, stop, none)
