-- The size section, line by line: what is known after each line, and where it stops. Assumes nothing.
use Rattle.std.proofs.Common.{◌≡◌, ℕ, ◌≤◌, List, [], ◌∷◌, ◌++◌, length, take, IsErrAnd, Ok, Err, decimal, Result}
use Rattle.std.proofs.Common.{sym, refl, ◌∙◌, subst, arith, Bor}
use Rattle.textline.specs.declared.events.SizeLines.{SizeLines}
use Rattle.textline.specs.declared.faults.FormFault.{FormFault}
use Rattle.textline.specs.declared.faults.FormFault.TheVariants.{BadLine}
use Rattle.textline.specs.Lines.{NumberLine}
use Rattle.textline.specs.Numbers.{Small}
use Rattle.schedule.specs.Schedules.{lines_of, text_of, Fits, StopsAt}
use Rattle.schedule.specs.Sections.{TakesSizes}
use Rattle.textline.proofs.Ends.{no_end_decimal}
use Rattle.schedule.proofs.Fronts.{Begun, begun_none, begun_more, stops, same_number}

-- sizes of any three numbers
abbrev pub sized : ℕ → ℕ → ℕ → SizeLines
sized c n k = record { cards = c; nodes = n; counters = k }

-- no line of bs is that of a number
abbrev NoNumber : List ℕ → Type 0
NoNumber bs = (n : ℕ) (after : List ℕ) → NumberLine bs n after → ⊥

-- a text that begins with the first lines of a schedule without events
front : (bs rest : List ℕ) (c n k lines : ℕ) → Small (c ∷ n ∷ k ∷ []) → lines ≤ 5
    → bs ≡ text_of (take lines (lines_of (sized c n k) [])) ++ rest → Fits lines bs
front bs rest c n k lines small le e = record {
  sizes = sized c n k;
  events = [];
  after = rest;
  sound = record { sizes = small; few = omega arith; events = tt };
  enough = le;
  whole = e;
}

-- the first line is not `3`
pub stops_1 : (bs : List ℕ) → ((after : List ℕ) → NumberLine bs 3 after → ⊥) → StopsAt 1 bs
stops_1 bs none =
    stops {done = []} 1 (omega arith) (begun_none bs)
    (front bs bs 0 0 0 0 (omega arith, (omega arith, (omega arith, tt))) (omega arith) refl)
    (λ x. none x.after (record { small = omega arith; whole = x.goes }))

-- the first line is the line of another number
pub other_than_3 : (bs rest : List ℕ) (n : ℕ) → NumberLine bs n rest → (n ≡ 3 → ⊥) → StopsAt 1 bs
other_than_3 bs rest n h ne = stops_1 bs (λ after g. ne (same_number bs rest after n 3 h g).0)

module _ (bs r₁ : List ℕ) (h₁ : NumberLine bs 3 r₁) where
  begun_1 : Begun bs (decimal 3 ∷ []) r₁
  begun_1 = begun_more (decimal 3) r₁ (begun_none bs) (no_end_decimal 3 (omega arith)) h₁.whole

  -- the cards are missing
  pub stops_2 : NoNumber r₁ → StopsAt 2 bs
  stops_2 none =
      stops 2 (omega arith) begun_1
      (front bs r₁ 0 0 0 1 (omega arith, (omega arith, (omega arith, tt))) (omega arith) begun_1.whole)
      (λ x. none x.sizes.cards x.after (record { small = x.sound.sizes.0; whole = x.goes }))

  module _ (c : ℕ) (r₂ : List ℕ) (h₂ : NumberLine r₁ c r₂) where
    begun_2 : Begun bs (decimal 3 ∷ decimal c ∷ []) r₂
    begun_2 = begun_more (decimal c) r₂ begun_1 (no_end_decimal c h₂.small) h₂.whole

    -- the nodes are missing
    pub stops_3 : NoNumber r₂ → StopsAt 3 bs
    stops_3 none =
        stops 3 (omega arith) begun_2
        (front bs r₂ c 0 0 2 (h₂.small, (omega arith, (omega arith, tt))) (omega arith) begun_2.whole)
        (λ x. none x.sizes.nodes x.after (record { small = x.sound.sizes.1.0; whole = x.goes }))

    module _ (n : ℕ) (r₃ : List ℕ) (h₃ : NumberLine r₂ n r₃) where
      begun_3 : Begun bs (decimal 3 ∷ decimal c ∷ decimal n ∷ []) r₃
      begun_3 = begun_more (decimal n) r₃ begun_2 (no_end_decimal n h₃.small) h₃.whole

      -- the counters are missing
      pub stops_4 : NoNumber r₃ → StopsAt 4 bs
      stops_4 none =
          stops 4 (omega arith) begun_3
          (front bs r₃ c n 0 3 (h₂.small, (h₃.small, (omega arith, tt))) (omega arith) begun_3.whole)
          (λ x. none x.sizes.counters x.after (record { small = x.sound.sizes.1.1.0; whole = x.goes }))

-- the first line is `3`
pub opened : {bs rest : List ℕ} {n : ℕ} → NumberLine bs n rest → n ≡ 3 → NumberLine bs 3 rest
opened {bs} {rest} h is = subst (λ k. NumberLine bs k rest) is h

-- a fault that is passed on names the line where the text stops
pub fails_at : (bs : List ℕ) (r : Result (SizeLines × Bor (List ℕ)) FormFault) (f : FormFault) (line : ℕ)
    → IsErrAnd r (λ y. y ≡ f) → f ≡ BadLine line → length bs ≤ 65535 → line ≤ 4 → StopsAt line bs → TakesSizes bs r
fails_at bs (Ok x) f line e is short le stop = absurd e
fails_at bs (Err g) f line e is short le stop = subst (λ h. TakesSizes bs (Err h)) (sym (e ∙ is)) (short, le, stop)
