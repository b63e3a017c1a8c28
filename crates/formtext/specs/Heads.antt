-- The lines of a schedule before its events. Assumes nothing.
use Rattle.std.specs.Prelude.{ℕ, List, [], ◌∷◌, ◌++◌, codes, decimal}
use Rattle.textline.specs.declared.events.SizeLines.{SizeLines}

-- `3`, the sizes and the count of events, each with its line end
abbrev pub head_text : SizeLines → ℕ → List ℕ
head_text s count =
    codes "3\n" ++ (decimal s.cards ++ (10 ∷ (decimal s.nodes ++
    (10 ∷ (decimal s.counters ++ (10 ∷ (decimal count ++ (10 ∷ []))))))))
