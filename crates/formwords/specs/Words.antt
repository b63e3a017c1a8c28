-- The words of the form checker. Assumes nothing.
use Rattle.std.specs.Prelude.{ℕ, ◌+◌, List, [], ◌∷◌, ◌++◌, codes, decimal}
use Rattle.textline.specs.declared.events.Event.{Event}
use Rattle.textline.specs.declared.events.Event.TheVariants.{Read, Write, Leave, Add, Show, Step, Abort, Reuse}
use Rattle.textline.specs.declared.events.SizeLines.{SizeLines}

-- an event with a name before each of its numbers
abbrev pub event_words : Event → List ℕ
event_words (Read card toggle node) =
    codes "read card " ++ (decimal card ++ (codes " toggle " ++ (decimal toggle ++ (codes " node " ++ decimal node))))
event_words (Write card toggle node) =
    codes "write card " ++ (decimal card ++ (codes " toggle " ++ (decimal toggle ++ (codes " node " ++ decimal node))))
event_words (Leave card toggle) = codes "leave card " ++ (decimal card ++ (codes " toggle " ++ decimal toggle))
event_words (Add card toggle counter amount) =
    codes "add card "
    ++ (decimal card ++ (codes " toggle " ++ (decimal toggle
    ++ (codes " counter " ++ (decimal counter ++ (codes " amount " ++ decimal amount))))))
event_words (Show card toggle counter) =
    codes "show card " ++ (decimal card ++ (codes " toggle " ++
    (decimal toggle ++ (codes " counter " ++ decimal counter))))
event_words (Step card) = codes "step card " ++ decimal card
event_words (Abort card) = codes "abort card " ++ decimal card
event_words (Reuse card node next prev state spin) =
    codes "reuse card "
    ++ (decimal card ++ (codes " node " ++ (decimal node ++ (codes " next " ++ (decimal next
    ++ (codes " prev " ++ (decimal prev ++ (codes " state " ++
    (decimal state ++ (codes " spin " ++ decimal spin))))))))))

-- `sizes` and the cards, nodes and counters
abbrev pub sizes_line : SizeLines → List ℕ
sizes_line s =
    codes "sizes " ++ (decimal s.cards ++ (codes " " ++ (decimal s.nodes ++
    (codes " " ++ (decimal s.counters ++ (10 ∷ []))))))

-- `events` and how many there are to be
abbrev pub count_line : ℕ → List ℕ
count_line count = codes "events " ++ (decimal count ++ (10 ∷ []))

-- the number of an event's line, and the event's words
abbrev pub event_line : ℕ → Event → List ℕ
event_line line e = decimal line ++ (codes " " ++ (event_words e ++ (10 ∷ [])))

-- the lines of events one after another
abbrev pub event_lines : ℕ → List Event → List ℕ
event_lines line [] = []
event_lines line (e ∷ es) = event_line line e ++ event_lines (line + 1) es

-- the verdict on a text that is a schedule
abbrev pub whole_line : List ℕ
whole_line = codes "whole\n"
