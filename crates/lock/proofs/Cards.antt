-- Searches through the cards.
use Rattle.std.proofs.Common.{◌≡◌, ℕ, Bool, true, false, cond, not, List, [], ◌∷◌, ◌||◌, Option, Some, None}
use Rattle.std.proofs.Common.{MatchOption, Bor, refl, ap, ◌∙◌}
use Rattle.std.specs.List.{list_any, find}
use Rattle.std.specs.Option.{option_map}
use Rattle.stages.specs.declared.stage.Card.{Card}
use Rattle.memory.specs.Meaning.{Meaning}
use Rattle.lock.specs.Lock.{has_node, free}
use Rattle.lock.specs.Lines.{points, has_ahead, leads, line_link, first_link}

-- a disjunction by its first part
or_cond : (b c : Bool) → (b || c) ≡ cond b true c
or_cond true c = refl
or_cond false c = refl

-- its negation by its first part
not_or : (b c : Bool) → not (b || c) ≡ cond b false (not c)
not_or true c = refl
not_or false c = refl

-- a node is free where a search through the cards finds none that has it
pub none_has : (cs : List Card) (n : ℕ) → not (list_any (λ (r : Card). has_node r.stage n) cs) ≡ free cs n
none_has [] n = refl
none_has (r ∷ rs) n =
    not_or (has_node r.stage n) _ ∙ ap (λ (b : Bool). cond (has_node r.stage n) false b) (none_has rs n)

-- a card is ahead where a search through the cards finds one
pub any_ahead : (m : Meaning) (cs : List Card) (k : ℕ)
    → list_any (λ (r : Card). points m r.stage k) cs ≡ has_ahead m cs k
any_ahead m [] k = refl
any_ahead m (r ∷ rs) k =
    or_cond (points m r.stage k) _ ∙ ap (λ (b : Bool). cond (points m r.stage k) true b) (any_ahead m rs k)

-- the link of the card that was found, 0 where none was
found_link : Option Card → ℕ
found_link None = 0
found_link (Some r) = line_link r.stage

-- the link of one of two finds
link_cond : (b : Bool) (x y : Option Card) → found_link (cond b x y) ≡ cond b (found_link x) (found_link y)
unfolding found_link
link_cond true x y = refl
link_cond false x y = refl

-- the link of what a search for a leading card finds is that of the first in line
link_first : (m : Meaning) (all cs : List Card)
    → found_link (find (λ (r : Card). leads m all r.stage) cs) ≡ first_link m all cs
unfolding found_link
link_first m all [] = refl
link_first m all (r ∷ rs) =
    link_cond (leads m all r.stage) _ _
    ∙ ap (λ (k : ℕ). cond (leads m all r.stage) (line_link r.stage) k) (link_first m all rs)

-- the number that is the link of the card found, 0 where none was, is the link of the first in line
pub first_found : (m : Meaning) (all cs : List Card) (o : Option (Bor Card)) (n : ℕ) (Q : Bor Card → Type 0)
    → option_map (λ (y : Bor Card). y.now) o ≡ find (λ (r : Card). leads m all r.stage) cs
    → ((y : Bor Card) → Q y → n ≡ line_link y.now.stage)
    → MatchOption o (n ≡ 0) Q → n ≡ first_link m all cs
unfolding found_link
first_found m all cs None n Q e h p = p ∙ ap found_link e ∙ link_first m all cs
first_found m all cs (Some y) n Q e h p = h y p ∙ ap found_link e ∙ link_first m all cs
