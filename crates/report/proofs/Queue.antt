-- The queue line, one node after another. Assumes nothing.
use Rattle.std.proofs.Common.{◌≡◌, ℕ, ◌+◌, ◌<◌, List, [], ◌∷◌, ◌++◌, length, get_or, take, codes, decimal, sym}
use Rattle.std.proofs.Common.{ap, ◌∙◌, append-nil}
use Rattle.std.proofs.lemmas.List.{take_more}
use Rattle.textline.specs.Numbers.{spelled}
use Rattle.textline.proofs.Fields.{spelled_push}

-- one number more at the end
one_more : (ns : List ℕ) (n : ℕ) → spelled (ns ++ (n ∷ [])) ≡ spelled ns ++ (32 ∷ decimal n)
one_more ns n = simp append-nil at (spelled_push ns n [])

-- one node more
pub queue_more : (out now nodes : List ℕ) (i : ℕ) → i < length nodes → out ≡ codes "queue" ++ spelled (take i nodes)
    → now ≡ out ++ (32 ∷ decimal (get_or nodes i 0)) → now ≡ codes "queue" ++ spelled (take (i + 1) nodes)
queue_more out now nodes i lt inv pushed =
    pushed ∙ ap (λ l. l ++ (32 ∷ decimal (get_or nodes i 0))) inv ∙ ap (λ l. codes "queue" ++ l)
    (sym (ap spelled (take_more nodes i 0 lt) ∙ one_more (take i nodes) (get_or nodes i 0)))
