-- Turns of the loop of the line call.
use Rattle.std.proofs.Common.{◌≡◌, ℕ, zero, suc, ◌+◌, ◌-◌, ◌<◌, ◌≤◌, List, [], ◌∷◌, ◌++◌, length}
use Rattle.std.proofs.Common.{take, drop, set, replicate, sym, refl, ap, ◌∙◌, append_assoc, append-nil}
use Rattle.std.proofs.Common.{add-one, arith, length-set, drop-cons}
use native.Mathlib.Numerals.{unary_clauses}
use Rattle.std.proofs.lemmas.List.{take_more_set, drop-set-lt, take-append-drop}
use Rattle.std.proofs.lemmas.List.{length-take-le}
use Rattle.memory.specs.Meaning.{Meaning}
use Rattle.lock.specs.Lines.{behind, walk, placed}

-- the place so far: k nodes of the line are in it, the rest is 0, and the line goes on at the link
pub record Filling (m : Meaning) (line : List ℕ) (k link : ℕ) (place : List ℕ) : Type 0 where
  pub size : length place ≡ 8
  pub within : k ≤ 8
  pub done : take k place ++ walk m (8 - k) link ≡ line
  pub rest : drop k place ≡ replicate (8 - k) 0

-- an empty place
pub filling_start : (m : Meaning) (link : ℕ) → Filling m (walk m 8 link) 0 link (replicate 8 0)
filling_start m link = record { size = refl; within = omega arith; done = refl; rest = refl }

-- a walk from a link of somebody
walk_more : (m : Meaning) (f k : ℕ) → (k ≡ 0 → ⊥) → walk m (suc f) k ≡ (k - 1) ∷ walk m f (behind m k)
unfolding walk
walk_more m f zero ne = absurd (ne refl)
walk_more m f (suc n) ne = simp unary_clauses

-- a walk from the link of nobody
walk_nobody : (m : Meaning) (f k : ℕ) → k ≡ 0 → walk m f k ≡ []
unfolding walk
walk_nobody m zero k e = refl
walk_nobody m (suc f) zero e = refl
walk_nobody m (suc f) (suc n) e = absurd (omega arith)

-- a walk with no places left
walk_full : (m : Meaning) (f k : ℕ) → f ≡ 0 → walk m f k ≡ []
unfolding walk
walk_full m zero k e = refl
walk_full m (suc f) k e = absurd (omega arith)

-- the first of a rest of zeros taken off
rest_more : (xs : List ℕ) (i n : ℕ) → i < length xs → drop i xs ≡ replicate (suc n) 0 → drop (i + 1) xs ≡ replicate n 0
rest_more xs i n lt e = let d = drop-cons xs i 0 lt in rw add-one (cc)

-- one node put in place
pub filling_turn : (m : Meaning) (line : List ℕ) (k link next : ℕ) (place : List ℕ)
    → k < 8 → (link ≡ 0 → ⊥) → next ≡ behind m link → Filling m line k link place
    → Filling m line (k + 1) next (set place k (link - 1))
filling_turn m line k link next place lt ne b f =
    let e : 8 - k ≡ suc (8 - (k + 1)) = omega arith in
    let lt' : k < length place = omega arith in
    let w = walk_more m (8 - (k + 1)) link ne in
    record {
      size = length-set place k (link - 1) ∙ f.size;
      within = omega arith;
      done = rw (b, take_more_set place k (link - 1) lt', append_assoc, ← w, ← e) f.done;
      rest =
          drop-set-lt (k + 1) place k (link - 1) (omega arith)
          ∙ rest_more place k (8 - (k + 1)) lt' (rw e at f.rest);
    }

-- what the loop leaves
pub record Filled (line : List ℕ) (k : ℕ) (place : List ℕ) : Type 0 where
  pub nodes : place ≡ placed line
  pub count : k ≡ length line

filled : (m : Meaning) (line : List ℕ) (k link : ℕ) (place : List ℕ)
    → walk m (8 - k) link ≡ [] → Filling m line k link place → Filled line k place
filled m line k link place e f =
    let d : take k place ≡ line = sym (append-nil (take k place)) ∙ rw e at f.done in
    let n : k ≡ length line = sym (length-take-le k place (omega arith)) ∙ ap length d in
    record { nodes = sym (take-append-drop k place) ∙ rw (f.rest, d, n); count = n }

-- the line is at its end
pub filled_short : (m : Meaning) (line : List ℕ) (k link : ℕ) (place : List ℕ)
    → link ≡ 0 → Filling m line k link place → Filled line k place
filled_short m line k link place e f = filled m line k link place (walk_nobody m (8 - k) link e) f

-- the place is full
pub filled_up : (m : Meaning) (line : List ℕ) (k link : ℕ) (place : List ℕ)
    → 8 ≤ k → Filling m line k link place → Filled line k place
filled_up m line k link place le f = filled m line k link place (walk_full m (8 - k) link (omega arith)) f
