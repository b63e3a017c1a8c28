-- Cells and cards as functions: the proofs speak of the standing values f, the transactions t and the stages S.
use Rattle.std.proofs.Common.{◌≡◌, ℕ, cond, eqb, ◌⊎◌, sym, refl, subst, inl, inr}
use Rattle.std.proofs.lemmas.Bool.{cases_eq, eq-eqb, ne_eqb}
pub use Rattle.memory.proofs.Isolation.{clash}
use Rattle.stages.specs.declared.layout.Field.TheVariants.{Next, Prev, State, Spin}
use Rattle.stages.specs.Layout.{node_cell}

-- the four cells of a node
abbrev pub next : ℕ → ℕ
next n = node_cell n Next

abbrev pub prev : ℕ → ℕ
prev n = node_cell n Prev

abbrev pub state : ℕ → ℕ
state n = node_cell n State

abbrev pub spin : ℕ → ℕ
spin n = node_cell n Spin

-- a function changed at one place
abbrev pub at : {A : Type 0} → (ℕ → A) → ℕ → A → ℕ → A
at f a v x = cond (eqb x a) v (f x)

-- the changed place
pub at_same : {A : Type 0} (f : ℕ → A) (a : ℕ) (v : A) → at f a v a ≡ v
at_same f a v = rw (eq-eqb a a refl)

-- every other place
pub at_other : {A : Type 0} (f : ℕ → A) (a : ℕ) (v : A) (x : ℕ) → (x ≡ a → ⊥) → at f a v x ≡ f x
at_other f a v x h = rw (ne_eqb x a h)

-- a fact of all places after a change at one
pub at_all : {A : Type 0} (P : ℕ → A → Type 0) (f : ℕ → A) (c : ℕ) (u : A)
    → P c u → ((d : ℕ) → (d ≡ c → ⊥) → P d (f d)) → (d : ℕ) → P d (at f c u d)
at_all {A} P f c u here there d = go (cases_eq d c)
  where
    go : (d ≡ c) ⊎ (d ≡ c → ⊥) → P d (at f c u d)
    go (inl p) = subst (λ (x : ℕ). P x (at f c u x)) (sym p) (rw (at_same f c u) here)
    go (inr p) = rw (at_other f c u d p) (there d p)

-- the same of two functions changed at the same place
pub at_all2 : {A B : Type 0} (P : ℕ → A → B → Type 0) (f : ℕ → A) (g : ℕ → B) (c : ℕ) (u : A) (s : B)
    → P c u s → ((d : ℕ) → (d ≡ c → ⊥) → P d (f d) (g d)) → (d : ℕ) → P d (at f c u d) (at g c s d)
at_all2 {A} {B} P f g c u s here there d =
    at_all (λ (d : ℕ) (x : A). P d x (at g c s d)) f c u
    (rw (at_same g c s) here) (λ d p. rw (at_other g c s d p) (there d p)) d
