-- What the search finds among writes.
use Rattle.std.proofs.Common.{◌≡◌, ℕ, List, get_or, Some, None, refl, ◌∙◌}
use Rattle.std.proofs.lemmas.Bool.{cond-true, cond-false}
use Rattle.memory.specs.declared.write.Write.{Write}
use Rattle.memory.specs.Meaning.{seek, value_in}
use Rattle.memory.proofs.Seeks.{found, none_found}

abbrev pub place : Write → ℕ
place w = w.cell

module _ (cell : ℕ) where
  -- the value of the write that is found is the one recorded for the cell
  pub found_value : (d : Write) (ws : List Write) (i : ℕ) → seek place cell 0 ws ≡ Some i
      → value_in ws cell ≡ Some (get_or ws i d).value
  found_value d =
      found place cell (λ ws i. value_in ws cell ≡ Some (get_or ws i d).value)
      (λ w ws q. cond-true _ _ _ q)
      (λ w ws j q h. cond-false _ _ _ q ∙ h)

  -- where no write is found, no value is recorded
  pub none_value : (k : ℕ) (ws : List Write) → seek place cell k ws ≡ None → value_in ws cell ≡ None
  none_value =
      none_found place cell (λ ws. value_in ws cell ≡ None) refl (λ w ws q h. cond-false _ _ _ q ∙ h)
