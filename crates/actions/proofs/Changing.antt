-- The entries of the members of a set, changed one after another. Assumes nothing.
use Rattle.std.proofs.Common.{◌≡◌, ℕ, List, [], sym, ap, ◌∙◌}
use Rattle.actions.specs.Memory.{change_each}

module _ {A : Type 0} (none : A) (place : ℕ → ℕ) (f : ℕ → A → A) where
  -- what is left to do on a list is what was to do on it at first
  abbrev pub Left : List ℕ → List ℕ → List A → List A → Type 0
  Left rest all xs was = change_each none place f rest xs ≡ change_each none place f all was

  -- nothing is left to do
  pub change_none : (rest all : List ℕ) (xs was : List A) → Left rest all xs was → rest ≡ [] → xs ≡ change_each none place f all was
  unfolding change_each
  change_none rest all xs was h e = ap (λ r. change_each none place f r xs) (sym e) ∙ h
