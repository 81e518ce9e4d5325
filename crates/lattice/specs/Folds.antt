-- The join of a list of levels. Assumes nothing.
use Rattle.std.specs.Prelude.{◌≡◌, ℕ, true, List, fold}
use Rattle.std.specs.List.{AllByRecursion}
use Rattle.lattice.specs.Model.{Joins}

-- bottom, joined with each level in turn
abbrev pub joined : Joins → List ℕ → ℕ
joined m levels = fold m.join m.bottom levels

-- r is the least level to which every level of the list flows
pub record Least (m : Joins) (levels : List ℕ) (r : ℕ) : Type 0 where
  pub level : m.level r ≡ true
  pub above : AllByRecursion (λ a. m.flows a r ≡ true) levels
  pub least : (c : ℕ) → m.level c ≡ true → AllByRecursion (λ a. m.flows a c ≡ true) levels → m.flows r c ≡ true

abbrev pub Levels : Joins → List ℕ → Type 0
Levels m levels = AllByRecursion (λ a. m.level a ≡ true) levels
