-- The reports of a cycle in the table that was lent for them. Assumes nothing.
use Rattle.std.proofs.Common.{◌≡◌, ℕ, ◌≤◌, List, ◌++◌, length, take, drop, sym, ap, ◌∙◌, ap₂, take-append-drop, length-take-le}
use Rattle.records.specs.declared.Report.{Report}
use Rattle.machine.specs.Lending.{laid}

module _ (table after reports : List Report) (count : ℕ) (fits : count ≤ length after) (made : take count after ≡ reports) where
  pub count_is : count ≡ length reports
  count_is = sym (length-take-le count after fits) ∙ ap length made

  pub laid_is : drop count after ≡ drop count table → after ≡ laid reports table
  laid_is rest = sym (take-append-drop count after) ∙ ap₂ (λ x y. x ++ y) made (rest ∙ ap (λ n. drop n table) count_is)
