-- Where the cells of registers are. Assumes nothing.
use Rattle.std.proofs.Common.{◌≡◌, ℕ, suc, ◌+◌, ◌%◌, ◌<◌, ◌≤◌, max, length, None, ⊎_elim, mod-lt, arith}
use Rattle.std.proofs.lemmas.Bool.{cases_lt}
use Rattle.rules.specs.Rules.{sizes, cells_below}
use Rattle.shape.specs.Shape.{Design, register_at}
use Rattle.design.proofs.Sums.{all_cells_few, cells_more, first_past}

module _ (d : Design) (sized : sizes d ≡ None) (exact : length d.registers ≡ d.head.registers) where
  first_few : (x : ℕ) → cells_below d x ≤ 1024
  first_few x =
      ⊎_elim (λ l. all_cells_few d sized x (omega arith)) (λ l. omega (arith, first_past d exact x l, all_cells_few d sized d.head.registers (omega arith)))
      (cases_lt x d.head.registers)

  -- the number of a cell is small
  pub slot_small : (x index base cells : ℕ) → base ≡ cells_below d x → cells ≡ max (register_at d x).cells 1 → base + index % cells < 4294967296
  slot_small x index base cells b c =
      let some : 0 < cells = omega arith in
      omega (arith, mod-lt index some, cells_more d x, first_few (suc x))
