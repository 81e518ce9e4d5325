-- What a cycle changes: the cells and the pointers. Assumes nothing.
use Rattle.std.specs.Prelude.{ℕ, ◌+◌, ◌%◌, max, List, [], ◌∷◌, None, Option, slice_index_or, slice_set}
use Rattle.lattice.specs.Folds.{joined}
use Rattle.lattice.specs.Model.{Joins}
use Rattle.records.specs.declared.Labeled.{Labeled}
use Rattle.rules.specs.Rules.{cells_below}
use Rattle.shape.specs.Shape.{Design, register_at}

pub record Memory : Type 0 where
  pub cells : List (Labeled ℕ)
  pub pointers : List (Labeled (Option ℕ))

abbrev pub memory_of : List (Labeled ℕ) → List (Labeled (Option ℕ)) → Memory
memory_of cells pointers = record { cells = cells; pointers = pointers }

abbrev pub labeled : {A : Type 0} → A → ℕ → Labeled A
labeled value level = record { value = value; level = level }

abbrev pub no_cell : Labeled ℕ
no_cell = labeled 0 0

abbrev pub no_pointer : Labeled (Option ℕ)
no_pointer = labeled None 0

-- The cell of a register that an index names. The cells of all registers are in one list, in register order; an index counts
-- modulo the number of the register's cells, and no register has none.
abbrev pub slot : Design → ℕ → ℕ → ℕ
slot d x index = cells_below d x + index % max (register_at d x).cells 1

abbrev pub cell_at : Memory → ℕ → Labeled ℕ
cell_at memory j = slice_index_or memory.cells j no_cell

abbrev pub pointer_at : Memory → ℕ → Labeled (Option ℕ)
pointer_at memory s = slice_index_or memory.pointers s no_pointer

abbrev pub with_cells : List (Labeled ℕ) → Memory → Memory
with_cells cells memory = memory_of cells memory.pointers

abbrev pub with_pointers : List (Labeled (Option ℕ)) → Memory → Memory
with_pointers pointers memory = memory_of memory.cells pointers

abbrev pub put_cell : ℕ → Labeled ℕ → Memory → Memory
put_cell j cell memory = with_cells (slice_set memory.cells j cell) memory

-- One entry of a list, changed in its place; past the end there is nothing to change.
abbrev pub change : {A : Type 0} → A → ℕ → (A → A) → List A → List A
change none j f xs = slice_set xs j (f (slice_index_or xs j none))

-- The entries of the members of a set, each changed in its place, in turn.
unfoldable pub change_each : {A : Type 0} → A → (ℕ → ℕ) → (ℕ → A → A) → List ℕ → List A → List A
change_each none place f [] xs = xs
change_each none place f (t ∷ ts) xs = change_each none place f ts (change none (place t) (f t) xs)

-- raised by k: k is joined to the level, and the content stays
abbrev pub raised : {A : Type 0} → Joins → ℕ → Labeled A → Labeled A
raised m k slot = labeled slot.value (joined m (slot.level ∷ k ∷ []))
