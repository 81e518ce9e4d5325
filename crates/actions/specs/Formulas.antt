-- Expressions: what they are worth, and at which level. Assumes nothing.
use Rattle.std.specs.Prelude.{ℕ, cond, List, [], ◌∷◌, ◌++◌, Some, None, Option, nat_lt, slice_index_or}
use Rattle.lattice.specs.Folds.{joined}
use Rattle.lattice.specs.Model.{Joins}
use Rattle.records.specs.declared.Expression.{Expression}
use Rattle.records.specs.declared.Labeled.{Labeled}
use Rattle.records.specs.declared.Operator.{Operator}
use Rattle.records.specs.declared.Operator.TheVariants.{Constant, Input, Read, Add, Subtract, And, Or, Xor, ShiftLeft, ShiftRight, Equal, Less}
use Rattle.shape.specs.Rank.{ranked}
use Rattle.shape.specs.Shape.{Design, port_at, expression_at}
use Rattle.actions.specs.Memory.{no_cell, labeled, slot}
use Rattle.actions.specs.Values.{applied, cut}

-- An expression as a tree.
pub data Formula : Type 0 where
  constant : ℕ → Formula
  input : ℕ → Formula
  read : ℕ → Formula → Formula
  apply : Operator → Formula → Formula → Formula

-- no index, as that of a register of one cell, counts as a constant 0
abbrev pub operand : (ℕ → Formula) → Option ℕ → Formula
operand formula None = constant 0
operand formula (Some n) = formula n

abbrev pub applied_as : (ℕ → Formula) → Expression → Formula
applied_as formula x = apply x.op (operand formula (Some x.a)) (operand formula x.b)

-- the first three operators have no operands but an index
abbrev pub formula_as : Operator → (ℕ → Formula) → Expression → Formula
formula_as Constant formula x = constant x.a
formula_as Input formula x = input x.a
formula_as Read formula x = read x.a (operand formula x.b)
formula_as Add formula x = applied_as formula x
formula_as Subtract formula x = applied_as formula x
formula_as And formula x = applied_as formula x
formula_as Or formula x = applied_as formula x
formula_as Xor formula x = applied_as formula x
formula_as ShiftLeft formula x = applied_as formula x
formula_as ShiftRight formula x = applied_as formula x
formula_as Equal formula x = applied_as formula x
formula_as Less formula x = applied_as formula x

abbrev pub formula_node : Design → (ℕ → Formula) → ℕ → Formula
formula_node d formula n = formula_as (expression_at d n).op formula (expression_at d n)

-- operands have smaller numbers than their expression
abbrev pub formula_at : Design → ℕ → Formula
formula_at d = ranked (λ n. n) (constant 0) (formula_node d)

abbrev pub formula_of : Design → Option ℕ → Formula
formula_of d = operand (formula_at d)

-- an expression below a number; any other counts as a constant 0
abbrev pub formula_below : Design → ℕ → ℕ → Formula
formula_below d bound n = cond (nat_lt n bound) (formula_at d n) (constant 0)

abbrev pub named_below : ℕ → Option ℕ → Option ℕ
named_below bound None = None
named_below bound (Some n) = cond (nat_lt n bound) (Some n) None

module _ (d : Design) (inputs cells : List (Labeled ℕ)) where
  abbrev pub input_at : ℕ → Labeled ℕ
  input_at p = slice_index_or inputs p no_cell

  abbrev pub read_at : ℕ → ℕ → Labeled ℕ
  read_at x index = slice_index_or cells (slot d x index) no_cell

  -- an input is cut to the width of its port
  unfoldable pub value_of : Formula → ℕ
  value_of (constant n) = n
  value_of (input p) = cut (port_at d p).width (input_at p).value
  value_of (read x index) = (read_at x (value_of index)).value
  value_of (apply op a b) = applied op (value_of a) (value_of b)

  -- the levels of its leaves: of the inputs and cells that it reads, and of those that an index reads
  unfoldable pub leaf_levels : Formula → List ℕ
  leaf_levels (constant n) = []
  leaf_levels (input p) = (input_at p).level ∷ []
  leaf_levels (read x index) = leaf_levels index ++ (read_at x (value_of index)).level ∷ []
  leaf_levels (apply op a b) = leaf_levels a ++ leaf_levels b

  abbrev pub level_of : Joins → Formula → ℕ
  level_of m f = joined m (leaf_levels f)

  abbrev pub evaluated : Joins → Formula → Labeled ℕ
  evaluated m f = labeled (value_of f) (level_of m f)
