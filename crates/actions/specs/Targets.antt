-- The cell that a set or a tag names. Assumes nothing.
use Rattle.std.specs.Prelude.{ℕ, List}
use Rattle.std.specs.Option.{unwrap_or}
use Rattle.lattice.specs.Model.{Joins}
use Rattle.records.specs.declared.Command.{Command}
use Rattle.records.specs.declared.Labeled.{Labeled}
use Rattle.shape.specs.Shape.{Design}
use Rattle.actions.specs.declared.commands.Target.{Target}
use Rattle.actions.specs.Formulas.{formula_of, evaluated}
use Rattle.actions.specs.Memory.{slot}

abbrev pub target : Joins → Design → List (Labeled ℕ) → Command → List (Labeled ℕ) → Target
target m d inputs command cells =
    let x : ℕ = unwrap_or command.x 0 in
    let index : Labeled ℕ = evaluated d inputs cells m (formula_of d command.i) in
    record { register = x; cell = slot d x index.value; level = index.level }
