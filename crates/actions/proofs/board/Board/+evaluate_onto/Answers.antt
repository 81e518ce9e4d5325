use Rattle.std.proofs.Common.{rules, refl, ap, ◌∙◌}
use Rattle.records.specs.declared.Operator.TheVariants.{Constant, Input, Read}
use Rattle.design.specs.Model.{owned}
use Rattle.actions.specs.Memory.{labeled}
use Rattle.actions.proofs.Evaluating.{closed, opened_as, as_applied, constant_worth, input_worth, read_worth, apply_worth}
use Rattle.actions.proofs.board.Board.+evaluate_onto.Goals as goal

pub returns-in_default-clause-value : goal.returns-in_default-clause-value
returns-in_default-clause-value g t c =
    let d = owned c.args.self.now.design.now.records in
    let m = (g.L.Lattice.model c.args.self.now.design.now.lattice).joins in
    constant_worth d c.args.self.now.inputs.now c.args.memory.now.cells.now m c.args.level 0 _ (closed d c.args.bound c.args.e (search rules))

pub returns-in-Constant-clause-value : goal.returns-in-Constant-clause-value
returns-in-Constant-clause-value g t c =
    let d = owned c.args.self.now.design.now.records in
    let m = (g.L.Lattice.model c.args.self.now.design.now.lattice).joins in
    constant_worth d c.args.self.now.inputs.now c.args.memory.now.cells.now m c.args.level c.expression-expression.result.a _
    (opened_as d c.args.bound c.in-Some.n c.args.e c.expression-expression.result Constant (search rules) (search rules) c.in-Constant.is)

pub returns-in-Input-clause-value : goal.returns-in-Input-clause-value
returns-in-Input-clause-value g t c =
    let d = owned c.args.self.now.design.now.records in
    let m = (g.L.Lattice.model c.args.self.now.design.now.lattice).joins in
    input_worth d c.args.self.now.inputs.now c.args.memory.now.cells.now m c.args.level c.expression-expression.result.a _ _ _
    (opened_as d c.args.bound c.in-Some.n c.args.e c.expression-expression.result Input (search rules) (search rules) c.in-Input.is)
    c.input.ensures c.onto.ensures.value

pub returns-in-Read-clause-value : goal.returns-in-Read-clause-value
returns-in-Read-clause-value g t c =
    let d = owned c.args.self.now.design.now.records in
    let m = (g.L.Lattice.model c.args.self.now.design.now.lattice).joins in
    read_worth d c.args.self.now.inputs.now c.args.memory.now.cells.now m c.args.level c.expression-expression.result.a _ _ c.evaluate_onto-index.result c.cell.result _
    (opened_as d c.args.bound c.in-Some.n c.args.e c.expression-expression.result Read (search rules) (search rules) c.in-Read.is)
    (search rules) (search rules) c.onto-in-Read.ensures.value

pub returns-in_default-op-clause-value : goal.returns-in_default-op-clause-value
returns-in_default-op-clause-value g t c =
    let d = owned c.args.self.now.design.now.records in
    let m = (g.L.Lattice.model c.args.self.now.design.now.lattice).joins in
    let x = c.expression-expression.result in
    ap (λ v. labeled v c.evaluate_onto-right.result.level) c.apply.ensures
    ∙ apply_worth d c.args.self.now.inputs.now c.args.memory.now.cells.now m c.args.level x.op _ _ _ c.evaluate_onto-left.result c.evaluate_onto-right.result
    (opened_as d c.args.bound c.in-Some.n c.args.e x x.op (search rules) (search rules) refl ∙ as_applied _ _ _ c.in_default-op.not-Constant c.in_default-op.not-Input c.in_default-op.not-Read)
    (search rules) (search rules)
