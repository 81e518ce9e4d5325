use Rattle.std.proofs.Common.{ℕ, ap, add-one, arith}
use Rattle.std.proofs.lemmas.Grind.{common_steps}
use Rattle.std.proofs.lemmas.List.FromFn.{map-range_with_len_more}
use Rattle.rules.specs.Rules.{cells_below}
use Rattle.shape.specs.Shape.{Design}
use Rattle.shape.specs.View.{view}
use Rattle.design.proofs.Kept.{few_cells}
use Rattle.design.proofs.Sums.{cells_none, cells_more}
use Rattle.design.proofs.cells.work_out_firsts.Goals as goal

pub loop-register-init : goal.loop-register-init
loop-register-init c = grind (arith, common_steps, cells_none (view c.args.formed.tables))

pub overflow_add-first : goal.overflow_add-first
overflow_add-first c = omega (arith, few_cells (view c.args.formed.tables) c.args.formed.sized c.loop-register.register-index (omega arith))

pub loop-register-preserved : goal.loop-register-preserved
loop-register-preserved c =
    let d : Design = view c.args.formed.tables in
    let x : ℕ = c.loop-register.register-index in
    let listed = map-range_with_len_more (cells_below d) 0 x x (omega arith) in
    let next = ap (cells_below d) (add-one x) in
    let more = cells_more d x in
    let pushed = c.in_ok-push.ensures.items in
    (cc, cc)
