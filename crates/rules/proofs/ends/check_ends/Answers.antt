use Rattle.std.proofs.Common.{rules, ◌≡◌, false, get_or}
use mathlib.Core.Path.{fun_ext}
use Rattle.shape.specs.Shape.{ends_of}
use Rattle.shape.specs.View.{view}
use Rattle.rules.proofs.ends.check_ends.Goals as goal

pub returns-in_err-sweep : goal.returns-in_err-sweep
returns-in_err-sweep c =
    let e : (λ j. get_or c.work_out_ends-ends.result j false) ≡ ends_of (view c.args.counted.tables) = fun_ext c.work_out_ends-ends.ensures in
    rw (← e) (search rules)

pub returns : goal.returns
returns c =
    let e : (λ j. get_or c.work_out_ends-ends.result j false) ≡ ends_of (view c.args.counted.tables) = fun_ext c.work_out_ends-ends.ensures in
    rw (← e) (search rules)
