use Rattle.std.proofs.Common.{rules, ◌≡◌, ℕ, List, get_or, ltb, ap}
use Rattle.shape.specs.Shape.{depth_of, height_of}
use Rattle.shape.specs.View.{view}
use Rattle.rules.specs.Rules.{sweep}
use Rattle.search.proofs.Filling.{Holds, held}
use Rattle.rules.proofs.Agreeing.{sweep_same}
use Rattle.rules.proofs.depth.check_depth.Goals as goal

-- a rule over numbers that were worked out
above : (kind most n : ℕ) (f : ℕ → ℕ) (xs : List ℕ) → Holds 0 (λ j. ltb j n) f xs → sweep 8 kind n (λ j. ltb most (get_or xs j 0)) ≡ sweep 8 kind n (λ j. ltb most (f j))
above kind most n f xs h = sweep_same 8 kind n _ _ (λ j l. ap (ltb most) (held 0 n f xs h j l))

pub returns-in_err-sweep : goal.returns-in_err-sweep
returns-in_err-sweep c =
    rw (← above 2 8 c.args.counted.tables.head.states (depth_of (view c.args.counted.tables)) c.work_out-depths.result c.work_out-depths.ensures) (search rules)

pub returns : goal.returns
returns c =
    let d = view c.args.counted.tables in
    rw (
      ← above 2 8 c.args.counted.tables.head.states (depth_of d) c.work_out-depths.result c.work_out-depths.ensures,
      ← above 3 12 c.args.counted.tables.head.expressions (height_of d) c.work_out-heights.result c.work_out-heights.ensures,
    ) (search rules)
