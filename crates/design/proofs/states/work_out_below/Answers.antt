use Rattle.std.proofs.Common.{false, get_or, refl, ap, ◌∙◌, arith, length-set}
use Rattle.shape.specs.View.{view}
use Rattle.rules.proofs.Ranking.{risen_none, risen_more, risen_all}
use Rattle.design.specs.Chains.{under, below_node}
use Rattle.design.proofs.states.work_out_below.Goals as goal

pub loop-t-init : goal.loop-t-init
loop-t-init c = (refl, risen_none false (below_node (view c.args.formed.tables) c.args.s) 32)

pub loop-t-preserved : goal.loop-t-preserved
loop-t-preserved c =
    let worked = c.is_under.ensures ∙ ap (λ t. under c.args.s (λ j. get_or c.loop-t.below j false) t.parent) c.state.ensures in
    (length-set _ _ _ ∙ c.loop-t.invariant.0, risen_more false (below_node (view c.args.formed.tables) c.args.s) c.loop-t.below c.loop-t.t _ (omega arith) worked c.loop-t.invariant.1)

pub returns : goal.returns
returns c = risen_all false (below_node (view c.args.formed.tables) c.args.s) c.args.formed.tables.head.states c.loop-t.t c.loop-t.below c.loop-t-test.false c.loop-t.auto.t-end c.loop-t.invariant.1
