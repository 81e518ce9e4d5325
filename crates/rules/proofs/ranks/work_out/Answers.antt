use Rattle.std.proofs.Common.{ℕ, ◌+◌, refl, ◌∙◌, arith, length-set}
use Rattle.search.proofs.Filling.{holds_none}
use Rattle.rules.proofs.Ranking.{bound_more, risen_none, risen_more, risen_all}
use Rattle.rules.proofs.ranks.work_out.Goals as goal

pub loop-k-init : goal.loop-k-init
loop-k-init g c = (refl, risen_none 0 (g.N.Node.node c.args.nodes.now) 256, λ j. omega (arith, holds_none {T = ℕ} 0 256 j))

pub loop-k-preserved : goal.loop-k-preserved
loop-k-preserved g c = (
  length-set _ _ _ ∙ c.loop-k.invariant.0,
  risen_more 0 (g.N.Node.node c.args.nodes.now) c.loop-k.done c.loop-k.k _ (omega arith) c.value.ensures.value c.loop-k.invariant.1,
  bound_more c.loop-k.done c.loop-k.k _ _ (g.N.Node.base c.args.nodes.now + (c.loop-k.k + 1)) (omega arith) c.value.ensures.bound (omega arith) c.loop-k.invariant.2,
)

pub returns : goal.returns
returns g c = risen_all 0 (g.N.Node.node c.args.nodes.now) c.args.count c.loop-k.k c.loop-k.done c.loop-k-test.false c.loop-k.auto.k-end c.loop-k.invariant.1
