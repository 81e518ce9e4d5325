use Rattle.std.proofs.Common.{ℕ, ◌+◌, sym, refl, ap, ◌∙◌, ap₂, add-one, arith}
use Rattle.search.specs.Sum.{sum_below}
use Rattle.search.proofs.sum_below.Goals as goal

pub loop-k-init : goal.loop-k-init
unfolding sum_below
loop-k-init g c = (refl, omega arith)

pub loop-k-preserved : goal.loop-k-preserved
unfolding sum_below
loop-k-preserved g c =
    let f = g.A.Amount.amounts c.args.of.now in
    (ap₂ (λ (a b : ℕ). a + b) c.loop-k.invariant.0 (c.from-sum.ensures ∙ c.amount.ensures) ∙ ap (sum_below f) (sym (add-one c.loop-k.k)), omega arith)
