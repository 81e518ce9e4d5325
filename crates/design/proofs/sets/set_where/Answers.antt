use Rattle.std.proofs.Common.{ℕ, ◌%◌, ◌^◌, ◌<◌, cond, ap, ◌∙◌, mod-eq_of_lt, arith}
use Rattle.design.specs.Chains.{union}
use Rattle.design.proofs.Mapped.{map_same}
use Rattle.design.proofs.sets.set_where.Goals as goal

pub returns : goal.returns
returns g c =
    let p = g.T.Test.test c.args.test.now in
    let few : (k : ℕ) → k < c.args.count → k < 32 = λ k l. omega arith in
    c.union_below.ensures
    ∙ ap union (map_same (λ k. cond (p k) (2 ^ (k % 32)) 0) (λ k. cond (p k) (2 ^ k) 0) c.args.count (λ k l. ap (λ (e : ℕ). cond (p k) (2 ^ e) 0) (mod-eq_of_lt (few k l))))
