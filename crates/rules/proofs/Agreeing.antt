-- A rule over records by two tests that agree. Assumes nothing.
use Rattle.std.proofs.Common.{◌≡◌, ℕ, ◌<◌, Bool, cond, ltb, [], ◌∷◌, None, ap}
use Rattle.lattice.specs.Faults.{refuse}
use Rattle.search.proofs.Firsts.{first_same}
use Rattle.rules.specs.Rules.{sweep}

pub sweep_same : (rule kind n : ℕ) (p q : ℕ → Bool) → ((j : ℕ) → j < n → p j ≡ q j) → sweep rule kind n p ≡ sweep rule kind n q
sweep_same rule kind n p q h = ap (λ (k : ℕ). cond (ltb k n) (refuse rule (kind ∷ k ∷ [])) None) (first_same p q n h)
