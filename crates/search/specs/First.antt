-- The first number that passes a test. Assumes nothing.
use Rattle.std.specs.Prelude.{ℕ, zero, suc, Bool, cond, Option, None, Some, nat_lt}

-- the lowest k below n that passes, or n where none does
unfoldable pub first : (ℕ → Bool) → ℕ → ℕ
first p zero = zero
first p (suc n) = let rest : ℕ = first (λ k. p (suc k)) n in cond (p zero) zero (suc rest)

abbrev pub some_below : (ℕ → Bool) → ℕ → Bool
some_below p n = nat_lt (first p n) n

-- that k, if one below n passes
abbrev pub lowest_below : (ℕ → Bool) → ℕ → Option ℕ
lowest_below p n = cond (some_below p n) (Some (first p n)) None
