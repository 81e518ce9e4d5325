-- What is worked out of a record from what was worked out of records of lower rank. Assumes nothing.
use Rattle.std.specs.Prelude.{ℕ, zero, suc, cond, nat_lt}

module _ {I T : Type 0} (rank : I → ℕ) (none : T) (node : (I → T) → I → T) where
  -- what `done` says of a record of lower rank than i, and `none` of any other
  abbrev pub lower : (I → T) → I → I → T
  lower done i j = cond (nat_lt (rank j) (rank i)) (done j) none

  unfoldable pub ranked_by : ℕ → I → T
  ranked_by zero i = none
  ranked_by (suc fuel) i = node (lower (ranked_by fuel) i) i

  -- `node` at i, over what holds of the records of lower rank
  unfoldable pub ranked : I → T
  ranked i = ranked_by (suc (rank i)) i
