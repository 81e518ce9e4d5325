-- What a table holds that was worked out. Assumes nothing.
use Rattle.std.specs.Prelude.{◌≡◌, ℕ, List, if◌then◌else◌, nat_lt, slice_index_or}

-- f at the numbers below n, and `none` from there on
abbrev pub HoldsBelow : {T : Type 0} → T → ℕ → (ℕ → T) → List T → Type 0
HoldsBelow none n f xs = (k : ℕ) → slice_index_or xs k none ≡ (if nat_lt k n then f k else none)
