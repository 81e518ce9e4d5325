-- Numbers read as sets of bits. Assumes nothing.
use Rattle.std.specs.Prelude.{ℕ, ◌/◌, ◌%◌, ◌^◌, Bool, ◌==◌, bit_and}

-- bit j of x is set
abbrev pub bit : ℕ → ℕ → Bool
bit x j = x / 2 ^ j % 2 == 1

-- every bit of x is a bit of y
abbrev pub within : ℕ → ℕ → Bool
within x y = bit_and x y == x
