-- Arithmetic on values. Assumes nothing.
use Rattle.std.specs.Prelude.{ℕ, ◌+◌, ◌-◌, ◌*◌, ◌/◌, ◌%◌, ◌^◌, cond, ◌==◌, bit_and, bit_or, bit_xor, nat_lt}
use Rattle.records.specs.declared.Operator.{Operator}
use Rattle.records.specs.declared.Operator.TheVariants.{Constant, Input, Read, Add, Subtract, And, Or, Xor, ShiftLeft, ShiftRight, Equal, Less}

-- values have 32 bits
abbrev pub word : ℕ
word = 2 ^ 32

-- Arithmetic wraps at 32 bits; a shift by 32 or more gives 0; a comparison gives 1 or 0. The first three have no operands.
abbrev pub applied : Operator → ℕ → ℕ → ℕ
applied Constant a b = 0
applied Input a b = 0
applied Read a b = 0
applied Add a b = (a + b) % word
applied Subtract a b = (a + (word - b)) % word
applied And a b = bit_and a b
applied Or a b = bit_or a b
applied Xor a b = bit_xor a b
applied ShiftLeft a b = cond (nat_lt b 32) ((a * 2 ^ b) % word) 0
applied ShiftRight a b = cond (nat_lt b 32) (a / 2 ^ b) 0
applied Equal a b = cond (a == b) 1 0
applied Less a b = cond (nat_lt a b) 1 0

-- a value cut to a width: its lowest bits
abbrev pub cut : ℕ → ℕ → ℕ
cut width value = value % 2 ^ width
