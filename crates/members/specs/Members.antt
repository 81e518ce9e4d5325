-- The numbers in a set that is kept as bits: number t is in the set when bit t is set. Assumes nothing.
use Rattle.std.specs.Prelude.{ℕ, List, filter}
use Rattle.std.specs.List.{range_with_len}
use Rattle.lattice.specs.Bit.{bit}

-- the members of a set of numbers below 32, lowest first
unfoldable pub members : ℕ → List ℕ
members set = filter (bit set) (range_with_len 0 32)
