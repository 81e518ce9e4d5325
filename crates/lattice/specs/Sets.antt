-- Sets of owners as a lattice. Assumes nothing.
use Rattle.std.specs.Prelude.{ℕ, ◌-◌, ◌^◌, Bool, cond, ◌&&◌, [], ◌∷◌, None, Option, nat_le, nat_lt}
use Rattle.std.specs.Int.Bits.{bit_and, bit_or}
use Rattle.lattice.specs.Faults.{Refusal, refuse, lattice_kind}
use Rattle.lattice.specs.Bit.{within}
use Rattle.lattice.specs.Model.{Joins, Model, strict}

-- the sets of the first n owners: owner j is in the set when bit j is set
abbrev pub set_of : ℕ → ℕ → Bool
set_of n a = nat_lt a (2 ^ n)

abbrev pub included : ℕ → ℕ → ℕ → Bool
included n a b = (set_of n a && set_of n b) && within a b

-- inclusion, union and intersection; the empty set and the set of all
abbrev pub owners_joins : ℕ → Joins
owners_joins n =
    record {
      level = set_of n;
      width = n;
      flows = included n;
      bottom = 0;
      join = strict (set_of n) 0 bit_or;
    }

abbrev pub owners_model : ℕ → Model
owners_model n =
    record {
      joins = owners_joins n;
      top = 2 ^ n - 1;
      meet = strict (set_of n) 0 bit_and;
    }

-- 1 to 32 owners
abbrev pub owners_verdict : ℕ → Option Refusal
owners_verdict n = cond (nat_le 1 n && nat_le n 32) None (refuse 3 (lattice_kind ∷ n ∷ []))
