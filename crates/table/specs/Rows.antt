-- A lattice given by rows of bits: bit j of row i is set when level i flows to level j. Assumes nothing.
use Rattle.std.specs.Prelude.{ℕ, zero, suc, ◌+◌, ◌-◌, ◌^◌, Bool, cond, not, ◌&&◌, ◌||◌, ltb, leb, List, [], ◌∷◌, length, take, None, Option, ◌==◌, bit_and, bit_or, nat_le, nat_lt, slice_index}
use Rattle.lattice.specs.Bit.{bit, within}
use Rattle.lattice.specs.Faults.{Refusal, refuse, lattice_kind}
use Rattle.search.specs.First.{first, some_below}
use Rattle.lattice.specs.Model.{Joins, Model, strict}

-- the rows of a list, 0 past its end
abbrev pub rows_of : List ℕ → ℕ → ℕ
rows_of xs i = slice_index xs i

-- Row i is no row of a partial order on n levels: it has a bit from n up, lacks its own, has bit j of another level whose
-- row has bit i, or has bit j and lacks one of row j's.
abbrev pub clashes : (ℕ → ℕ) → ℕ → ℕ → Bool
clashes rows i j = bit (rows i) j && ((not (j == i) && bit (rows j) i) || not (within (rows j) (rows i)))

unfoldable pub breaks : ℕ → (ℕ → ℕ) → ℕ → Bool
breaks n rows i = (nat_le (2 ^ n) (rows i) || not (bit (rows i) i)) || some_below (clashes rows i) n

-- the levels to which both a and b flow, as a row
abbrev pub upper : (ℕ → ℕ) → ℕ → ℕ → ℕ
upper rows a b = bit_and (rows a) (rows b)

-- k is the least level of a row
abbrev pub least_in : (ℕ → ℕ) → ℕ → ℕ → Bool
least_in rows row k = bit row k && within row (rows k)

-- the least level to which a and b flow, or n where there is none
abbrev pub bound : ℕ → (ℕ → ℕ) → ℕ → ℕ → ℕ
bound n rows a b = first (least_in rows (upper rows a b)) n

-- the levels below n that flow to level j, as a row
unfoldable pub column : (ℕ → ℕ) → ℕ → ℕ → ℕ
column rows j zero = 0
column rows j (suc n) = bit_or (column rows j n) (cond (bit (rows n) j) (2 ^ n) 0)

-- the rows of the order turned round
unfoldable pub columns : ℕ → (ℕ → ℕ) → ℕ → ℕ
columns n rows j = cond (nat_lt j n) (column rows j n) 0

abbrev pub unbounded : ℕ → (ℕ → ℕ) → ℕ → ℕ → Bool
unbounded n rows a b = bound n rows a b == n

-- a and b lack a bound in an order or in the same order turned round: a join or a meet
abbrev pub lacks : ℕ → (ℕ → ℕ) → (ℕ → ℕ) → ℕ → ℕ → Bool
lacks n rows turned a b = unbounded n rows a b || unbounded n turned a b

-- the lowest level that lacks a bound with another, or n; and the lowest level with which level a lacks one
abbrev pub lacking : ℕ → (ℕ → ℕ) → (ℕ → ℕ) → ℕ
lacking n rows turned = first (λ a. some_below (lacks n rows turned a) n) n

abbrev pub lacked : ℕ → (ℕ → ℕ) → (ℕ → ℕ) → ℕ → ℕ
lacked n rows turned a = first (lacks n rows turned a) n

-- level i flows to every level of a row
abbrev pub lowest : (ℕ → ℕ) → ℕ → ℕ → Bool
lowest rows all i = within all (rows i)

abbrev pub least_of : ℕ → (ℕ → ℕ) → ℕ
least_of n rows = first (lowest rows (2 ^ n - 1)) n

-- the least w ≥ 1 with n ≤ 2 ^ w, for n up to 16
abbrev pub width_of : ℕ → ℕ
width_of n = 1 + first (λ v. leb n (2 ^ (1 + v))) 4

abbrev pub bounds_verdict : ℕ → (ℕ → ℕ) → (ℕ → ℕ) → Option Refusal
bounds_verdict n rows turned =
    cond (nat_lt (lacking n rows turned) n) (refuse 10 (lacking n rows turned ∷ lacked n rows turned (lacking n rows turned) ∷ [])) None

abbrev pub order_verdict : ℕ → (ℕ → ℕ) → Option Refusal
order_verdict n rows =
    cond (nat_lt (first (breaks n rows) n) n) (refuse 9 (first (breaks n rows) n ∷ []))
    (bounds_verdict n rows (columns n rows))

-- n levels in as many of the lent rows
abbrev pub table_verdict : ℕ → List ℕ → Option Refusal
table_verdict n lent =
    cond (nat_lt (length lent) n) (refuse 2 (lattice_kind ∷ []))
    (cond (nat_le 1 n && nat_le n 16) (order_verdict n (rows_of (take n lent))) (refuse 3 (lattice_kind ∷ n ∷ [])))

abbrev pub table_joins : ℕ → (ℕ → ℕ) → Joins
table_joins n rows =
    record {
      level = λ a. nat_lt a n;
      width = width_of n;
      flows = λ a b. (nat_lt a n && nat_lt b n) && bit (rows a) b;
      bottom = least_of n rows;
      join = strict (λ a. ltb a n) (least_of n rows) (bound n rows);
    }

abbrev pub table_model : ℕ → (ℕ → ℕ) → Model
table_model n rows =
    record {
      joins = table_joins n rows;
      top = least_of n (columns n rows);
      meet = strict (λ a. ltb a n) (least_of n rows) (bound n (columns n rows));
    }
