-- A lattice of pairs, and a lattice turned round. Assumes nothing.
use Rattle.std.specs.Prelude.{◌≡◌, ℕ, ◌+◌, ◌*◌, ◌/◌, ◌%◌, ◌^◌, ◌<◌, ◌≤◌, Bool, true, false, cond, ◌&&◌, [], ◌∷◌, Some, None, Option, ◌==◌, nat_le}
use Rattle.lattice.specs.Faults.{Refusal, refuse}
use Rattle.lattice.specs.Model.{Joins, Model, strict, turned}

-- A code of a pair: the right part in the low w bits, the left part above.
abbrev pub paired : ℕ → ℕ → ℕ → ℕ
paired w a b = a * 2 ^ w + b

abbrev pub left_of : ℕ → ℕ → ℕ
left_of w c = c / 2 ^ w

abbrev pub right_of : ℕ → ℕ → ℕ
right_of w c = c % 2 ^ w

-- a test, an order and an operation on pairs, part by part
abbrev pub each_level : ℕ → (ℕ → Bool) → (ℕ → Bool) → ℕ → Bool
each_level w p q a = p (left_of w a) && q (right_of w a)

abbrev pub each_flows : ℕ → (ℕ → ℕ → Bool) → (ℕ → ℕ → Bool) → ℕ → ℕ → Bool
each_flows w f g a b = f (left_of w a) (left_of w b) && g (right_of w a) (right_of w b)

abbrev pub each_op : ℕ → (ℕ → ℕ → ℕ) → (ℕ → ℕ → ℕ) → ℕ → ℕ → ℕ
each_op w f g a b = paired w (f (left_of w a) (left_of w b)) (g (right_of w a) (right_of w b))

-- both parts fit together into 32 bits
abbrev pub narrow : Joins → Joins → Bool
narrow l r = nat_le (l.width + r.width) 32

abbrev pub pair_verdict : Joins → Joins → Option Refusal
pair_verdict l r = cond (narrow l r) None (refuse 11 ((l.width + r.width) ∷ []))

-- the lattice of one level, for two parts that are too wide together; `Pair::new` makes no such pair
abbrev pub single : Model
single =
    record {
      joins =
          record {
            level = λ a. (a == 0);
            width = 1;
            flows = λ a b. (a == 0) && (b == 0);
            bottom = 0;
            join = λ a b. 0;
          };
      top = 0;
      meet = λ a b. 0;
    }

abbrev pub product : Model → Model → Model
product l r =
    let w : ℕ = r.joins.width in
    let level : ℕ → Bool = each_level w l.joins.level r.joins.level in
    let bottom : ℕ = paired w l.joins.bottom r.joins.bottom in
    record {
      joins =
          record {
            level = level;
            width = l.joins.width + w;
            flows = each_flows w l.joins.flows r.joins.flows;
            bottom = bottom;
            join = strict level bottom (each_op w l.joins.join r.joins.join);
          };
      top = paired w l.top r.top;
      meet = strict level bottom (each_op w l.meet r.meet);
    }

abbrev pub pair_if : Bool → Model → Model → Model
pair_if true l r = product l r
pair_if false l r = single

abbrev pub pair_model : Model → Model → Model
pair_model l r = pair_if (narrow l.joins r.joins) l r

-- how far the left part stands to the left, where the parts fit together; and which lattice that makes
abbrev pub Shift : Model → Model → Option ℕ → Type 0
Shift l r None = pair_model l r ≡ single
Shift l r (Some w) = (w ≡ r.joins.width) × (l.joins.width + w ≤ 32) × (w < 32) × (pair_model l r ≡ product l r)

-- the order turned round: bottom and top change places, and so do join and meet
abbrev pub reversed : Model → Model
reversed m =
    record {
      joins =
          record {
            level = m.joins.level;
            width = m.joins.width;
            flows = turned m.joins.flows;
            bottom = m.top;
            join = strict m.joins.level m.top m.meet;
          };
      top = m.joins.bottom;
      meet = strict m.joins.level m.top m.joins.join;
    }
