-- Which bits a union and a set by a test have, and that unions and reaches fit 32 bits. Assumes nothing.
use Rattle.std.proofs.Common.{◌≡◌, ℕ, zero, suc, ◌+◌, ◌^◌, ◌<◌, ◌≤◌, Bool, true, false, cond, ◌&&◌, ◌||◌, eqb, ltb, leb, List, [], ◌∷◌, map, fold, sym, ap, ◌∙◌, arith, pow_pos}
use lib.Bits.{bit_or, or_lt}
use Rattle.std.specs.List.{range_with_len, AllByRecursion}
use Rattle.std.proofs.lemmas.Nat.{pow_below}
use Rattle.std.proofs.lemmas.Bool.{and_from, and_parts, lt-ltb, ltb-true, cond-true, cond_both}
use Rattle.std.proofs.lemmas.Bool.Decides.{nat_tests}
use Rattle.lattice.specs.Bit.{bit}
use Rattle.lattice.specs.Sets.{set_of, owners_joins}
use Rattle.records.specs.declared.Command.{Command}
use Rattle.design.specs.Chains.{Chain, stop, run, union, set_where, reach}
use Rattle.lattice.specs.Bits.{bit_of_or, bit_power, bit_zero}

-- a set of numbers below 32
abbrev Small : ℕ → Type 0
Small x = x < 2 ^ 32

-- number t is in some set of the list
abbrev pub any_bit : List ℕ → ℕ → Bool
any_bit [] t = false
any_bit (x ∷ xs) t = bit x t || any_bit xs t

-- the join of two sets is `or`
abbrev join : ℕ → ℕ → ℕ
join = (owners_joins 32).join

join_or : (a b : ℕ) → Small a → Small b → join a b ≡ bit_or a b
join_or a b p q = cond-true (set_of 32 a && set_of 32 b) (bit_or a b) 0 (and_from (set_of 32 a) (set_of 32 b) (lt-ltb a (2 ^ 32) p) (lt-ltb b (2 ^ 32) q))

or_none : (a : Bool) → a ≡ (a || false)
or_none a = grind arith

or_assoc : (a b c : Bool) → ((a || b) || c) ≡ (a || (b || c))
or_assoc a b c = grind arith

folded_bit : (start : ℕ) (xs : List ℕ) → Small start → AllByRecursion Small xs → (t : ℕ) → bit (fold join start xs) t ≡ (bit start t || any_bit xs t)
folded_bit start [] s h t = or_none (bit start t)
folded_bit start (x ∷ xs) s h t =
    ap (λ m. bit (fold join m xs) t) (join_or start x s h.0)
    ∙ folded_bit (bit_or start x) xs (or_lt 32 start x s h.0) h.1 t
    ∙ ap (λ b. b || any_bit xs t) (bit_of_or start x t)
    ∙ or_assoc (bit start t) (bit x t) (any_bit xs t)

-- a join is 0 where a code is no set, so it always fits
join_fits : (a b : ℕ) → Small (join a b)
join_fits a b = cond_both (set_of 32 a && set_of 32 b) (bit_or a b) 0 Small sets (λ _. pow_pos 32)
  where
    sets : (set_of 32 a && set_of 32 b) ≡ true → Small (bit_or a b)
    sets e = let both = and_parts (set_of 32 a) (set_of 32 b) e in or_lt 32 a b (ltb-true a (2 ^ 32) both.0) (ltb-true b (2 ^ 32) both.1)

folded_fits : (start : ℕ) (xs : List ℕ) → Small start → Small (fold join start xs)
folded_fits start [] s = s
folded_fits start (x ∷ xs) s = folded_fits (join start x) xs (join_fits start x)

pub union_bit : (xs : List ℕ) → AllByRecursion (λ x. x < 2 ^ 32) xs → (t : ℕ) → bit (union xs) t ≡ any_bit xs t
union_bit xs h t = folded_bit 0 xs (pow_pos 32) h t ∙ ap (λ b. b || any_bit xs t) (bit_zero t)

-- any union fits, of whatever numbers
pub union_fits : (xs : List ℕ) → union xs < 2 ^ 32
union_fits xs = folded_fits 0 xs (pow_pos 32)

-- the bit of a set of one number or none
single_bit : (b : Bool) (a t : ℕ) → bit (cond b (2 ^ a) 0) t ≡ (eqb t a && b)
single_bit true a t = grind (arith, bit_power a t)
single_bit false a t = grind (arith, bit_zero t)

one_more : (a n t : ℕ) (here there : Bool) → (t ≡ a → here ≡ there)
    → ((eqb t a && here) || ((leb (a + 1) t && ltb t (a + 1 + n)) && there)) ≡ ((leb a t && ltb t (a + suc n)) && there)
one_more a n t here there e = grind (arith, nat_tests)

from_zero : (n t : ℕ) (b : Bool) → ((leb 0 t && ltb t (0 + n)) && b) ≡ (ltb t n && b)
from_zero n t b = grind (arith, nat_tests)

-- the numbers from a on that pass
module _ (p : ℕ → Bool) where
  abbrev single : ℕ → ℕ
  single t = cond (p t) (2 ^ t) 0

  singles_small : (a n : ℕ) → a + n ≤ 32 → AllByRecursion Small (map single (range_with_len a n))
  singles_small a zero h = tt
  singles_small a (suc n) h =
      (cond_both (p a) (2 ^ a) 0 Small (λ _. pow_below a 32 (omega arith)) (λ _. pow_pos 32), singles_small (a + 1) n (omega arith))

  singles_bit : (a n t : ℕ) → any_bit (map single (range_with_len a n)) t ≡ ((leb a t && ltb t (a + n)) && p t)
  singles_bit a zero t = grind (arith, nat_tests)
  singles_bit a (suc n) t =
      ap (λ b. b || any_bit (map single (range_with_len (a + 1) n)) t) (single_bit (p a) a t)
      ∙ ap (λ b. (eqb t a && p a) || b) (singles_bit (a + 1) n t)
      ∙ one_more a n t (p a) (p t) (λ e. ap p (sym e))

pub bit_set_where : (p : ℕ → Bool) (n t : ℕ) → n ≤ 32 → bit (set_where p n) t ≡ (ltb t n && p t)
bit_set_where p n t h = union_bit (map (single p) (range_with_len 0 n)) (singles_small p 0 n (omega arith)) t ∙ singles_bit p 0 n t ∙ from_zero n t (p t)

-- any reach fits, whatever a command reaches by itself
pub reach_fits : (n : ℕ) (own : ℕ → Command → ℕ) (chain : Chain) → reach n own chain < 2 ^ 32
unfolding reach
reach_fits n own stop = pow_pos 32
reach_fits n own (run s k c alt next then_branch else_branch states) =
    union_fits
    (own s c ∷ reach n own alt ∷ reach n own next ∷ reach n own then_branch ∷ reach n own else_branch
    ∷ union (map (λ t. reach n own (states t)) (range_with_len 0 n)) ∷ [])
