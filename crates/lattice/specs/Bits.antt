-- The bits of a number decide it, and the bits of `and` and `or`. Assumes nothing.
use Rattle.std.specs.Prelude.{◌≡◌, ℕ, zero, suc, ◌+◌, ◌/◌, ◌%◌, ◌^◌, ◌<◌, ◌≤◌, Bool, true, false, ◌&&◌, ◌||◌, ◌==◌, nat_eq, refl}
use Rattle.std.proofs.Common.{sym, ap, ◌∙◌, div-one, lt_of_lt_of_le, pow-suc, one-add, arith, shr-shr, pow_mono}
use Rattle.std.proofs.Math.Nat.{zero-div, div-eq_of_lt}
use Rattle.std.proofs.Math.Arith.{bin_ind}
use Rattle.std.specs.Int.Bits.{bit_and, bit_or}
use Rattle.std.proofs.lemmas.Nat.{and_shr, or_shr, and_mod, or_mod}
use Rattle.std.proofs.lemmas.Bool.{eqb-true, eq-eqb, ne_eqb, both_ways}
use Rattle.std.proofs.Math.Dec.{eqb-suc-suc}
use Rattle.lattice.specs.Bit.{bit, within}

digit_and : (p q : ℕ) → p < 2 → q < 2 → (bit_and p q == 1) ≡ (p == 1 && q == 1)
digit_and zero q hp hq = refl
digit_and (suc zero) zero hp hq = refl
digit_and (suc zero) (suc zero) hp hq = refl
digit_and (suc zero) (suc (suc q)) hp hq = absurd (omega arith)
digit_and (suc (suc p)) q hp hq = absurd (omega arith)

digit_or : (p q : ℕ) → p < 2 → q < 2 → (bit_or p q == 1) ≡ (p == 1 || q == 1)
digit_or zero q hp hq = refl
digit_or (suc zero) zero hp hq = refl
digit_or (suc zero) (suc zero) hp hq = refl
digit_or (suc zero) (suc (suc q)) hp hq = absurd (omega arith)
digit_or (suc (suc p)) q hp hq = absurd (omega arith)

pub bit_of_and : (x y j : ℕ) → bit (bit_and x y) j ≡ (bit x j && bit y j)
bit_of_and x y j =
    ap (λ (n : ℕ). nat_eq (n % 2) 1) (and_shr x y j) ∙ ap (λ (n : ℕ). nat_eq n 1) (and_mod (x / 2 ^ j) (y / 2 ^ j) 1)
    ∙ digit_and (x / 2 ^ j % 2) (y / 2 ^ j % 2) (omega arith) (omega arith)

pub bit_of_or : (x y j : ℕ) → bit (bit_or x y) j ≡ (bit x j || bit y j)
bit_of_or x y j =
    ap (λ (n : ℕ). nat_eq (n % 2) 1) (or_shr x y j) ∙ ap (λ (n : ℕ). nat_eq n 1) (or_mod (x / 2 ^ j) (y / 2 ^ j) 1)
    ∙ digit_or (x / 2 ^ j % 2) (y / 2 ^ j % 2) (omega arith) (omega arith)

pub bit_half : (x j : ℕ) → bit (x / 2) j ≡ bit x (1 + j)
bit_half x j = ap (λ (n : ℕ). nat_eq (n % 2) 1) (shr-shr x 1 j)

pub bit_zero : (j : ℕ) → bit 0 j ≡ false
bit_zero j = rw (zero-div (2 ^ j))

digit_same : (p q : ℕ) → p < 2 → q < 2 → (p == 1) ≡ (q == 1) → p ≡ q
digit_same zero zero hp hq e = refl
digit_same zero (suc zero) hp hq e = let z : false ≡ true = e in cc
digit_same zero (suc (suc q)) hp hq e = absurd (omega arith)
digit_same (suc zero) zero hp hq e = let z : true ≡ false = e in cc
digit_same (suc zero) (suc zero) hp hq e = refl
digit_same (suc zero) (suc (suc q)) hp hq e = absurd (omega arith)
digit_same (suc (suc p)) q hp hq e = absurd (omega arith)

bit_low : (x : ℕ) → bit x 0 ≡ (x % 2 == 1)
bit_low x = ap (λ (n : ℕ). nat_eq (n % 2) 1) (div-one x)

low_same : (x y : ℕ) → bit x 0 ≡ bit y 0 → x % 2 ≡ y % 2
low_same x y e = digit_same (x % 2) (y % 2) (omega arith) (omega arith) (sym (bit_low x) ∙ e ∙ bit_low y)

by_halves : (x y : ℕ) → x / 2 ≡ y / 2 → x % 2 ≡ y % 2 → x ≡ y
by_halves x y hi lo = omega arith

-- two numbers with the same bits are one
pub same_bits : (x y : ℕ) → ((j : ℕ) → bit x j ≡ bit y j) → x ≡ y
same_bits =
    bin_ind (λ (x : ℕ). (y : ℕ) → ((j : ℕ) → bit x j ≡ bit y j) → x ≡ y) from_zero
    (λ x ih y e. by_halves x y (ih (y / 2) (λ j. bit_half x j ∙ e (1 + j) ∙ sym (bit_half y j))) (low_same x y (e 0)))
  where
    from_zero : (y : ℕ) → ((j : ℕ) → bit 0 j ≡ bit y j) → 0 ≡ y
    from_zero =
        bin_ind (λ (y : ℕ). ((j : ℕ) → bit 0 j ≡ bit y j) → 0 ≡ y) (λ e. refl)
        (λ y ih e. by_halves 0 y (ih (λ j. bit_half 0 j ∙ e (1 + j) ∙ sym (bit_half y j))) (low_same 0 y (e 0)))

and_true : (a b : Bool) → a ≡ true → (a && b) ≡ b
and_true true b h = refl
and_true false b h = absurd (both_ways false refl h)

implies_and : (a b : Bool) → (a ≡ true → b ≡ true) → (a && b) ≡ a
implies_and true b h = h refl
implies_and false b h = refl

pub bit_within : (x y : ℕ) → within x y ≡ true → (j : ℕ) → bit x j ≡ true → bit y j ≡ true
bit_within x y h j e =
    sym (and_true (bit x j) (bit y j) e) ∙ sym (bit_of_and x y j) ∙ ap (λ n. bit n j) (eqb-true (bit_and x y) x h) ∙ e

pub within_bits : (x y : ℕ) → ((j : ℕ) → bit x j ≡ true → bit y j ≡ true) → within x y ≡ true
within_bits x y h =
    eq-eqb (bit_and x y) x (same_bits (bit_and x y) x (λ j. bit_of_and x y j ∙ implies_and (bit x j) (bit y j) (h j)))

same_truth : (a b : Bool) → (a ≡ true → b ≡ true) → (b ≡ true → a ≡ true) → a ≡ b
same_truth true b f g = sym (f refl)
same_truth false true f g = g refl
same_truth false false f g = refl

pub within_antisymmetric : (x y : ℕ) → within x y ≡ true → within y x ≡ true → x ≡ y
within_antisymmetric x y h k = same_bits x y (λ j. same_truth (bit x j) (bit y j) (bit_within x y h j) (bit_within y x k j))

-- no bit from n up is set in a number below 2 ^ n
pub bit_above : (x n j : ℕ) → x < 2 ^ n → n ≤ j → bit x j ≡ false
bit_above x n j h l = ap (λ (m : ℕ). nat_eq (m % 2) 1) (div-eq_of_lt (lt_of_lt_of_le h (pow_mono l)))

double_even : (k : ℕ) → 2 ^ suc k % 2 ≡ 0
double_even k = omega (arith, pow-suc 2 k)

half_double : (k : ℕ) → 2 ^ suc k / 2 ≡ 2 ^ k
half_double k = omega (arith, pow-suc 2 k)

-- the one bit of a power of two
pub bit_power : (n j : ℕ) → bit (2 ^ n) j ≡ (j == n)
bit_power zero zero = refl
bit_power zero (suc j) = sym (ap (bit 1) (one-add j)) ∙ sym (bit_half 1 j) ∙ bit_zero j ∙ sym (ne_eqb (suc j) 0 (λ e. omega arith))
bit_power (suc n) zero = bit_low (2 ^ suc n) ∙ ap (λ (m : ℕ). nat_eq m 1) (double_even n) ∙ sym (ne_eqb 0 (suc n) (λ e. omega arith))
bit_power (suc n) (suc j) =
    sym (ap (bit (2 ^ suc n)) (one-add j)) ∙ sym (bit_half (2 ^ suc n) j) ∙ ap (λ m. bit m j) (half_double n) ∙ bit_power n j
    ∙ suc_eqb j n
  where
    suc_eqb : (a b : ℕ) → (a == b) ≡ (suc a == suc b)
    suc_eqb a b = sym (eqb-suc-suc a b)
