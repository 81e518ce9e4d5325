-- Sets of owners keep the laws. Assumes nothing.
use Rattle.std.specs.Prelude.{◌≡◌, ℕ, ◌-◌, ◌^◌, ◌≤◌, true, ◌&&◌, refl}
use Rattle.std.proofs.Common.{sym, ◌∙◌, ⊎_elim, mod-eq_of_lt, pow_pos}
use Rattle.std.specs.Int.Bits.{bit_and, bit_or, and_lt}
use Rattle.std.proofs.lemmas.Nat.{and_mask, or_lt}
use Rattle.std.proofs.Math.Pow.{ones_lt}
use Rattle.std.proofs.lemmas.Bool.{and_from, and_parts, or_cases, or_left, or_right, ltb-true, lt-ltb, eq-eqb}
use Rattle.lattice.specs.Bit.{bit, within}
use Rattle.lattice.specs.Model.{Order, Bounds, Lawful, turned}
use Rattle.lattice.specs.Sets.{set_of, included, owners_model}
use Rattle.lattice.specs.Bits.{bit_of_and, bit_of_or, bit_within, within_bits, within_antisymmetric}
use Rattle.lattice.specs.Laws.{turned_order, strict_bounds, strict_else}

module _ (n : ℕ) where
  parts : (a b : ℕ) → included n a b ≡ true → ((set_of n a && set_of n b) ≡ true) × (within a b ≡ true)
  parts a b h = and_parts (set_of n a && set_of n b) (within a b) h

  from_set : (a b : ℕ) → included n a b ≡ true → set_of n a ≡ true
  from_set a b h = (and_parts (set_of n a) (set_of n b) (parts a b h).0).0

  to_set : (a b : ℕ) → included n a b ≡ true → set_of n b ≡ true
  to_set a b h = (and_parts (set_of n a) (set_of n b) (parts a b h).0).1

  includes : (a b : ℕ) → set_of n a ≡ true → set_of n b ≡ true → within a b ≡ true → included n a b ≡ true
  includes a b p q h = and_from (set_of n a && set_of n b) (within a b) (and_from (set_of n a) (set_of n b) p q) h

  set_order : Order (set_of n) (included n)
  set_order =
      record {
        from_level = from_set;
        to_level = to_set;
        reflexive = λ a p. includes a a p p (within_bits a a (λ j h. h));
        antisymmetric = λ a b h k. within_antisymmetric a b (parts a b h).1 (parts b a k).1;
        transitive =
            λ a b c h k.
            includes a c (from_set a b h) (to_set b c k)
            (within_bits a c (λ j e. bit_within b c (parts b c k).1 j (bit_within a b (parts a b h).1 j e)));
      }

  or_set : (a b : ℕ) → set_of n a ≡ true → set_of n b ≡ true → set_of n (bit_or a b) ≡ true
  or_set a b p q = lt-ltb (bit_or a b) (2 ^ n) (or_lt n a b (ltb-true a (2 ^ n) p) (ltb-true b (2 ^ n) q))

  and_set : (a b : ℕ) → set_of n a ≡ true → set_of n b ≡ true → set_of n (bit_and a b) ≡ true
  and_set a b p q = lt-ltb (bit_and a b) (2 ^ n) (and_lt n a b (ltb-true a (2 ^ n) p) (ltb-true b (2 ^ n) q))

  empty_set : set_of n 0 ≡ true
  empty_set = lt-ltb 0 (2 ^ n) (pow_pos n)

  full_set : set_of n (2 ^ n - 1) ≡ true
  full_set = lt-ltb (2 ^ n - 1) (2 ^ n) (ones_lt n)

  unions : Bounds (set_of n) (included n) 0 bit_or
  unions =
      record {
        least_level = empty_set;
        least_flows = λ a p. includes 0 a empty_set p refl;
        left = λ a b p q. includes a (bit_or a b) p (or_set a b p q) (within_bits a (bit_or a b) (λ j h. bit_of_or a b j ∙ or_left (bit a j) (bit b j) h));
        right = λ a b p q. includes b (bit_or a b) q (or_set a b p q) (within_bits b (bit_or a b) (λ j h. bit_of_or a b j ∙ or_right (bit a j) (bit b j) h));
        below =
            λ a b c h k.
            includes (bit_or a b) c (or_set a b (from_set a c h) (from_set b c k)) (to_set a c h)
            (within_bits (bit_or a b) c (λ j e. ⊎_elim (bit_within a c (parts a c h).1 j) (bit_within b c (parts b c k).1 j) (or_cases (bit a j) (bit b j) (sym (bit_of_or a b j) ∙ e))));
      }

  intersections : Bounds (set_of n) (turned (included n)) (2 ^ n - 1) bit_and
  intersections =
      record {
        least_level = full_set;
        least_flows = λ a p. includes a (2 ^ n - 1) p full_set (eq-eqb (bit_and a (2 ^ n - 1)) a (and_mask a n ∙ mod-eq_of_lt (ltb-true a (2 ^ n) p)));
        left = λ a b p q. includes (bit_and a b) a (and_set a b p q) p (within_bits (bit_and a b) a (λ j h. (both a b j h).0));
        right = λ a b p q. includes (bit_and a b) b (and_set a b p q) q (within_bits (bit_and a b) b (λ j h. (both a b j h).1));
        below =
            λ a b c h k.
            includes c (bit_and a b) (from_set c a h) (and_set a b (to_set c a h) (to_set c b k))
            (within_bits c (bit_and a b) (λ j e. bit_of_and a b j ∙ and_from (bit a j) (bit b j) (bit_within c a (parts c a h).1 j e) (bit_within c b (parts c b k).1 j e)));
      }
    where
      both : (a b j : ℕ) → bit (bit_and a b) j ≡ true → (bit a j ≡ true) × (bit b j ≡ true)
      both a b j h = and_parts (bit a j) (bit b j) (sym (bit_of_and a b j) ∙ h)

  pub owners_lawful : 1 ≤ n → n ≤ 32 → Lawful (owners_model n)
  owners_lawful low high =
      record {
        joins =
            record {
              order = set_order;
              bounds = strict_bounds (set_of n) 0 bit_or set_order unions;
              join_else = λ a b h. strict_else (set_of n) 0 bit_or a b h;
              fits = λ a p. ltb-true a (2 ^ n) p;
              width_low = low;
              width_high = high;
            };
        bounds = strict_bounds (set_of n) 0 bit_and (turned_order set_order) intersections;
        meet_else = λ a b h. strict_else (set_of n) 0 bit_and a b h;
      }
