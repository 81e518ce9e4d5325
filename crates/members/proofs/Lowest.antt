-- What the members of a set are, and what is left when the lowest is taken out. Assumes nothing.
use Rattle.std.proofs.Common.{◌≡◌, ℕ, zero, suc, ◌+◌, ◌-◌, ◌/◌, ◌%◌, ◌^◌, ◌<◌, ◌≤◌, Bool, true, false, cond, ◌&&◌, eqb, List, [], ◌∷◌, filter, sym, refl, ap, ◌∙◌, subst, ⊎_elim, pow-suc, div-one, one-add, arith}
use lib.Bits.{bit_and}
use lib.Count.{count_trailing_zeros, under}
use Rattle.std.specs.List.{range_with_len, ContainsAt, AllByRecursion}
use Rattle.std.proofs.ByRecursion.{kept_by_passes, all_kept_by, has_get_or, has_append_right}
use Rattle.std.proofs.lemmas.Bool.{cases_lt, eqb-true, eqb-false, both_ways, and_left, and_right}
use Rattle.lattice.specs.Bit.{bit}
use Rattle.lattice.specs.Bits.{bit_of_and, bit_half}
use Rattle.members.specs.Members.{members}

-- The members of a set: the bit of each is set, each is below 32, and each such number is a member.
pub member_bit : (set : ℕ) → AllByRecursion (λ t. bit set t ≡ true) (members set)
unfolding members
member_bit set = kept_by_passes (bit set) (range_with_len 0 32)

counting_below : (a n m : ℕ) → a + n ≤ m → AllByRecursion (λ t. t < m) (range_with_len a n)
counting_below a zero m h = tt
counting_below a (suc n) m h = (omega arith, counting_below (a + 1) n m (omega arith))

pub member_below : (set : ℕ) → AllByRecursion (λ t. t < 32) (members set)
unfolding members
member_below set = all_kept_by (bit set) (λ t. t < 32) (range_with_len 0 32) (counting_below 0 32 32 (omega arith))

has_here : (b : Bool) (x : ℕ) (rest : List ℕ) → b ≡ true → ContainsAt (cond b (x ∷ rest) rest) x
has_here true x rest e = has_get_or (x ∷ rest) 0 0 (omega arith)
has_here false x rest e = absurd (both_ways false refl e)

has_later : (b : Bool) (x t : ℕ) (rest : List ℕ) → ContainsAt rest t → ContainsAt (cond b (x ∷ rest) rest) t
has_later true x t rest h = has_append_right (x ∷ []) rest t h
has_later false x t rest h = h

kept_has : (p : ℕ → Bool) (t a n : ℕ) → a ≤ t → t < a + n → p t ≡ true → ContainsAt (filter p (range_with_len a n)) t
kept_has p t a zero low high e = absurd (omega arith)
kept_has p t a (suc n) low high e =
    ⊎_elim (λ l. has_later (p a) a t (filter p (range_with_len (a + 1) n)) (kept_has p t (a + 1) n (omega arith) (omega arith) e))
    (λ l. let same : a ≡ t = omega arith in subst (ContainsAt (filter p (range_with_len a (suc n)))) same (has_here (p a) a (filter p (range_with_len (a + 1) n)) (ap p same ∙ e)))
    (cases_lt a t)

pub bit_member : (set t : ℕ) → t < 32 → bit set t ≡ true → ContainsAt (members set) t
unfolding members
bit_member set t l e = kept_has (bit set) t 0 32 (omega arith) (omega arith) e

pub no_members : members 0 ≡ []
unfolding members
no_members = refl

-- Two tests of the numbers from a on.
kept_same : (p q : ℕ → Bool) (a n : ℕ) → ((j : ℕ) → a ≤ j → p j ≡ q j) → filter p (range_with_len a n) ≡ filter q (range_with_len a n)
kept_same p q a zero h = refl
kept_same p q a (suc n) h = rw (h a (omega arith), kept_same p q (a + 1) n (λ j l. h j (omega arith)))

-- one test passes what the other does, and z first
kept_first : (p q : ℕ → Bool) (z a n : ℕ) → a ≤ z → z < a + n → p z ≡ true → q z ≡ false → ((j : ℕ) → j < z → (p j ≡ false) × (q j ≡ false))
    → ((j : ℕ) → z < j → p j ≡ q j) → filter p (range_with_len a n) ≡ z ∷ filter q (range_with_len a n)
kept_first p q z a zero low high pz qz below above = absurd (omega arith)
kept_first p q z a (suc n) low high pz qz below above =
    ⊎_elim (λ l. rw ((below a l).0, (below a l).1) (kept_first p q z (a + 1) n (omega arith) (omega arith) pz qz below above)) here (cases_lt a z)
  where
    here : z ≤ a → filter p (range_with_len a (suc n)) ≡ z ∷ filter q (range_with_len a (suc n))
    here l =
        let e : a ≡ z = omega arith in
        let pa : p a ≡ true = ap p e ∙ pz in
        let qa : q a ≡ false = ap q e ∙ qz in
        rw (pa, qa, e) (ap (λ xs. z ∷ xs) (kept_same p q (z + 1) n (λ j h. above j (omega arith))))

-- bit z of x is set, and no lower one is
record LowestBit (x z : ℕ) : Type 0 where
  here : bit x z ≡ true
  below : (j : ℕ) → j < z → bit x j ≡ false

bit_low : (x : ℕ) → bit x 0 ≡ eqb (x % 2) 1
bit_low x = ap (λ (n : ℕ). eqb (n % 2) 1) (div-one x)

odd_bit : (x : ℕ) → x % 2 ≡ 1 → bit x 0 ≡ true
odd_bit x e = bit_low x ∙ ap (λ (n : ℕ). eqb n 1) e

even_bit : (x : ℕ) → x % 2 ≡ 0 → bit x 0 ≡ false
even_bit x e = bit_low x ∙ ap (λ (n : ℕ). eqb n 1) e

bit_odd : (x : ℕ) → bit x 0 ≡ true → x % 2 ≡ 1
bit_odd x e = eqb-true (x % 2) 1 (sym (bit_low x) ∙ e)

bit_even : (x : ℕ) → bit x 0 ≡ false → x % 2 ≡ 0
bit_even x e = let n : x % 2 ≡ 1 → ⊥ = eqb-false (x % 2) 1 (sym (bit_low x) ∙ e) in omega arith

bit_suc : (x j : ℕ) → bit x (suc j) ≡ bit (x / 2) j
bit_suc x j = ap (bit x) (sym (one-add j)) ∙ sym (bit_half x j)

-- the zeros below the lowest bit tell its place
trailing_lowest : (k x : ℕ) → 0 < x → x < 2 ^ k → (count_trailing_zeros k x < k) × LowestBit x (count_trailing_zeros k x)
unfolding count_trailing_zeros
trailing_lowest zero x p h = absurd (omega arith)
trailing_lowest (suc k) x p h = go (x % 2) refl (trailing_lowest k (x / 2))
  where
    go : (d : ℕ) → x % 2 ≡ d → (0 < x / 2 → x / 2 < 2 ^ k → (count_trailing_zeros k (x / 2) < k) × LowestBit (x / 2) (count_trailing_zeros k (x / 2)))
        → (under d (count_trailing_zeros k (x / 2)) < suc k) × LowestBit x (under d (count_trailing_zeros k (x / 2)))
    go zero e half =
        let rest = half (omega arith) (omega (arith, pow-suc 2 k)) in (
          omega (arith, rest.0),
          record {
            here = bit_suc x (count_trailing_zeros k (x / 2)) ∙ rest.1.here;
            below = elim [ zero ↦ λ l. even_bit x e | suc j ↦ λ l. bit_suc x j ∙ rest.1.below j (omega arith) ];
          },
        )
    go (suc d) e half = (omega arith, record { here = odd_bit x (omega arith); below = λ j l. absurd (omega arith) })

-- one less: the lowest bit is gone, and those above it stay
less_one : (z x : ℕ) → LowestBit x z → (bit (x - 1) z ≡ false) × ((j : ℕ) → z < j → bit (x - 1) j ≡ bit x j)
less_one zero x l =
    let e : x % 2 ≡ 1 = bit_odd x l.here in
    let half : (x - 1) / 2 ≡ x / 2 = omega arith in (
      even_bit (x - 1) (omega arith),
      elim [ zero ↦ λ h. absurd (omega arith) | suc j ↦ λ h. bit_suc (x - 1) j ∙ ap (λ n. bit n j) half ∙ sym (bit_suc x j) ],
    )
less_one (suc z) x l =
    let e : x % 2 ≡ 0 = bit_even x (l.below 0 (omega arith)) in
    let half : (x - 1) / 2 ≡ x / 2 - 1 = omega arith in
    let rest =
    less_one z (x / 2)
    (record { here = sym (bit_suc x z) ∙ l.here; below = λ j h. sym (bit_suc x j) ∙ l.below (suc j) (omega arith) })
    in (
      bit_suc (x - 1) z ∙ ap (λ n. bit n z) half ∙ rest.0,
      elim [
        | zero ↦ λ h. absurd (omega arith)
        | suc j ↦ λ h. bit_suc (x - 1) j ∙ ap (λ n. bit n j) half ∙ rest.1 j (omega arith) ∙ sym (bit_suc x j)
      ],
    )

and_same : (a b : Bool) → b ≡ a → a ≡ (a && b)
and_same true b e = sym e
and_same false b e = refl

-- the lowest member, then the members of the set without it
pub takes_lowest : (set : ℕ) → 0 < set → set < 2 ^ 32 → members set ≡ count_trailing_zeros 32 set ∷ members (bit_and set (set - 1))
unfolding members
takes_lowest set p h =
    let z : ℕ = count_trailing_zeros 32 set in
    let place = trailing_lowest 32 set p h in
    let less = less_one z set place.1 in
    kept_first (bit set) (bit (bit_and set (set - 1))) z 0 32 (omega arith) (omega (arith, place.0)) place.1.here
    (bit_of_and set (set - 1) z ∙ and_right (bit set z) (bit (set - 1) z) less.0)
    (λ j l. (place.1.below j l, bit_of_and set (set - 1) j ∙ and_left (bit set j) (bit (set - 1) j) (place.1.below j l)))
    (λ j l. and_same (bit set j) (bit (set - 1) j) (less.1 j l) ∙ sym (bit_of_and set (set - 1) j))
