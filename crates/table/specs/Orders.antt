-- Rows that pass the tests are those of a lattice. Assumes nothing.
use Rattle.std.specs.Prelude.{◌≡◌, ℕ, zero, suc, ◌+◌, ◌-◌, ◌^◌, ◌<◌, ◌≤◌, Bool, true, false, cond, not, ◌&&◌, ◌||◌, leb, ◌==◌, ◌≢◌, nat_le, nat_lt, refl}
use Rattle.std.proofs.Common.{sym, ap, ap₂, ◌∙◌, subst, ⊎_elim, arith, mod-eq_of_lt, lt_of_lt_of_le, lt_of_le_of_lt, pow_mono}
use Rattle.std.proofs.Math.Path.{fun_ext}
use Rattle.std.proofs.lemmas.Nat.{and_mask}
use Rattle.std.proofs.Math.Pow.{ones_lt, pow-lt}
use Rattle.std.proofs.lemmas.Bool.{and_from, and_parts, and_cases, or_parts, not-false, both_ways, eqb-true, eqb-false, eq-eqb, ltb-true, ltb-false, lt-ltb, le-ltb, leb-true, leb-false, le-leb, lt-leb, cond-true, cases_lt, cases_eq, ne_eqb}
use Rattle.lattice.specs.Bit.{bit, within}
use Rattle.lattice.specs.Model.{Order, Bounds, Lawful, turned}
use Rattle.lattice.specs.Bits.{bit_of_and, bit_of_or, bit_zero, bit_power, bit_above, bit_within, within_bits}
use Rattle.lattice.specs.Laws.{turned_order, strict_bounds, strict_else}
use Rattle.search.specs.First.{first, some_below}
use Rattle.search.proofs.Firsts.{none_passes, some_first, first_passes, first_le, first_is}
use Rattle.table.specs.Rows.{clashes, breaks, upper, least_in, bound, column, columns, unbounded, lacks, lacking, lowest, least_of, width_of, table_model}

-- rows of a partial order on the levels below n
record Poset (n : ℕ) (rows : ℕ → ℕ) : Type 0 where
  inside : (i j : ℕ) → i < n → bit (rows i) j ≡ true → j < n
  own : (i : ℕ) → i < n → bit (rows i) i ≡ true
  one_way : (i j : ℕ) → i < n → j < n → bit (rows i) j ≡ true → bit (rows j) i ≡ true → i ≡ j
  through : (i j k : ℕ) → i < n → j < n → bit (rows i) j ≡ true → bit (rows j) k ≡ true → bit (rows i) k ≡ true

-- each two levels below n have a bound
abbrev Bounded : ℕ → (ℕ → ℕ) → Type 0
Bounded n rows = (a b : ℕ) → a < n → b < n → bound n rows a b < n

poset : (n : ℕ) (rows : ℕ → ℕ) → first (breaks n rows) n ≡ n → Poset n rows
unfolding breaks
poset n rows none =
    record {
      inside = λ i j l h. ⊎_elim (λ q. q) (λ q. absurd (both_ways (bit (rows i) j) (bit_above (rows i) n j (leb-false (2 ^ n) (rows i) (narrow i l)) q) h)) (cases_lt j n);
      own = λ i l. not-false (bit (rows i) i) (or_parts (nat_le (2 ^ n) (rows i)) (not (bit (rows i) i)) (whole i l).0).1;
      one_way = λ i j l m h k. ⊎_elim (λ e. sym e) (λ ne. absurd (both_ways (bit (rows j) i) (other i j l m h ne) k)) (cases_eq j i);
      through = λ i j k l m h e. bit_within (rows j) (rows i) (not-false (within (rows j) (rows i)) (or_parts (not (j == i) && bit (rows j) i) (not (within (rows j) (rows i))) (calm i j l m h)).1) k e;
    }
  where
    whole : (i : ℕ) → i < n → ((nat_le (2 ^ n) (rows i) || not (bit (rows i) i)) ≡ false) × (some_below (clashes rows i) n ≡ false)
    whole i l = or_parts (nat_le (2 ^ n) (rows i) || not (bit (rows i) i)) (some_below (clashes rows i) n) (none_passes (breaks n rows) n i none l)

    narrow : (i : ℕ) → i < n → nat_le (2 ^ n) (rows i) ≡ false
    narrow i l = (or_parts (nat_le (2 ^ n) (rows i)) (not (bit (rows i) i)) (whole i l).0).0

    quiet : (i j : ℕ) → i < n → j < n → clashes rows i j ≡ false
    quiet i j l m =
        let e : first (clashes rows i) n ≡ n = omega (arith, first_le (clashes rows i) n, ltb-false (first (clashes rows i) n) n (whole i l).1) in
        none_passes (clashes rows i) n j e m

    calm : (i j : ℕ) → i < n → j < n → bit (rows i) j ≡ true → ((not (j == i) && bit (rows j) i) || not (within (rows j) (rows i))) ≡ false
    calm i j l m h =
        ⊎_elim (λ e. absurd (both_ways (bit (rows i) j) e h)) (λ e. e)
        (and_cases (bit (rows i) j) ((not (j == i) && bit (rows j) i) || not (within (rows j) (rows i))) (quiet i j l m))

    other : (i j : ℕ) → i < n → j < n → bit (rows i) j ≡ true → (j ≢ i) → bit (rows j) i ≡ false
    other i j l m h ne =
        ⊎_elim (λ e. absurd (ne (eqb-true j i (not-false (j == i) e)))) (λ e. e)
        (and_cases (not (j == i)) (bit (rows j) i) (or_parts (not (j == i) && bit (rows j) i) (not (within (rows j) (rows i))) (calm i j l m h)).0)

power_bit : (b : Bool) (n i : ℕ) → bit (cond b (2 ^ n) 0) i ≡ (b && i == n)
power_bit true n i = bit_power n i
power_bit false n i = bit_zero i

-- One place more of a row, by where i stands: p is `i < n`, q is `i ≡ n`, and r is `i < n + 1`. Here i is below n, ..
place_below : (p q r x b : Bool) → p ≡ true → q ≡ false → r ≡ true → ((p && x) || (b && q)) ≡ (r && x)
place_below p q r x b e f g = rw (e, f, g) (go x b)
  where
    go : (x b : Bool) → ((true && x) || (b && false)) ≡ (true && x)
    go true b = refl
    go false true = refl
    go false false = refl

-- .. it is n, ..
place_at : (p q r x b : Bool) → p ≡ false → q ≡ true → r ≡ true → x ≡ b → ((p && x) || (b && q)) ≡ (r && x)
place_at p q r x b e f g h = rw (e, f, g, h) (go b)
  where
    go : (b : Bool) → ((false && b) || (b && true)) ≡ (true && b)
    go true = refl
    go false = refl

-- .. and it is past n
place_past : (p q r x b : Bool) → p ≡ false → q ≡ false → r ≡ false → ((p && x) || (b && q)) ≡ (r && x)
place_past p q r x b e f g = rw (e, f, g) (go b)
  where
    go : (b : Bool) → ((false && x) || (b && false)) ≡ (false && x)
    go true = refl
    go false = refl

one_more : (i n : ℕ) (x b : Bool) → (i ≡ n → x ≡ b) → ((nat_lt i n && x) || (b && i == n)) ≡ (nat_lt i (suc n) && x)
one_more i n x b h =
    ⊎_elim (λ l. place_below (nat_lt i n) (i == n) (nat_lt i (suc n)) x b (lt-ltb i n l) (ne_eqb i n (λ e. omega arith)) (lt-ltb i (suc n) (omega arith)))
    (λ g.
    ⊎_elim (λ e. place_at (nat_lt i n) (i == n) (nat_lt i (suc n)) x b (le-ltb i n g) (eq-eqb i n e) (lt-ltb i (suc n) (omega arith)) (h e))
    (λ d. place_past (nat_lt i n) (i == n) (nat_lt i (suc n)) x b (le-ltb i n g) (ne_eqb i n d) (le-ltb i (suc n) (omega arith)))
    (cases_eq i n))
    (cases_lt i n)

column_bit : (rows : ℕ → ℕ) (j n i : ℕ) → bit (column rows j n) i ≡ (nat_lt i n && bit (rows i) j)
unfolding column
column_bit rows j zero i = bit_zero i ∙ sym (ap (λ t. t && bit (rows i) j) (le-ltb i 0 (omega arith)))
column_bit rows j (suc n) i =
    bit_of_or (column rows j n) (cond (bit (rows n) j) (2 ^ n) 0) i
    ∙ ap₂ ◌||◌ (column_bit rows j n i) (power_bit (bit (rows n) j) n i)
    ∙ one_more i n (bit (rows i) j) (bit (rows n) j) (λ e. ap (λ k. bit (rows k) j) e)

columns_bit : (n : ℕ) (rows : ℕ → ℕ) (j i : ℕ) → j < n → bit (columns n rows j) i ≡ (nat_lt i n && bit (rows i) j)
unfolding columns
columns_bit n rows j i l = ap (λ x. bit x i) (cond-true (nat_lt j n) (column rows j n) 0 (lt-ltb j n l)) ∙ column_bit rows j n i

-- level i is in column j exactly when level j is in row i
column_from : (n : ℕ) (rows : ℕ → ℕ) (i j : ℕ) → j < n → bit (columns n rows j) i ≡ true → (i < n) × (bit (rows i) j ≡ true)
column_from n rows i j l h =
    let parts = and_parts (nat_lt i n) (bit (rows i) j) (sym (columns_bit n rows j i l) ∙ h) in
    (ltb-true i n parts.0, parts.1)

column_to : (n : ℕ) (rows : ℕ → ℕ) (i j : ℕ) → i < n → j < n → bit (rows i) j ≡ true → bit (columns n rows j) i ≡ true
column_to n rows i j l m h = columns_bit n rows j i m ∙ and_from (nat_lt i n) (bit (rows i) j) (lt-ltb i n l) h

poset_turned : (n : ℕ) (rows : ℕ → ℕ) → Poset n rows → Poset n (columns n rows)
poset_turned n rows p =
    record {
      inside = λ i j l h. (column_from n rows j i l h).0;
      own = λ i l. column_to n rows i i l l (p.own i l);
      one_way = λ i j l m h k. p.one_way i j l m (column_from n rows i j m k).1 (column_from n rows j i l h).1;
      through =
          λ i j k l m h e.
          let q = column_from n rows k j m e in
          column_to n rows k i q.0 l (p.through k j i q.0 m q.1 (column_from n rows j i l h).1);
    }

-- the bits of 2 ^ n - 1 are those below n
full_bit : (n j : ℕ) → j < n → bit (2 ^ n - 1) j ≡ true
full_bit n j l =
    let kept : within (2 ^ j) (2 ^ n - 1) ≡ true = eq-eqb _ _ (and_mask (2 ^ j) n ∙ mod-eq_of_lt (pow-lt l)) in
    bit_within (2 ^ j) (2 ^ n - 1) kept j (bit_power j j ∙ eq-eqb j j refl)

full_below : (n j : ℕ) → bit (2 ^ n - 1) j ≡ true → j < n
full_below n j h = ⊎_elim (λ q. q) (λ q. absurd (both_ways (bit (2 ^ n - 1) j) (bit_above (2 ^ n - 1) n j (ones_lt n) q) h)) (cases_lt j n)

abbrev level : ℕ → ℕ → Bool
level n a = nat_lt a n

abbrev flows : ℕ → (ℕ → ℕ) → ℕ → ℕ → Bool
flows n rows a b = (nat_lt a n && nat_lt b n) && bit (rows a) b

module _ (n : ℕ) (rows : ℕ → ℕ) (p : Poset n rows) where
  record Related (a b : ℕ) : Type 0 where
    from : a < n
    to : b < n
    holds : bit (rows a) b ≡ true

  related : (a b : ℕ) → flows n rows a b ≡ true → Related a b
  related a b h =
      let w = and_parts (nat_lt a n && nat_lt b n) (bit (rows a) b) h in
      let v = and_parts (nat_lt a n) (nat_lt b n) w.0 in
      record { from = ltb-true a n v.0; to = ltb-true b n v.1; holds = w.1 }

  relate : (a b : ℕ) → a < n → b < n → bit (rows a) b ≡ true → flows n rows a b ≡ true
  relate a b l m h = and_from (nat_lt a n && nat_lt b n) (bit (rows a) b) (and_from (nat_lt a n) (nat_lt b n) (lt-ltb a n l) (lt-ltb b n m)) h

  table_order : Order (level n) (flows n rows)
  table_order =
      record {
        from_level = λ a b h. lt-ltb a n (related a b h).from;
        to_level = λ a b h. lt-ltb b n (related a b h).to;
        reflexive = λ a h. relate a a (ltb-true a n h) (ltb-true a n h) (p.own a (ltb-true a n h));
        antisymmetric = λ a b h k. p.one_way a b (related a b h).from (related a b h).to (related a b h).holds (related b a k).holds;
        transitive =
            λ a b c h k.
            relate a c (related a b h).from (related b c k).to
            (p.through a b c (related a b h).from (related a b h).to (related a b h).holds (related b c k).holds);
      }

  module _ (bounded : Bounded n rows) where
    record LeastAbove (a b k : ℕ) : Type 0 where
      inside : k < n
      left : bit (rows a) k ≡ true
      right : bit (rows b) k ≡ true
      least : (c : ℕ) → bit (rows a) c ≡ true → bit (rows b) c ≡ true → bit (rows k) c ≡ true

    above : (a b : ℕ) → a < n → b < n → LeastAbove a b (bound n rows a b)
    above a b l m =
        let k = bound n rows a b in
        let both = and_parts (bit (upper rows a b) k) (within (upper rows a b) (rows k)) (first_passes (least_in rows (upper rows a b)) n (bounded a b l m)) in
        let each = and_parts (bit (rows a) k) (bit (rows b) k) (sym (bit_of_and (rows a) (rows b) k) ∙ both.0) in
        record {
          inside = bounded a b l m;
          left = each.0;
          right = each.1;
          least = λ c h q. bit_within (upper rows a b) (rows k) both.1 c (bit_of_and (rows a) (rows b) c ∙ and_from (bit (rows a) c) (bit (rows b) c) h q);
        }

    table_bounds : least_of n rows < n → Bounds (level n) (flows n rows) (least_of n rows) (bound n rows)
    table_bounds low =
        record {
          least_level = lt-ltb (least_of n rows) n low;
          least_flows =
              λ a h.
              relate (least_of n rows) a low (ltb-true a n h)
              (bit_within (2 ^ n - 1) (rows (least_of n rows)) (first_passes (lowest rows (2 ^ n - 1)) n low) a (full_bit n a (ltb-true a n h)));
          left = λ a b h k. let u = above a b (ltb-true a n h) (ltb-true b n k) in relate a _ (ltb-true a n h) u.inside u.left;
          right = λ a b h k. let u = above a b (ltb-true a n h) (ltb-true b n k) in relate b _ (ltb-true b n k) u.inside u.right;
          below =
              λ a b c h k.
              let u = above a b (related a c h).from (related b c k).from in
              relate (bound n rows a b) c u.inside (related a c h).to (u.least c (related a c h).holds (related b c k).holds);
        }

-- each two levels below n have one that flows to both
record Lower (n : ℕ) (rows : ℕ → ℕ) (a b : ℕ) : Type 0 where
  at : ℕ
  inside : at < n
  to_left : bit (rows at) a ≡ true
  to_right : bit (rows at) b ≡ true

abbrev Lowers : ℕ → (ℕ → ℕ) → Type 0
Lowers n rows = (a b : ℕ) → a < n → b < n → Lower n rows a b

-- then some level flows to all
record Under (n : ℕ) (rows : ℕ → ℕ) (k : ℕ) : Type 0 where
  at : ℕ
  inside : at < n
  flows_to : (j : ℕ) → j < k → bit (rows at) j ≡ true

under : (n : ℕ) (rows : ℕ → ℕ) → Poset n rows → Lowers n rows → 1 ≤ n → (k : ℕ) → k ≤ n → Under n rows k
under n rows p lowers some zero l = record { at = 0; inside = some; flows_to = λ j q. absurd (omega arith) }
under n rows p lowers some (suc k) l = more (under n rows p lowers some k (omega arith))
  where
    more : Under n rows k → Under n rows (suc k)
    more u =
        let w = lowers u.at k u.inside (omega arith) in
        record {
          at = w.at;
          inside = w.inside;
          flows_to =
              λ j q.
              ⊎_elim (λ (h : j < k). p.through w.at u.at j w.inside u.inside w.to_left (u.flows_to j h))
              (λ (h : k ≤ j). let e : k ≡ j = omega arith in subst (λ x. bit (rows w.at) x ≡ true) e w.to_right) (cases_lt j k);
        }

least_exists : (n : ℕ) (rows : ℕ → ℕ) → Poset n rows → Lowers n rows → 1 ≤ n → least_of n rows < n
least_exists n rows p lowers some =
    let u = under n rows p lowers some n (omega arith) in
    some_first (lowest rows (2 ^ n - 1)) n u.at u.inside (within_bits (2 ^ n - 1) (rows u.at) (λ j h. u.flows_to j (full_below n j h)))

meets_lower : (n : ℕ) (rows : ℕ → ℕ) → Poset n rows → Bounded n (columns n rows) → Lowers n rows
meets_lower n rows p bounded a b l m =
    let w = above n (columns n rows) (poset_turned n rows p) bounded a b l m in
    let x = column_from n rows _ a l w.left in
    record { at = _; inside = x.0; to_left = x.1; to_right = (column_from n rows _ b m w.right).1 }

joins_lower : (n : ℕ) (rows : ℕ → ℕ) → Poset n rows → Bounded n rows → Lowers n (columns n rows)
joins_lower n rows p bounded a b l m =
    let w = above n rows p bounded a b l m in
    record {
      at = bound n rows a b;
      inside = w.inside;
      to_left = column_to n rows a _ l w.inside w.left;
      to_right = column_to n rows b _ m w.inside w.right;
    }

swap_parts : (x y z : Bool) → ((x && y) && (y && z)) ≡ ((y && x) && z)
swap_parts true true z = refl
swap_parts true false z = refl
swap_parts false true z = refl
swap_parts false false z = refl

turned_flows : (n : ℕ) (rows : ℕ → ℕ) (a b : ℕ) → flows n (columns n rows) a b ≡ turned (flows n rows) a b
turned_flows n rows a b = ⊎_elim inside outside (cases_lt a n)
  where
    inside : a < n → flows n (columns n rows) a b ≡ turned (flows n rows) a b
    inside l = ap (λ t. (nat_lt a n && nat_lt b n) && t) (columns_bit n rows a b l) ∙ swap_parts (nat_lt a n) (nat_lt b n) (bit (rows b) a)

    no_right : (x : Bool) → (x && false) ≡ false
    no_right true = refl
    no_right false = refl

    outside : n ≤ a → flows n (columns n rows) a b ≡ turned (flows n rows) a b
    outside l = rw (le-ltb a n l) (sym (ap (λ t. t && bit (rows b) a) (no_right (nat_lt b n))))

turned_bounds : (n : ℕ) (rows : ℕ → ℕ) (least : ℕ) (op : ℕ → ℕ → ℕ) → Bounds (level n) (flows n (columns n rows)) least op → Bounds (level n) (turned (flows n rows)) least op
turned_bounds n rows least op h = subst (λ f. Bounds (level n) f least op) (fun_ext (λ a. fun_ext (λ b. turned_flows n rows a b))) h

all_bounded : (n : ℕ) (rows cols : ℕ → ℕ) → lacking n rows cols ≡ n → Bounded n rows × Bounded n cols
all_bounded n rows cols none = ((λ a b l m. has_bound rows a b (or_parts (unbounded n rows a b) (unbounded n cols a b) (calm a b l m)).0), (λ a b l m. has_bound cols a b (or_parts (unbounded n rows a b) (unbounded n cols a b) (calm a b l m)).1))
  where
    calm : (a b : ℕ) → a < n → b < n → lacks n rows cols a b ≡ false
    calm a b l m =
        let quiet = none_passes (λ x. some_below (lacks n rows cols x) n) n a none l in
        let e : first (lacks n rows cols a) n ≡ n = omega (arith, first_le (lacks n rows cols a) n, ltb-false (first (lacks n rows cols a) n) n quiet) in
        none_passes (lacks n rows cols a) n b e m

    has_bound : (r : ℕ → ℕ) (a b : ℕ) → unbounded n r a b ≡ false → bound n r a b < n
    has_bound r a b h = omega (arith, first_le (least_in r (upper r a b)) n, eqb-false (bound n r a b) n h)

width_fits : (n : ℕ) → n ≤ 16 → (n ≤ 2 ^ width_of n) × (width_of n ≤ 32)
width_fits n l =
    let p : ℕ → Bool = λ v. leb n (2 ^ (1 + v)) in
    let found : first p 4 < 4 = some_first p 4 3 (omega arith) (le-leb n 16 l) in
    (leb-true n (2 ^ (1 + first p 4)) (first_passes p 4 found), omega arith)

-- the width, from the powers of two between which n lies
pub width_is : (n v : ℕ) → v < 4 → (0 < v → 2 ^ v < n) → n ≤ 2 ^ (1 + v) → 1 + v ≡ width_of n
width_is n v l low high =
    ap (λ k. 1 + k)
    (sym (first_is (λ k. leb n (2 ^ (1 + k))) 4 v (omega arith) (λ j q. lt-leb n (2 ^ (1 + j)) (lt_of_le_of_lt (pow_mono (omega arith)) (low (omega arith)))) (λ _. le-leb n (2 ^ (1 + v)) high)))

pub table_lawful : (n : ℕ) (rows : ℕ → ℕ) → 1 ≤ n → n ≤ 16 → first (breaks n rows) n ≡ n → lacking n rows (columns n rows) ≡ n → Lawful (table_model n rows)
table_lawful n rows some few ordered bounded =
    record {
      joins =
          record {
            order = order;
            bounds = strict_bounds (level n) (least_of n rows) (bound n rows) order (table_bounds n rows p all.0 (least_exists n rows p (meets_lower n rows p all.1) some));
            join_else = strict_else (level n) (least_of n rows) (bound n rows);
            fits = λ a h. lt_of_lt_of_le (ltb-true a n h) (width_fits n few).0;
            width_low = omega arith;
            width_high = (width_fits n few).1;
          };
      bounds =
          strict_bounds (level n) (least_of n rows) (bound n (columns n rows)) (turned_order order)
          (turned_bounds n rows _ _ (table_bounds n (columns n rows) (poset_turned n rows p) all.1 top));
      meet_else = strict_else (level n) (least_of n rows) (bound n (columns n rows));
    }
  where
    p : Poset n rows
    p = poset n rows ordered

    order : Order (level n) (flows n rows)
    order = table_order n rows p

    all : Bounded n rows × Bounded n (columns n rows)
    all = all_bounded n rows (columns n rows) bounded

    top : least_of n (columns n rows) < n
    top = least_exists n (columns n rows) (poset_turned n rows p) (joins_lower n rows p all.0) some
