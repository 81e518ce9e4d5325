-- Laws of sums over the numbers below a count. Assumes nothing.
use Rattle.std.proofs.Common.{◌≡◌, ℕ, zero, suc, ◌+◌, ◌*◌, ◌<◌, ◌≤◌, cond, eqb, ltb, sym, refl, ap, ◌∙◌, ⊎_elim, add-mul, zero-mul, arith}
use Rattle.std.proofs.lemmas.Bool.Decides.{nat_tests}
use Rattle.std.proofs.lemmas.Bool.{cases_lt}
use Rattle.search.specs.Sum.{sum_below}

-- a term is at most the sum, and so are two of them
pub term_below : (f : ℕ → ℕ) (n i : ℕ) → i < n → f i ≤ sum_below f n
unfolding sum_below
term_below f zero i l = absurd (omega arith)
term_below f (suc n) i l = grind (arith, l, term_below f n i)

pub two_below : (f : ℕ → ℕ) (n i j : ℕ) → i < j → j < n → f i + f j ≤ sum_below f n
unfolding sum_below
two_below f zero i j l m = absurd (omega arith)
two_below f (suc n) i j l m = grind (arith, l, m, two_below f n i j l, term_below f n i)

pub apart_below : (f : ℕ → ℕ) (n i j : ℕ) → i < n → j < n → (i ≡ j → ⊥) → f i + f j ≤ sum_below f n
apart_below f n i j l m ne = grind (arith, l, m, ne, two_below f n i j, two_below f n j i)

-- sums of terms that agree, of sums, and of multiples
pub sum_same : (f g : ℕ → ℕ) (n : ℕ) → ((i : ℕ) → i < n → f i ≡ g i) → sum_below f n ≡ sum_below g n
unfolding sum_below
sum_same f g zero h = refl
sum_same f g (suc n) h = omega (arith, sum_same f g n (λ i l. h i (omega arith)), h n (omega arith))

pub sum_add : (f g : ℕ → ℕ) (n : ℕ) → sum_below (λ i. f i + g i) n ≡ sum_below f n + sum_below g n
unfolding sum_below
sum_add f g zero = refl
sum_add f g (suc n) = omega (arith, sum_add f g n)

pub sum_times : (f : ℕ → ℕ) (c n : ℕ) → sum_below f n * c ≡ sum_below (λ i. f i * c) n
unfolding sum_below
sum_times f c zero = zero-mul c
sum_times f c (suc n) = add-mul (sum_below f n) (f n) c ∙ ap (λ s. s + f n * c) (sum_times f c n)

pub sum_zero : (f : ℕ → ℕ) (n : ℕ) → ((i : ℕ) → i < n → f i ≡ 0) → sum_below f n ≡ 0
unfolding sum_below
sum_zero f zero h = refl
sum_zero f (suc n) h = omega (arith, sum_zero f n (λ i l. h i (omega arith)), h n (omega arith))

pub sum_more : (f : ℕ → ℕ) (n : ℕ) → sum_below (λ i. suc (f i)) n ≡ n + sum_below f n
unfolding sum_below
sum_more f zero = refl
sum_more f (suc n) = omega (arith, sum_more f n)

-- a double sum either way round
pub sum_swap : (f : ℕ → ℕ → ℕ) (n m : ℕ) → sum_below (λ i. sum_below (f i) m) n ≡ sum_below (λ j. sum_below (λ i. f i j) n) m
unfolding sum_below
sum_swap f zero m = sym (sum_zero (λ j. 0) m (λ j l. refl))
sum_swap f (suc n) m = omega (arith, sum_swap f n m, sum_add (λ j. sum_below (λ i. f i j) n) (f n) m)

pub sum_weighed : (w : ℕ → ℕ) (f : ℕ → ℕ → ℕ) (n m : ℕ) → sum_below (λ k. sum_below (λ j. f j k) m * w k) n ≡ sum_below (λ j. sum_below (λ k. f j k * w k) n) m
sum_weighed w f n m =
    sum_same (λ k. sum_below (λ j. f j k) m * w k) (λ k. sum_below (λ j. f j k * w k) m) n (λ k l. sum_times (λ j. f j k) (w k) m) ∙ sum_swap (λ k j. f j k * w k) n m

-- a sum that picks out one term
picked : (m k w : ℕ) → m ≡ k → cond (eqb m k) 1 0 * w ≡ w
picked m k w e = grind (arith, nat_tests, e)

dropped : (m k w : ℕ) → (m ≡ k → ⊥) → cond (eqb m k) 1 0 * w ≡ 0
dropped m k w ne = grind (arith, nat_tests, ne)

pub sum_pick : (w : ℕ → ℕ) (n m : ℕ) → m < n → sum_below (λ k. cond (eqb m k) 1 0 * w k) n ≡ w m
unfolding sum_below
sum_pick w zero m l = absurd (omega arith)
sum_pick w (suc n) m l =
    let terms : ℕ → ℕ = λ k. cond (eqb m k) 1 0 * w k in
    ⊎_elim (λ h. omega (arith, sum_pick w n m h, dropped m n (w n) (λ e. omega arith)))
    (λ h. let e : m ≡ n = omega arith in omega (arith, sum_zero terms n (λ k q. dropped m k (w k) (λ r. omega arith)), picked m n (w n) e, ap w e)) (cases_lt m n)

-- the sum of the terms past s
abbrev pub past : (ℕ → ℕ) → ℕ → ℕ → ℕ
past v s n = sum_below (λ u. cond (ltb s u) (v u) 0) n

past_term : (v : ℕ → ℕ) (s n : ℕ) → s < n → cond (ltb s n) (v n) 0 ≡ v n
past_term v s n l = grind (arith, nat_tests, l)

no_term : (v : ℕ → ℕ) (s n : ℕ) → n ≤ s → cond (ltb s n) (v n) 0 ≡ 0
no_term v s n l = grind (arith, nat_tests, l)

none_past : (v : ℕ → ℕ) (s n : ℕ) → n ≤ s → past v s n ≡ 0
none_past v s n l = sum_zero (λ u. cond (ltb s u) (v u) 0) n (λ u m. no_term v s u (omega arith))

-- the terms past t and that of t are past s, where s comes before t
pub past_more : (v : ℕ → ℕ) (s t n : ℕ) → s < t → t < n → v t + past v t n ≤ past v s n
unfolding sum_below
past_more v s t zero l m = absurd (omega arith)
past_more v s t (suc n) l m =
    grind (arith, nat_tests, l, m, past_more v s t n l, none_past v t n)

pub past_first : (v : ℕ → ℕ) (n : ℕ) → 0 < n → v 0 + past v 0 n ≤ sum_below v n
unfolding sum_below
past_first v zero l = absurd (omega arith)
past_first v (suc n) l =
    grind (arith, nat_tests, l, past_first v n, none_past v 0 n)
