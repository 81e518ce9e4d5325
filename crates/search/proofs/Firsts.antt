-- What the first number that passes a test is. Assumes nothing.
use Rattle.std.proofs.Common.{◌≡◌, ℕ, zero, suc, ◌<◌, ◌≤◌, Bool, true, false, cond, not, eqb, is_some, Option, None, Some, MatchOption, unwrap_or, sym, refl, ap, ◌∙◌, ⊎_elim, arith}
use Rattle.std.proofs.lemmas.Bool.{cond-true, cond-false, both_ways, cases_lt, eq-eqb, lt-ltb, le-ltb, ltb-true, ltb-false}
use Rattle.std.proofs.lemmas.Bool.Decides.{nat_tests}
use Rattle.search.specs.First.{first, some_below, lowest_below}

-- a number up to which none passes, and that passes unless it is n
pub first_is : (p : ℕ → Bool) (n k : ℕ) → k ≤ n → ((j : ℕ) → j < k → p j ≡ false) → (k < n → p k ≡ true) → first p n ≡ k
unfolding first
first_is p zero k h below here = omega arith
first_is p (suc n) zero h below here = cond-true (p zero) zero (suc (first (λ k. p (suc k)) n)) (here (omega arith))
first_is p (suc n) (suc k) h below here =
    cond-false (p zero) zero (suc (first (λ k. p (suc k)) n)) (below zero (omega arith))
    ∙ ap suc (first_is (λ k. p (suc k)) n k (omega arith) (λ j l. below (suc j) (omega arith)) (λ l. here (omega arith)))

record Found (p : ℕ → Bool) (n k : ℕ) : Type 0 where
  within : k ≤ n
  before : (j : ℕ) → j < k → p j ≡ false
  passes : k < n → p k ≡ true

found : (p : ℕ → Bool) (n : ℕ) → Found p n (first p n)
unfolding first
found p zero = record { within = omega arith; before = λ j l. absurd (omega arith); passes = λ l. absurd (omega arith) }
found p (suc n) = go (p zero) refl (found (λ k. p (suc k)) n)
  where
    go : (b : Bool) → p zero ≡ b → Found (λ k. p (suc k)) n (first (λ k. p (suc k)) n) → Found p (suc n) (cond b zero (suc (first (λ k. p (suc k)) n)))
    go true e f = record { within = omega arith; before = λ j l. absurd (omega arith); passes = λ _. e }
    go false e f =
        record {
          within = omega (arith, f.within);
          before = elim [ zero ↦ λ l. e | suc j ↦ λ l. f.before j (omega arith) ];
          passes = λ l. f.passes (omega arith);
        }

pub first_le : (p : ℕ → Bool) (n : ℕ) → first p n ≤ n
first_le p n = (found p n).within

pub first_before : (p : ℕ → Bool) (n j : ℕ) → j < first p n → p j ≡ false
first_before p n = (found p n).before

pub first_passes : (p : ℕ → Bool) (n : ℕ) → first p n < n → p (first p n) ≡ true
first_passes p n = (found p n).passes

-- where the first is n, none below n passes
pub none_passes : (p : ℕ → Bool) (n j : ℕ) → first p n ≡ n → j < n → p j ≡ false
none_passes p n j e l = first_before p n j (omega arith)

pub some_first : (p : ℕ → Bool) (n k : ℕ) → k < n → p k ≡ true → first p n < n
some_first p n k l e = ⊎_elim (λ h. h) (λ h. absurd (both_ways (p k) (first_before p n k (omega arith)) e)) (cases_lt (first p n) n)

-- the lowest that passes, or none, as the search of a range answers
pub lowest_is : (p : ℕ → Bool) (n : ℕ) (r : Option ℕ) → MatchOption r ((k : ℕ) → 0 ≤ k → k < n → p k ≡ false) (λ i. (0 ≤ i) × (i < n) × (p i ≡ true) × ((k : ℕ) → 0 ≤ k → k < i → p k ≡ false)) → r ≡ lowest_below p n
lowest_is p n None h = sym (cond-false (some_below p n) (Some (first p n)) None (le-ltb (first p n) n (omega (arith, first_is p n n (omega arith) (λ k l. h k (omega arith) l) (λ l. absurd (omega arith))))))
lowest_is p n (Some i) h =
    let e : first p n ≡ i = first_is p n i (omega (arith, h.1)) (λ k l. h.3 k (omega arith) l) (λ _. h.2) in
    sym (cond-true (some_below p n) (Some (first p n)) None (lt-ltb (first p n) n (omega (arith, e, h.1))) ∙ ap Some e)

pub lowest_or : (p : ℕ → Bool) (n : ℕ) → unwrap_or (lowest_below p n) n ≡ first p n
lowest_or p n = ⊎_elim (λ l. ap (λ b. unwrap_or (cond b (Some (first p n)) None) n) (lt-ltb (first p n) n l)) (λ l. ap (λ b. unwrap_or (cond b (Some (first p n)) None) n) (le-ltb (first p n) n l) ∙ omega (arith, first_le p n)) (cases_lt (first p n) n)

-- whether a number is answered
some_if : (b : Bool) (k : ℕ) → is_some (cond b (Some k) None) ≡ b
some_if true k = refl
some_if false k = refl

pub some_lowest : (p : ℕ → Bool) (n : ℕ) → is_some (lowest_below p n) ≡ some_below p n
some_lowest p n = some_if (some_below p n) (first p n)

pub none_lowest : (p : ℕ → Bool) (n : ℕ) (b : Bool) → is_some (lowest_below p n) ≡ not b → b ≡ eqb (first p n) n
none_lowest p n true e = sym (eq-eqb (first p n) n (omega (arith, first_le p n, ltb-false (first p n) n (sym (some_lowest p n) ∙ e))))
none_lowest p n false e = let l : first p n < n = ltb-true (first p n) n (sym (some_lowest p n) ∙ e) in grind (arith, nat_tests)

-- what an answer tells of the first: where it is none, no number below n passes
pub none_below : (p : ℕ → Bool) (n : ℕ) → lowest_below p n ≡ None → some_below p n ≡ false
none_below p n e = sym (some_lowest p n) ∙ ap is_some e

pub none_first : (p : ℕ → Bool) (n : ℕ) → lowest_below p n ≡ None → first p n ≡ n
none_first p n e = omega (arith, first_le p n, ltb-false (first p n) n (none_below p n e))

pub some_is_first : (p : ℕ → Bool) (n k : ℕ) → lowest_below p n ≡ Some k → (first p n ≡ k) × (k < n)
some_is_first p n k e =
    let l : first p n < n = ltb-true (first p n) n (sym (some_lowest p n) ∙ ap is_some e) in
    let same : first p n ≡ k = ap (λ o. unwrap_or o 0) (sym (cond-true (some_below p n) (Some (first p n)) None (lt-ltb (first p n) n l)) ∙ e) in (
      same,
      omega (arith, l, same),
    )

-- two tests that agree below n have the same first
pub first_same : (p q : ℕ → Bool) (n : ℕ) → ((j : ℕ) → j < n → p j ≡ q j) → first p n ≡ first q n
first_same p q n h =
    sym (first_is q n (first p n) (first_le p n) (λ j l. sym (h j (omega (arith, first_le p n))) ∙ first_before p n j l) (λ l. sym (h (first p n) l) ∙ first_passes p n l))
