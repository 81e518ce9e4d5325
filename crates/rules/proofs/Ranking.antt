-- What is worked out by rank is `node` over what is worked out of lower ranks, and a table filled in the order of the ranks
-- holds it. Assumes nothing.
use Rattle.std.proofs.Common.{◌≡◌, ℕ, zero, suc, ◌+◌, ◌-◌, ◌<◌, ◌≤◌, Bool, true, false, cond, ◌&&◌, ltb, leb, List, length, get_or, set, replicate, sym, refl, ap, ◌∙◌, subst, ⊎_elim, arith, get_or-set_other, get_or-set_same}
use mathlib.Core.Path.{fun_ext}
use Rattle.std.proofs.lemmas.Bool.{cases_eq, cond-true, cond-false, ltb-true, lt-ltb, le-ltb, le-leb, and_from, cases_lt}
use Rattle.std.proofs.lemmas.Bool.Decides.{nat_tests}
use Rattle.search.proofs.Filling.{Holds, holds_more, holds_none, Filled, filled_none, filled_more, filled_all}
use Rattle.shape.specs.Rank.{lower, ranked_by, ranked}

module _ {I T : Type 0} (rank : I → ℕ) (none : T) (node : (I → T) → I → T) where
  -- only records of lower rank count
  pub lower_same : (f g : I → T) (i : I) → ((j : I) → rank j < rank i → f j ≡ g j) → lower rank none node f i ≡ lower rank none node g i
  lower_same f g i h = fun_ext (λ j. at j (ltb (rank j) (rank i)) refl)
    where
      at : (j : I) (b : Bool) → ltb (rank j) (rank i) ≡ b → cond b (f j) none ≡ cond b (g j) none
      at j true e = h j (ltb-true (rank j) (rank i) e)
      at j false e = refl

  same_fuel : (a b : ℕ) (i : I) → rank i < a → rank i < b → ranked_by rank none node a i ≡ ranked_by rank none node b i
  unfolding ranked_by
  same_fuel zero b i h k = absurd (omega arith)
  same_fuel (suc a) zero i h k = absurd (omega arith)
  same_fuel (suc a) (suc b) i h k = ap (λ f. node f i) (lower_same (ranked_by rank none node a) (ranked_by rank none node b) i (λ j l. same_fuel a b j (omega arith) (omega arith)))

  pub ranked_is : (i : I) → ranked rank none node i ≡ node (lower rank none node (ranked rank none node) i) i
  unfolding ranked ranked_by
  ranked_is i = ap (λ f. node f i) (lower_same (ranked_by rank none node (rank i)) (ranked rank none node) i (λ j l. same_fuel (rank i) (suc (rank j)) j l (omega arith)))

-- a table filled from the first record on
module _ {T : Type 0} (none : T) (node : (ℕ → T) → ℕ → T) where
  abbrev by_number : ℕ → T
  by_number = ranked (λ j. j) none node

  abbrev pub Risen : ℕ → List T → Type 0
  Risen k xs = Filled none by_number k xs

  pub risen_none : (n : ℕ) → Risen 0 (replicate n none)
  risen_none n = filled_none none by_number n

  pub risen_more : (xs : List T) (k : ℕ) (v : T) → k < length xs → v ≡ node (λ j. get_or xs j none) k → Risen k xs → Risen (k + 1) (set xs k v)
  risen_more xs k v l e h = filled_more none by_number xs k v l (e ∙ ap (λ f. node f k) (fun_ext h) ∙ sym (ranked_is (λ j. j) none node k)) h

  pub risen_all : (n k : ℕ) (xs : List T) → n ≤ k → k ≤ n → Risen k xs → Risen n xs
  risen_all n k xs l m h = filled_all none by_number n k xs l m h

-- numbers below a bound, and one more below a larger one
pub bound_more : (xs : List ℕ) (k v a b : ℕ) → k < length xs → v ≤ b → a ≤ b → ((j : ℕ) → get_or xs j 0 ≤ a) → (j : ℕ) → get_or (set xs k v) j 0 ≤ b
bound_more xs k v a b l p q h j =
    ⊎_elim (λ e. subst (λ i. get_or (set xs k v) i 0 ≤ b) (sym e) (rw (get_or-set_same xs k v 0 l) p)) (λ ne. rw (get_or-set_other xs k j v 0 ne) (omega (arith, h j))) (cases_eq j k)

-- a table of n records filled from the last one down, where later records rank lower
abbrev from_last : ℕ → ℕ → ℕ
from_last n k = cond (ltb k n) (n - k) (suc n)

lower_test : (n k j : ℕ) → k < n → ltb (from_last n j) (from_last n k) ≡ (leb (suc k) j && ltb j n)
lower_test n k j l = ⊎_elim inside outside (cases_lt j n)
  where
    here : from_last n k ≡ n - k
    here = cond-true (ltb k n) (n - k) (suc n) (lt-ltb k n l)

    near : j < n → ltb (n - j) (n - k) ≡ leb (suc k) j
    near m = grind (arith, nat_tests)

    far : ltb (suc n) (n - k) ≡ false
    far = le-ltb (suc n) (n - k) (omega arith)

    and_true : (b : Bool) → b ≡ (b && true)
    and_true true = refl
    and_true false = refl

    and_false : (b : Bool) → false ≡ (b && false)
    and_false true = refl
    and_false false = refl

    inside : j < n → ltb (from_last n j) (from_last n k) ≡ (leb (suc k) j && ltb j n)
    inside m = rw (cond-true (ltb j n) (n - j) (suc n) (lt-ltb j n m), here, lt-ltb j n m) (near m ∙ and_true (leb (suc k) j))

    outside : n ≤ j → ltb (from_last n j) (from_last n k) ≡ (leb (suc k) j && ltb j n)
    outside m = rw (cond-false (ltb j n) (n - j) (suc n) (le-ltb j n m), here, le-ltb j n m) (far ∙ and_false (leb (suc k) j))

module _ {T : Type 0} (none : T) (n : ℕ) (node : (ℕ → T) → ℕ → T) where
  abbrev by_last : ℕ → T
  by_last = ranked (from_last n) none node

  abbrev pub Sunk : ℕ → List T → Type 0
  Sunk k xs = Holds none (λ j. leb k j && ltb j n) by_last xs

  pub sunk_none : (m : ℕ) → Sunk n (replicate m none)
  sunk_none m j = holds_none none m j ∙ sym (cond-false (leb n j && ltb j n) (by_last j) none apart)
    where
      apart : (leb n j && ltb j n) ≡ false
      apart = grind (arith, nat_tests)

  pub sunk_more : (xs : List T) (k : ℕ) (v : T) → k < n → k < length xs → v ≡ node (λ j. get_or xs j none) k → Sunk (suc k) xs → Sunk k (set xs k v)
  sunk_more xs k v m l e h =
      let reads : (j : ℕ) → get_or xs j none ≡ lower (from_last n) none node by_last k j = λ j. h j ∙ ap (λ t. cond t (by_last j) none) (sym (lower_test n k j m)) in
      let worked : v ≡ by_last k = e ∙ ap (λ f. node f k) (fun_ext reads) ∙ sym (ranked_is (from_last n) none node k) in
      holds_more none (λ j. leb (suc k) j && ltb j n) (λ j. leb k j && ltb j n) by_last xs k v l worked here apart h
    where
      here : (leb k k && ltb k n) ≡ true
      here = and_from (leb k k) (ltb k n) (le-leb k k (omega arith)) (lt-ltb k n m)

      apart : (j : ℕ) → (j ≡ k → ⊥) → (leb k j && ltb j n) ≡ (leb (suc k) j && ltb j n)
      apart j ne = ap (λ t. t && ltb j n) (grind (arith, nat_tests))

  pub sunk_all : (k : ℕ) (xs : List T) → k ≤ 0 → Sunk k xs → Holds none (λ j. ltb j n) by_last xs
  sunk_all k xs l h j = h j ∙ ap (λ t. cond (t && ltb j n) (by_last j) none) (le-leb k j (omega arith))
