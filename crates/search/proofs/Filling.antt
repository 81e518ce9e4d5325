-- A loop that fills a table place by place. Assumes nothing.
use Rattle.std.proofs.Common.{◌≡◌, ℕ, zero, suc, ◌+◌, ◌<◌, ◌≤◌, Bool, true, cond, ltb, List, length, get_or, set, replicate, sym, refl, ap, ◌∙◌, subst, ⊎_elim, arith, get_or-set_other, get_or-set_same}
use Rattle.std.proofs.lemmas.Bool.{cases_eq, cond-true, cond-false, lt-ltb, le-ltb}
use Rattle.std.proofs.lemmas.Bool.Decides.{nat_tests}

module _ {T : Type 0} (none : T) where
  -- f stands at the places that pass, and `none` elsewhere
  abbrev pub Holds : (ℕ → Bool) → (ℕ → T) → List T → Type 0
  Holds p f xs = (j : ℕ) → get_or xs j none ≡ cond (p j) (f j) none

  -- one place more
  pub holds_more : (p q : ℕ → Bool) (f : ℕ → T) (xs : List T) (k : ℕ) (v : T) → k < length xs → v ≡ f k → q k ≡ true → ((j : ℕ) → (j ≡ k → ⊥) → q j ≡ p j) → Holds p f xs → Holds q f (set xs k v)
  holds_more p q f xs k v l e here other h j = ⊎_elim same apart (cases_eq j k)
    where
      same : j ≡ k → get_or (set xs k v) j none ≡ cond (q j) (f j) none
      same r = rw r (get_or-set_same xs k v none l ∙ e ∙ sym (cond-true (q k) (f k) none here))

      apart : (j ≡ k → ⊥) → get_or (set xs k v) j none ≡ cond (q j) (f j) none
      apart ne = get_or-set_other xs k j v none ne ∙ h j ∙ ap (λ t. cond t (f j) none) (sym (other j ne))

  pub holds_none : (n j : ℕ) → get_or (replicate n none) j none ≡ none
  holds_none zero j = refl
  holds_none (suc n) zero = refl
  holds_none (suc n) (suc j) = holds_none n j

  -- f stands at the places below k
  abbrev pub Filled : (ℕ → T) → ℕ → List T → Type 0
  Filled f k xs = Holds (λ j. ltb j k) f xs

  pub filled_none : (f : ℕ → T) (n : ℕ) → Filled f 0 (replicate n none)
  filled_none f n j = holds_none n j ∙ sym (cond-false (ltb j 0) (f j) none (le-ltb j 0 (omega arith)))

  pub filled_more : (f : ℕ → T) (xs : List T) (k : ℕ) (v : T) → k < length xs → v ≡ f k → Filled f k xs → Filled f (k + 1) (set xs k v)
  filled_more f xs k v l e h = holds_more (λ j. ltb j k) (λ j. ltb j (k + 1)) f xs k v l e (lt-ltb k (k + 1) (omega arith)) apart h
    where
      apart : (j : ℕ) → (j ≡ k → ⊥) → ltb j (k + 1) ≡ ltb j k
      apart j ne = grind (arith, nat_tests)

  pub filled_all : (f : ℕ → T) (n k : ℕ) (xs : List T) → n ≤ k → k ≤ n → Filled f k xs → Filled f n xs
  filled_all f n k xs l m h = let e : k ≡ n = omega arith in subst (λ i. Filled f i xs) e h

  -- what a table filled up to n holds at a place below n
  pub held : (n : ℕ) (f : ℕ → T) (xs : List T) → Filled f n xs → (j : ℕ) → j < n → get_or xs j none ≡ f j
  held n f xs h j l = h j ∙ cond-true (ltb j n) (f j) none (lt-ltb j n l)
