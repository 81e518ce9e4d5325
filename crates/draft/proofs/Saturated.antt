-- A sum that stops at the most that its type holds. Assumes nothing.
use Rattle.std.proofs.Common.{◌≡◌, ℕ, ◌+◌, min, List, fold, map, ap, ◌∙◌, arith}
use Rattle.std.specs.List.{sum_by}
use Rattle.std.proofs.lemmas.List.Folds.{fold-map, fold_along}

min_twice : (a b m : ℕ) → min (min a m + b) m ≡ min (a + b) m
min_twice a b m = omega arith

zero_min : (m : ℕ) → 0 ≡ min 0 m
zero_min m = omega arith

pub saturated : {X : Type 0} (f : X → ℕ) (m : ℕ) (xs : List X) → fold (λ s y. min (s + y) m) 0 (map f xs) ≡ min (sum_by f xs) m
saturated {X} f m xs =
    fold-map (λ s y. min (s + y) m) f 0 xs
    ∙ fold_along (λ s x. min (s + f x) m) (λ s x. s + f x) (λ b c. b ≡ min c m) (λ b c x e. ap (λ s. min (s + f x) m) e ∙ min_twice c (f x) m) 0 0 xs (zero_min m)
