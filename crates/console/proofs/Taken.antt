-- What is left of a reader that is cut off after n bytes. Assumes nothing.
use Rattle.std.proofs.Common.{◌≡◌, ℕ, List, [], ◌++◌, take, IfSome, Some, None, Option, subst}
use Rattle.std.specs.Option.{option_map}

cut : (o : Option (List ℕ)) (n : ℕ) (now : List ℕ) → IfSome (option_map (take n) o) (λ xs. now ≡ [] ++ xs) → IfSome o (λ xs. now ≡ take n xs)
cut None n now h = h
cut (Some xs) n now h = h

-- the same, where the reader, the limit and what stood before come from calls
pub taken : {R : Type 0} (remaining : R → Option (List ℕ)) (r s : R) (n m : ℕ) (old now : List ℕ) → s ≡ r → m ≡ n → old ≡ [] → IfSome (option_map (take m) (remaining s)) (λ xs. now ≡ old ++ xs) → IfSome (remaining r) (λ xs. now ≡ take n xs)
taken {R} remaining r s n m old now same limit empty h =
    cut (remaining r) n now
    (subst (λ (x : R). IfSome (option_map (take n) (remaining x)) (λ xs. now ≡ [] ++ xs)) same
    (subst (λ (k : ℕ). IfSome (option_map (take k) (remaining s)) (λ xs. now ≡ [] ++ xs)) limit
    (subst (λ (u : List ℕ). IfSome (option_map (take m) (remaining s)) (λ xs. now ≡ u ++ xs)) empty h)))
