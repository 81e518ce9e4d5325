-- Lists and sets made from a function of the number. Assumes nothing.
use Rattle.std.proofs.Common.{◌≡◌, ℕ, ◌^◌, ◌<◌, ◌≤◌, Bool, cond, ltb, List, map, get_or, refl, ap, ◌∙◌, arith}
use Rattle.std.specs.List.{range_with_len}
use Rattle.std.proofs.lemmas.List.FromFn.{length-map-range_with_len, get_or-map-range_with_len, fill_by_all}
use Rattle.std.proofs.lemmas.List.{get_or_past}
use Rattle.std.proofs.lemmas.Bool.Decides.{nat_tests}
use Rattle.design.specs.Chains.{union, set_where}

-- two functions that agree below n make the same list
pub map_same : {X : Type 0} (f g : ℕ → X) (n : ℕ) → ((k : ℕ) → k < n → f k ≡ g k) → map f (range_with_len 0 n) ≡ map g (range_with_len 0 n)
map_same f g n h =
    fill_by_all g (map f (range_with_len 0 n)) n (f 0) (length-map-range_with_len f 0 n) (λ k l. get_or-map-range_with_len f 0 n k k (f 0) l (omega arith) ∙ h k l)

-- what such a list holds, within it and past its end
pub kept_at : {X : Type 0} (f : ℕ → X) (n k : ℕ) (none : X) (xs : List X) → xs ≡ map f (range_with_len 0 n) → get_or xs k none ≡ cond (ltb k n) (f k) none
kept_at f n k none xs e =
    let inside = get_or-map-range_with_len f 0 n k k none in
    let past = get_or_past (map f (range_with_len 0 n)) k none in
    let long = length-map-range_with_len f 0 n in
    grind (arith, nat_tests)

-- the same, read from a copy, with what is answered past the end
pub kept_read : {X : Type 0} (f : ℕ → X) (n k : ℕ) (none missing r : X) (xs ys : List X) → r ≡ get_or ys k missing → ys ≡ xs → xs ≡ map f (range_with_len 0 n) → missing ≡ none → r ≡ cond (ltb k n) (f k) none
kept_read f n k none missing r xs ys read same e past =
    read ∙ ap (λ zs. get_or zs k missing) same ∙ kept_at f n k missing xs e ∙ ap (cond (ltb k n) (f k)) past

-- the same where the function goes on with what is answered past the end
pub kept_on : {X : Type 0} (f : ℕ → X) (n k : ℕ) (missing r : X) (xs ys : List X) → r ≡ get_or ys k missing → ys ≡ xs → xs ≡ map f (range_with_len 0 n) → (n ≤ k → f k ≡ missing) → r ≡ f k
kept_on f n k missing r xs ys read same e past =
    let at = kept_read f n k missing missing r xs ys read same e refl in
    grind (arith, nat_tests, past)

pub set_same : (p q : ℕ → Bool) (n : ℕ) → ((k : ℕ) → k < n → p k ≡ q k) → set_where p n ≡ set_where q n
set_same p q n h = ap union (map_same (λ t. cond (p t) (2 ^ t) 0) (λ t. cond (q t) (2 ^ t) 0) n (λ k l. ap (λ b. cond b (2 ^ k) 0) (h k l)))
