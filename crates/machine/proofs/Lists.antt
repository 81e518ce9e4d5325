-- Lists: what is left out from a place on. Assumes nothing.
use Rattle.std.proofs.Common.{◌≡◌, ℕ, ◌+◌, ◌-◌, ◌≤◌, List, drop, sym, ap, ◌∙◌, arith, drop-drop}

-- what is the same from j on is the same from a later place on
pub drop_later : {A : Type 0} (xs ys : List A) (j k : ℕ) → j ≤ k → drop j xs ≡ drop j ys → drop k xs ≡ drop k ys
drop_later xs ys j k l e =
    let there : j + (k - j) ≡ k = omega arith in
    sym (drop-drop (k - j) j xs ∙ ap (λ n. drop n xs) there) ∙ ap (drop (k - j)) e ∙ drop-drop (k - j) j ys ∙ ap (λ n. drop n ys) there
