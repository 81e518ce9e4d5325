-- The rows of a table, and the tests of rows as the code puts them. Assumes nothing.
use Rattle.std.proofs.Common.{◌≡◌, ℕ, ◌+◌, ◌^◌, ◌<◌, ◌≤◌, Bool, true, false, cond, not, ◌||◌, leb, nat_lt, None, [], ◌∷◌, subst, List, length, get_or, drop, replicate, ◌++◌, refl, ◌-◌, sym, ap, ◌∙◌, ⊎_elim, add-one}
use mathlib.Core.Path.{fun_ext}
use lib.Bits.{bit_or}
use Rattle.std.proofs.lemmas.List.{get_or_past, get_or_append_left, get_or-append_right, get_or-drop, get_or-replicate, length-replicate}
use Rattle.std.proofs.lemmas.Bool.{cases_lt, lt-ltb, cond-true, cond-false}
use Rattle.lattice.specs.Bit.{bit}
use Rattle.search.specs.First.{first, some_below}
use Rattle.lattice.specs.Faults.{refuse}
use Rattle.table.specs.Rows.{rows_of, clashes, breaks, column, columns, lacking, lacked, bounds_verdict, order_verdict}

pub breaks_by : (n : ℕ) (rows : ℕ → ℕ) (i top row : ℕ) (own some : Bool) → top ≡ 2 ^ n → row ≡ rows i → own ≡ bit row i → some ≡ some_below (clashes rows i) n → ((leb top row || not own) || some) ≡ breaks n rows i
unfolding breaks
breaks_by n rows i top row own some p q r s = rw (p, r, q, s)

-- rows, and zeros after them
pub padded : (xs zeros : List ℕ) → ((k : ℕ) → get_or zeros k 0 ≡ 0) → rows_of (xs ++ zeros) ≡ rows_of xs
padded xs zeros h = fun_ext (λ k. ⊎_elim (get_or_append_left xs zeros 0 k) (past k) (cases_lt k (length xs)))
  where
    past : (k : ℕ) → length xs ≤ k → get_or (xs ++ zeros) k 0 ≡ get_or xs k 0
    past k l = get_or-append_right xs zeros (length xs) k 0 refl l ∙ h (k - length xs) ∙ sym (get_or_past xs k 0 l)

pub zeros_after : (n m k : ℕ) → let zero : ℕ = 0 in get_or (drop n (replicate m zero)) k zero ≡ zero
zeros_after n m k =
    let zero : ℕ = 0 in
    get_or-drop n (replicate m zero) k zero
    ∙ ⊎_elim (get_or-replicate m (n + k) zero zero) (λ l. get_or_past (replicate m zero) (n + k) zero (simp length-replicate l)) (cases_lt (n + k) m)

-- one level more in a column
pub column_more : (rows : ℕ → ℕ) (j i all next : ℕ) (b : Bool) → all ≡ column rows j i → b ≡ bit (rows i) j → next ≡ bit_or all (cond b (2 ^ i) 0) → next ≡ column rows j (i + 1)
unfolding column
column_more rows j i all next b p q r = r ∙ rw (p, q) (sym (ap (column rows j) (add-one i)))

-- the lowest two levels that lack a bound, in an order
pub no_bound : (n : ℕ) (rows turned : ℕ → ℕ) (low high : ℕ) → some_below (breaks n rows) n ≡ false → turned ≡ columns n rows → lacking n rows turned ≡ low → low < n → high ≡ lacked n rows turned low → order_verdict n rows ≡ refuse 10 (low ∷ high ∷ [])
no_bound n rows turned low high whole t l k g =
    let some : nat_lt (lacking n rows turned) n ≡ true = lt-ltb (lacking n rows turned) n (subst (λ (x : ℕ). x < n) (sym l) k) in
    let place : refuse 10 (lacking n rows turned ∷ lacked n rows turned (lacking n rows turned) ∷ []) ≡ refuse 10 (low ∷ high ∷ []) = cc in
    cond-false (nat_lt (first (breaks n rows) n) n) (refuse 9 (first (breaks n rows) n ∷ [])) (bounds_verdict n rows (columns n rows)) whole
    ∙ ap (bounds_verdict n rows) (sym t)
    ∙ cond-true (nat_lt (lacking n rows turned) n) (refuse 10 (lacking n rows turned ∷ lacked n rows turned (lacking n rows turned) ∷ [])) None some
    ∙ place
