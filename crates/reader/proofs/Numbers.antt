-- Decimal numbers, read digit by digit. Assumes nothing.
use Rattle.std.proofs.Common.{◌≡◌, ℕ, suc, ◌+◌, ◌-◌, ◌*◌, ◌^◌, ◌<◌, ◌≤◌, ltb, ◌⊎◌, List, [], ◌∷◌, ◌++◌, length, get_or, take, decimal, sym, refl, ap, ◌∙◌, subst, inl, inr, ⊎_elim, arith, length-append}
use Rattle.std.specs.Str.Parse.{AllDigits, digits_value}
use Rattle.std.specs.Char.{digit_value as value_of_digit}
use Rattle.std.proofs.lemmas.Int.Digits.{digits_value_more, digits_more}
use Rattle.std.proofs.lemmas.Fmt.{decimal_digit, decimal-digits_value, digits_decimal, digits_value-decimal, first_decimal}
use Rattle.std.proofs.lemmas.List.{get_or-take, get_or-append-add, length-take-le}
use Rattle.std.proofs.lemmas.Str.Parse.{IsNumeralModel, numerals_by_value, tells_digits, digit_from_value, digit_at, digits_value-take-le}
use Rattle.std.proofs.lemmas.Bool.{cond-true, cond-false, lt-ltb, le-ltb, cases_eq}
use Rattle.std.proofs.Math.Seq.{take-append_seam}
use Rattle.std.specs.Int.{IsInRange}
use Rattle.reader.specs.Pieces.{Extends, Longest}

pub digit_value : (c : ℕ) → 48 ≤ c → c ≤ 57 → value_of_digit c ≡ c - 48
digit_value c low high = cond-false (ltb c 48) _ _ (le-ltb c 48 low) ∙ cond-true (ltb c 58) _ _ (lt-ltb c 58 (omega arith))

-- a number with one digit more
pub grow : (s : List ℕ) (n v limit : ℕ) → n < length s → AllDigits 10 (take n s) → digits_value 10 (take n s) ≡ v → Extends v n (get_or s n 0) limit → AllDigits 10 (take (n + 1) s) × (digits_value 10 (take (n + 1) s) ≡ v * 10 + (get_or s n 0 - 48))
grow s n v limit h ds e x =
    let d : value_of_digit (get_or s n 0) ≡ get_or s n 0 - 48 = digit_value (get_or s n 0) x.low x.high in
    (digits_more 10 s n h ds (omega (arith, x.low, x.high)), digits_value_more 10 s n h ∙ ap (λ a. a * 10 + value_of_digit (get_or s n 0)) e ∙ ap (λ a. v * 10 + a) d)

-- after a leading 0 no digit comes
pub lead_more : (s : List ℕ) (n v limit w : ℕ) → Extends v n (get_or s n 0) limit → w ≡ v * 10 + (get_or s n 0 - 48) → (n ≡ 0 → v ≡ 0) → (get_or s 0 0 ≡ 48 → (v ≡ 0) × (n ≤ 1)) → get_or s 0 0 ≡ 48 → (w ≡ 0) × (n + 1 ≤ 1)
lead_more s n v limit w x e start lead first =
    let none : n ≡ 0 = x.lead (lead first).0 in
    let here : get_or s n 0 ≡ 48 = ap (λ i. get_or s i 0) none ∙ first in
    (omega (arith, (lead first).0), omega arith)

behind : (p t : List ℕ) (e : ℕ) → get_or (p ++ (e ∷ t)) (length p) 0 ≡ e
behind p t e = let z : length p ≡ length p + 0 = omega arith in ap (λ i. get_or (p ++ (e ∷ t)) i 0) z ∙ get_or-append-add p (e ∷ t) 0 0

-- a digit behind other bytes, where all are digits
pub digit_behind : (p t : List ℕ) (e : ℕ) → AllDigits 10 (p ++ (e ∷ t)) → IsInRange 48 57 e
digit_behind p t e ds =
    subst (IsInRange 48 57) (behind p t e) (digit_at (p ++ (e ∷ t)) (length p) ds (omega (arith, length-append p (e ∷ t))))

-- a number is no smaller than one that its first digits write
front_value : (p t : List ℕ) (e : ℕ) → digits_value 10 p * 10 + value_of_digit e ≤ digits_value 10 (p ++ (e ∷ t))
front_value p t e =
    let d = p ++ (e ∷ t) in
    let more = digits_value_more 10 d (length p) (omega (arith, length-append p (e ∷ t))) in
    let first = ap (digits_value 10) (take-append_seam p (e ∷ t)) in
    omega (arith, digits_value-take-le 10 d (length p + 1) (omega arith), more, first, ap value_of_digit (behind p t e))

pub own : IsNumeralModel (AllDigits 10) (digits_value 10)
own = numerals_by_value (AllDigits 10) tells_digits

-- no digit stands before another where the first is a 0
zero_alone : (v : ℕ) (p t : List ℕ) (e : ℕ) → v < 2 ^ 64 → decimal v ≡ p ++ (e ∷ t) → digits_value 10 p ≡ 0 → length p ≡ 0
zero_alone v [] t e h is z = refl
zero_alone v (x ∷ p) t e h is z =
    let ds : AllDigits 10 (x ∷ (p ++ (e ∷ t))) = subst (AllDigits 10) is (digits_decimal own v h) in
    let r = digit_from_value x ds.0 in
    let d : value_of_digit x ≡ x - 48 = digit_value x r.0 r.1 in
    let zero : x ≡ 48 = omega (arith, front_value [] p x) in
    let first : get_or (decimal v) 0 0 ≡ 48 = ap (λ l. get_or l 0 0) is ∙ zero in
    ⊎_elim
    (λ none.
    let one : length (decimal v) ≡ 1 = ap (λ n. length (decimal n)) none ∙ ap length (decimal_digit 0 (omega arith)) in
    let more : length (decimal v) ≡ suc (length p + suc (length t)) = ap length is ∙ ap suc (length-append p (e ∷ t)) in
    absurd (omega arith))
    (λ some. absurd (omega (arith, first_decimal v some h)))
    (zero_or v)
  where
    zero_or : (n : ℕ) → (n ≡ 0) ⊎ (0 < n)
    zero_or n = ⊎_elim (λ e. inl e) (λ f. inr (omega (arith, f))) (cases_eq n 0)

-- a digit of a number is one with which the digits before it go on
pub digit_extends : (v limit : ℕ) (p t : List ℕ) (e : ℕ) → v ≤ limit → v < 2 ^ 64 → decimal v ≡ p ++ (e ∷ t) → Extends (digits_value 10 p) (length p) e limit
digit_extends v limit p t e low h is =
    let ds : AllDigits 10 (p ++ (e ∷ t)) = subst (AllDigits 10) is (digits_decimal own v h) in
    let r = digit_behind p t e ds in
    let d : value_of_digit e ≡ e - 48 = digit_value e r.0 r.1 in
    let whole : digits_value 10 (p ++ (e ∷ t)) ≡ v = ap (digits_value 10) (sym is) ∙ digits_value-decimal own v h in
    record {
      low = r.0;
      high = r.1;
      lead = zero_alone v p t e h is;
      within = omega (arith, front_value p t e);
    }

-- the longest number is written as the text has it
pub longest_written : (s : List ℕ) (limit v n : ℕ) → limit < 2 ^ 64 → Longest s limit v n → 0 < n → decimal v ≡ take n s
longest_written s limit v n h l some =
    let long : length (take n s) ≡ n = length-take-le n s l.inside in
    let first : get_or (take n s) 0 0 ≡ get_or s 0 0 = get_or-take n s 0 0 some in
    ap decimal (sym l.says)
    ∙ decimal-digits_value own (take n s) l.digits (omega arith) (λ e. omega (arith, (l.lead (sym first ∙ e)).1)) (omega (arith, l.says, l.within))
