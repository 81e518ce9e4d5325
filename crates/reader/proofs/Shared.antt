-- How many bytes two texts share: what a part that is equal, longer or different leaves. Assumes nothing.
use Rattle.std.proofs.Common.{◌≡◌, ℕ, suc, ◌+◌, ◌<◌, ◌≤◌, eqb, List, [], ◌∷◌, ◌++◌, length, drop, cond, nat_eq, sym, refl, ap, ◌∙◌, ⊎_elim, arith}
use Rattle.std.specs.List.{prefix_len, take_while, zip}
use Rattle.std.proofs.lemmas.List.Folds.{length-prefix_len}
use Rattle.std.proofs.lemmas.List.Sums.{common_prefix_len-le}
use Rattle.std.proofs.lemmas.Bool.{cond-true, cond-false, eq-eqb, ne_eqb, cases_eq}
use Rattle.reader.specs.Pieces.{shared}

pub shared_same : (x y : ℕ) (xs ys : List ℕ) → x ≡ y → shared (x ∷ xs) (y ∷ ys) ≡ suc (shared xs ys)
unfolding shared
shared_same x y xs ys e = cond-true (eqb x y) (1 + shared xs ys) 0 (eq-eqb x y e) ∙ omega arith

pub shared_apart : (x y : ℕ) (xs ys : List ℕ) → (x ≡ y → ⊥) → shared (x ∷ xs) (y ∷ ys) ≡ 0
unfolding shared
shared_apart x y xs ys f = cond-false (eqb x y) (1 + shared xs ys) 0 (ne_eqb x y f)

pub shared_nil : (xs : List ℕ) → shared xs [] ≡ 0
unfolding shared
shared_nil [] = refl
shared_nil (x ∷ xs) = refl

pub shared_none : (ys : List ℕ) → shared [] ys ≡ 0
unfolding shared
shared_none ys = refl

pub shared_le : (a s : List ℕ) → (shared a s ≤ length a) × (shared a s ≤ length s)
unfolding shared
shared_le a s = common_prefix_len-le nat_eq a s

-- the pairs of bytes of two texts that are equal, from the beginning on
zipped : (a b : List ℕ) → prefix_len (λ p. eqb p.0 p.1) (zip a b) ≡ shared a b
unfolding shared
zipped [] b = refl
zipped (x ∷ a) [] = refl
zipped (x ∷ a) (y ∷ b) = ap (λ n. cond (eqb x y) (1 + n) 0) (zipped a b)

pub shared_zip : (a b : List ℕ) → length (take_while (λ p. eqb p.0 p.1) (zip a b)) ≡ shared a b
shared_zip a b = length-prefix_len _ (zip a b) ∙ zipped a b

pub shared_append : (a b r : List ℕ) → shared (a ++ b) (a ++ r) ≡ length a + shared b r
shared_append [] b r = omega arith
shared_append (x ∷ a) b r = omega (arith, shared_same x x (a ++ b) (a ++ r) refl, shared_append a b r)

-- a text of which not all is shared: what follows it does not count
pub shared_short : (a b s : List ℕ) → shared a s < length a → shared (a ++ b) s ≡ shared a s
shared_short [] b s h = omega (arith, shared_none s)
shared_short (x ∷ a) b [] h = omega (arith, shared_nil (x ∷ (a ++ b)), shared_nil (x ∷ a))
shared_short (x ∷ a) b (y ∷ s) h =
    ⊎_elim
    (λ e. omega (arith, shared_same x y (a ++ b) s e, shared_same x y a s e, shared_short a b s (omega (arith, shared_same x y a s e))))
    (λ f. omega (arith, shared_apart x y (a ++ b) s f, shared_apart x y a s f))
    (cases_eq x y)

-- a text that is shared whole begins the other
pub shared_whole : (a s : List ℕ) → length a ≤ shared a s → s ≡ a ++ drop (length a) s
shared_whole [] s h = refl
shared_whole (x ∷ a) [] h = absurd (omega (arith, shared_nil (x ∷ a)))
shared_whole (x ∷ a) (y ∷ s) h =
    ⊎_elim
    (λ e.
    let whole : length a ≤ shared a s = omega (arith, shared_same x y a s e) in
    ap (λ z. z ∷ s) (sym e) ∙ ap (λ t. x ∷ t) (shared_whole a s whole))
    (λ f. absurd (omega (arith, shared_apart x y a s f)))
    (cases_eq x y)

pub shared_comm : (a b : List ℕ) → shared a b ≡ shared b a
shared_comm [] b = omega (arith, shared_none b, shared_nil b)
shared_comm (x ∷ a) [] = omega (arith, shared_none (x ∷ a), shared_nil (x ∷ a))
shared_comm (x ∷ a) (y ∷ b) =
    ⊎_elim
    (λ e. omega (arith, shared_same x y a b e, shared_same y x b a (sym e), shared_comm a b))
    (λ f. omega (arith, shared_apart x y a b f, shared_apart y x b a (λ e. f (sym e))))
    (cases_eq x y)

pub shared_short_right : (a b r : List ℕ) → shared a b < length b → shared a (b ++ r) ≡ shared a b
shared_short_right a b r h = omega (arith, shared_comm a (b ++ r), shared_comm a b, shared_short b r a (omega (arith, shared_comm a b)))
