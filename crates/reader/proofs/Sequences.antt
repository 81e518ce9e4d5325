-- Pieces read one after another. Assumes nothing.
use Rattle.std.proofs.Common.{◌≡◌, ℕ, ◌+◌, ◌<◌, ◌≤◌, ◌⊎◌, List, ◌++◌, length, IsErrAnd, Ok, Err, Result, sym, ap, ◌∙◌, subst, ⊎_elim, append_assoc, arith, length-append, Bor}
use Rattle.std.proofs.lemmas.Result.{err_from_is_err_and}
use Rattle.reader.specs.Pieces.{shared, Leaves, Strips}
use Rattle.reader.proofs.Shared.{shared_append, shared_short, shared_short_right}

-- two texts, of which neither begins the other
abbrev pub Apart : List ℕ → List ℕ → Type 0
Apart a b = (shared a b < length a) × (shared a b < length b)

-- values that differ have texts of which neither begins the other
abbrev pub Free : {V : Type 0} → (V → Type 0) → (V → List ℕ) → Type 0
Free {V} ok text = (v w : V) → ok v → ok w → (v ≡ w) ⊎ Apart (text v) (text w)

pub shared_parts : (a b c r : List ℕ) → Apart a b → shared (a ++ c) (b ++ r) ≡ shared a b
shared_parts a b c r h =
    let e : shared a (b ++ r) ≡ shared a b = shared_short_right a b r h.1 in
    shared_short a c (b ++ r) (omega (arith, e, h.0)) ∙ e

abbrev pub Both : {A B : Type 0} → (A → Type 0) → (B → Type 0) → A × B → Type 0
Both ok_a ok_b p = ok_a p.0 × ok_b p.1

abbrev pub joint : {A B : Type 0} → (A → List ℕ) → (B → List ℕ) → A × B → List ℕ
joint a b p = a p.0 ++ b p.1

module _ {A B : Type 0} (ok_a : A → Type 0) (a : A → List ℕ) (ok_b : B → Type 0) (b : B → List ℕ) where
  -- the first piece fails
  pub fails_first : (s : List ℕ) (left : ℕ) → Leaves ok_a a s left → (y : B) → ok_b y → Leaves (Both ok_a ok_b) (joint a b) s left
  fails_first s left h y oky =
      let st = h.2 in (
        h.0,
        h.1,
        record {
          some = ((st.some.0, y), (st.some.1, oky), shared_short (a st.some.0) (b y) s (st.none st.some.0 st.some.1) ∙ st.some.2);
          most = λ p ok. let e = shared_short (a p.0) (b p.1) s (st.none p.0 ok.0) in omega (arith, e, st.most p.0 ok.0);
          none = λ p ok. let e = shared_short (a p.0) (b p.1) s (st.none p.0 ok.0) in omega (arith, e, st.none p.0 ok.0, length-append (a p.0) (b p.1));
        },
      )

  -- the second piece fails
  pub fails_second : (s : List ℕ) (left : ℕ) → Free ok_a a → (x : A) → ok_a x → (r : List ℕ) → s ≡ a x ++ r → Leaves ok_b b r left → Leaves (Both ok_a ok_b) (joint a b) s left
  fails_second s left free x okx r is h =
      let st = h.2 in
      let at : (p : A × B) → Both ok_a ok_b p → (shared (joint a b p) s ≤ length (a x) + h.0) × (shared (joint a b p) s < length (joint a b p)) =
      λ p ok.
      subst (λ u. (shared (joint a b p) u ≤ length (a x) + h.0) × (shared (joint a b p) u < length (joint a b p))) (sym is)
      (⊎_elim
      (λ same.
      let e : shared (a p.0 ++ b p.1) (a x ++ r) ≡ length (a x) + shared (b p.1) r =
      ap (λ (y : A). shared (a y ++ b p.1) (a x ++ r)) same ∙ shared_append (a x) (b p.1) r in (
        omega (arith, e, st.most p.1 ok.1),
        omega (arith, e, st.none p.1 ok.1, length-append (a p.0) (b p.1), ap (λ (y : A). length (a y)) same),
      ))
      (λ apart.
      let e = shared_parts (a p.0) (a x) (b p.1) r apart in
      (omega (arith, e, apart.1), omega (arith, e, apart.0, length-append (a p.0) (b p.1))))
      (free p.0 x ok.0 okx)) in (
        length (a x) + h.0,
        omega (arith, h.1, ap length is, length-append (a x) r),
        record {
          some = ((x, st.some.0), (okx, st.some.1), ap (λ u. shared (a x ++ b st.some.0) u) is ∙ shared_append (a x) (b st.some.0) r ∙ ap (λ n. length (a x) + n) st.some.2);
          most = λ p ok. (at p ok).0;
          none = λ p ok. (at p ok).1;
        },
      )

  -- both are read
  pub reads_both : (s : List ℕ) (x : A) (r : List ℕ) (y : B) (t : List ℕ) → s ≡ a x ++ r → r ≡ b y ++ t → s ≡ joint a b (x, y) ++ t
  reads_both s x r y t e f = e ∙ ap (λ u. a x ++ u) f ∙ sym (append_assoc (a x) (b y) t)

-- the exit of a `?`: what it leaves is what the piece left
pub exit : {T E : Type 0} (P : Result T E → Type 0) (left : E) (r : Result T E) → IsErrAnd r (λ y. y ≡ left) → P (Err left) → P r
exit P left r h l = let p = err_from_is_err_and r h in rw (p.1, p.2) l

-- two texts one after the other
pub strips_first : (a b s : List ℕ) (left : ℕ) → Strips a s (Err left) → Strips (a ++ b) s (Err left)
strips_first a b s left h =
    let e = shared_short a b s h.1 in
    (omega (arith, e, h.0), omega (arith, e, h.1, length-append a b))

pub strips_second : (a b s r : List ℕ) (res : Result (Bor (List ℕ)) ℕ) → s ≡ a ++ r → Strips b r res → Strips (a ++ b) s res
strips_second a b s r (Ok t) is h = is ∙ ap (λ u. a ++ u) h ∙ sym (append_assoc a b t.now)
strips_second a b s r (Err left) is h =
    let e : shared (a ++ b) s ≡ length a + shared b r = ap (λ u. shared (a ++ b) u) is ∙ shared_append a b r in
    (omega (arith, e, h.0, ap length is, length-append a r), omega (arith, e, h.1, length-append a b))
