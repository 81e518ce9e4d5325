-- One of several words: the search for it, and that no word begins another. Assumes nothing.
use Rattle.std.proofs.Common.{◌≡◌, ℕ, zero, suc, ◌+◌, ◌-◌, ◌<◌, ◌≤◌, min, Bool, true, ◌&&◌, ltb, ◌⊎◌, List, [], ◌∷◌, ◌++◌, length, get_or, Ok, Err, Result, sym, refl, ap, ◌∙◌, subst, inl, inr, ⊎_elim, arith, lit<, length-append, Bor}
use Rattle.std.proofs.lemmas.List.{get_or_default}
use Rattle.std.proofs.lemmas.Bool.{cases_eq, cases_lt, and_parts, ltb-true}
use Rattle.records.specs.declared.Mode.{Mode}
use Rattle.records.specs.declared.Mode.TheVariants.{Enforced, Dynamic}
use Rattle.records.specs.declared.Operator.{Operator}
use Rattle.records.specs.declared.Operator.TheVariants.{Constant, Input, Read, Add, Subtract, And, Or, Xor, ShiftLeft, ShiftRight, Equal, Less}
use Rattle.records.specs.declared.Action.{Action}
use Rattle.records.specs.declared.Action.TheVariants.{Set, Tag, If, Goto, Fall}
use Rattle.reader.specs.Format.{mode, operator, action}
use Rattle.reader.specs.Pieces.{shared, Leaves, Reads, Strips, Listed}
use Rattle.reader.proofs.Sequences.{Apart, Free, shared_parts}
use Rattle.reader.proofs.Shared.{shared_comm}

-- the words below index i are not at the beginning of s, and where the farthest of them stops, `least` bytes are left
abbrev pub Missed : {W : Type 0} → (W → List ℕ) → List W → List ℕ → List ℕ → ℕ → ℕ → Type 0
Missed {W} spelled all after s i least =
    (least ≤ length s)
    × ((j : ℕ) (w : W) → j < i → get_or all j w ≡ w → (shared (spelled w ++ after) s + least ≤ length s) × (shared (spelled w ++ after) s < length (spelled w ++ after)))
    × ((least ≡ length s) ⊎ ((w : W) × Listed all w × (shared (spelled w ++ after) s + least ≡ length s)))

some_listed : {W : Type 0} (all : List W) → 0 < length all → (w : W) × Listed all w
some_listed [] h = absurd (omega arith)
some_listed (w ∷ all) h = (w, (0, h, refl))

module _ {W : Type 0} (spelled : W → List ℕ) (all : List W) (after s : List ℕ) where
  missed_min : (i : ℕ) (least left : ℕ) (x : W) → i < length all → x ≡ get_or all i x → Missed spelled all after s i least → Strips (spelled x ++ after) s (Err left) → Missed spelled all after s (i + 1) (min least left)
  missed_min i least left x h is m stop = (
    omega (arith, m.0),
    (λ j w below e.
        ⊎_elim
        (λ here.
        let same : w ≡ x = sym e ∙ ap (λ k. get_or all k w) here ∙ get_or_default all i w x h ∙ sym is in
        subst (λ y. (shared (spelled y ++ after) s + min least left ≤ length s) × (shared (spelled y ++ after) s < length (spelled y ++ after))) (sym same)
        (omega (arith, stop.0), stop.1))
        (λ other. let old = m.1 j w (omega (arith, other)) e in (omega (arith, old.0), old.1))
        (cases_eq j i)),
    ⊎_elim
        (λ less.
        ⊎_elim (λ e. inl (omega (arith, e))) (λ f. inr (f.0, f.1, omega (arith, f.2))) m.2)
        (λ more. inr (x, (i, h, sym is), omega (arith, stop.0)))
        (cases_lt least left),
  )

  pub missed_more : (i : ℕ) (least left n : ℕ) (x : W) → n ≡ min least left → i < length all → x ≡ get_or all i x → Missed spelled all after s i least → (t : List ℕ) → t ≡ spelled x → Strips (t ++ after) s (Err left) → Missed spelled all after s (i + 1) n
  missed_more i least left n x e h is m t t_is stop =
      subst (Missed spelled all after s (i + 1)) (sym e)
      (missed_min i least left x h is m (subst (λ u. Strips (u ++ after) s (Err left)) t_is stop))

  pub missed_all : (least : ℕ) → 0 < length all → Missed spelled all after s (length all) least → Leaves (Listed all) (λ w. spelled w ++ after) s least
  missed_all least some m =
      let at : (w : W) → Listed all w → (shared (spelled w ++ after) s + least ≤ length s) × (shared (spelled w ++ after) s < length (spelled w ++ after)) =
      λ w ok. m.1 ok.0 w ok.1 ok.2 in
      let first = some_listed all some in (
        length s - least,
        omega (arith, m.0),
        record {
          some =
              ⊎_elim
              (λ e. (first.0, first.1, omega (arith, e, (at first.0 first.1).0)))
              (λ f. (f.0, f.1, omega (arith, f.2)))
              m.2;
          most = λ w ok. omega (arith, (at w ok).0);
          none = λ w ok. (at w ok).1;
        },
      )

-- What a chooser reads, where every value is listed.
pub reads_all : {W : Type 0} (spelled : W → List ℕ) (all : List W) (after s : List ℕ) (r : Result (W × Bor (List ℕ)) ℕ) → ((w : W) → Listed all w) → Reads (Listed all) (λ w. spelled w ++ after) s r → Reads (λ _. Unit {0}) (λ w. spelled w ++ after) s r
reads_all spelled all after s (Ok p) each h = (tt, h.1)
reads_all spelled all after s (Err left) each h =
    let st = h.2 in (
      h.0,
      h.1,
      record {
        some = (st.some.0, tt, st.some.2);
        most = λ w _. st.most w (each w);
        none = λ w _. st.none w (each w);
      },
    )

-- a text stands apart from each text of a list; each two of a list do
tested : List ℕ → List ℕ → Bool
tested a b = ltb (shared a b) (length a) && ltb (shared a b) (length b)

each_tested : {W : Type 0} → (W → List ℕ) → W → List W → Bool
each_tested spelled w [] = true
each_tested spelled w (x ∷ xs) = tested (spelled w) (spelled x) && each_tested spelled w xs

all_tested : {W : Type 0} → (W → List ℕ) → List W → Bool
all_tested spelled [] = true
all_tested spelled (x ∷ xs) = each_tested spelled x xs && all_tested spelled xs

apart_tested : (a b : List ℕ) → tested a b ≡ true → Apart a b
unfolding tested
apart_tested a b h =
    let p = and_parts (ltb (shared a b) (length a)) (ltb (shared a b) (length b)) h in
    (ltb-true (shared a b) (length a) p.0, ltb-true (shared a b) (length b) p.1)

turned : (a b : List ℕ) → Apart a b → Apart b a
turned a b h = let e = shared_comm a b in (omega (arith, e, h.1), omega (arith, e, h.0))

module _ {W : Type 0} (spelled : W → List ℕ) where
  each_apart : (w : W) (xs : List W) → each_tested spelled w xs ≡ true → (j : ℕ) (x : W) → j < length xs → get_or xs j x ≡ x → Apart (spelled w) (spelled x)
  unfolding each_tested
  each_apart w [] h j x l e = absurd (omega arith)
  each_apart w (y ∷ ys) h zero x l e = subst (λ z. Apart (spelled w) (spelled z)) e (apart_tested (spelled w) (spelled y) (and_parts (tested (spelled w) (spelled y)) (each_tested spelled w ys) h).0)
  each_apart w (y ∷ ys) h (suc j) x l e = each_apart w ys (and_parts (tested (spelled w) (spelled y)) (each_tested spelled w ys) h).1 j x (omega arith) e

  all_apart : (xs : List W) → all_tested spelled xs ≡ true → (i j : ℕ) (v w : W) → i < length xs → j < length xs → get_or xs i v ≡ v → get_or xs j w ≡ w → (v ≡ w) ⊎ Apart (spelled v) (spelled w)
  unfolding all_tested
  all_apart [] h i j v w l m e f = absurd (omega arith)
  all_apart (x ∷ xs) h zero zero v w l m e f = inl (sym e ∙ f)
  all_apart (x ∷ xs) h zero (suc j) v w l m e f =
      inr (subst (λ z. Apart (spelled z) (spelled w)) e (each_apart x xs (and_parts (each_tested spelled x xs) (all_tested spelled xs) h).0 j w (omega arith) f))
  all_apart (x ∷ xs) h (suc i) zero v w l m e f =
      inr (subst (λ z. Apart (spelled v) (spelled z)) f (turned (spelled x) (spelled v) (each_apart x xs (and_parts (each_tested spelled x xs) (all_tested spelled xs) h).0 i v (omega arith) e)))
  all_apart (x ∷ xs) h (suc i) (suc j) v w l m e f =
      all_apart xs (and_parts (each_tested spelled x xs) (all_tested spelled xs) h).1 i j v w (omega arith) (omega arith) e f

  -- words that stand apart do so with any text after them
  words_free : (xs : List W) → all_tested spelled xs ≡ true → ((w : W) → Listed xs w) → (after : List ℕ) → Free (λ (_ : W). Unit {0}) (λ w. spelled w ++ after)
  words_free xs h each after v w _ _ =
      let a = each v in
      let b = each w in
      ⊎_elim
      inl
      (λ apart.
      let e = shared_parts (spelled v) (spelled w) after after apart in
      inr (omega (arith, e, apart.0, length-append (spelled v) after), omega (arith, e, apart.1, length-append (spelled w) after)))
      (all_apart xs h a.0 b.0 v w a.1 b.1 a.2 b.2)

abbrev pub modes : List Mode
modes = Enforced ∷ Dynamic ∷ []

pub each_mode : (m : Mode) → Listed modes m
each_mode Enforced = (0, lit< tt, refl)
each_mode Dynamic = (1, lit< tt, refl)

pub mode_free : (after : List ℕ) → Free (λ (_ : Mode). Unit {0}) (λ m. mode m ++ after)
unfolding shared tested each_tested all_tested
mode_free after = words_free mode modes refl each_mode after

abbrev pub operators : List Operator
operators = Constant ∷ Input ∷ Read ∷ Add ∷ Subtract ∷ And ∷ Or ∷ Xor ∷ ShiftLeft ∷ ShiftRight ∷ Equal ∷ Less ∷ []

pub each_operator : (o : Operator) → Listed operators o
each_operator Constant = (0, lit< tt, refl)
each_operator Input = (1, lit< tt, refl)
each_operator Read = (2, lit< tt, refl)
each_operator Add = (3, lit< tt, refl)
each_operator Subtract = (4, lit< tt, refl)
each_operator And = (5, lit< tt, refl)
each_operator Or = (6, lit< tt, refl)
each_operator Xor = (7, lit< tt, refl)
each_operator ShiftLeft = (8, lit< tt, refl)
each_operator ShiftRight = (9, lit< tt, refl)
each_operator Equal = (10, lit< tt, refl)
each_operator Less = (11, lit< tt, refl)

pub operator_free : (after : List ℕ) → Free (λ (_ : Operator). Unit {0}) (λ o. operator o ++ after)
unfolding shared tested each_tested all_tested
operator_free after = words_free operator operators refl each_operator after

abbrev pub actions : List Action
actions = Set ∷ Tag ∷ If ∷ Goto ∷ Fall ∷ []

pub each_action : (a : Action) → Listed actions a
each_action Set = (0, lit< tt, refl)
each_action Tag = (1, lit< tt, refl)
each_action If = (2, lit< tt, refl)
each_action Goto = (3, lit< tt, refl)
each_action Fall = (4, lit< tt, refl)

pub action_free : (after : List ℕ) → Free (λ (_ : Action). Unit {0}) (λ a. action a ++ after)
unfolding shared tested each_tested all_tested
action_free after = words_free action actions refl each_action after
