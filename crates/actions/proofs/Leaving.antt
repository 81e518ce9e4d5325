-- What is kept of states, past the last state too. Assumes nothing.
use Rattle.std.proofs.Common.{◌≡◌, ℕ, zero, suc, ◌+◌, ◌<◌, ◌≤◌, Bool, true, false, cond, not, ◌&&◌, ◌||◌, eqb, ltb, map, length, None, Option, sym, refl, ap, ◌∙◌, ⊎_elim, arith}
use Rattle.std.specs.List.{range_with_len}
use Rattle.std.proofs.lemmas.List.{get_or_past}
use Rattle.std.proofs.lemmas.Bool.Decides.{nat_tests}
use Rattle.std.proofs.lemmas.Bool.{and_parts, cases_lt, le-ltb, lt-ltb, ne_eqb}
use Rattle.search.proofs.Firsts.{first_is}
use Rattle.rules.specs.Rules.{names, linked, has_children}
use Rattle.shape.specs.Shape.{Design, state_at, no_state, holds, given, is_child}
use Rattle.design.specs.Chains.{lowest_child, moved, is_moved, is_below, union}
use Rattle.design.specs.Facts.{state_kept, state_facts}
use Rattle.design.proofs.Kept.{states_linked}
use Rattle.design.proofs.Mapped.{set_same}
use Rattle.design.proofs.Reaching.{below_after}

module _ (d : Design) (links : linked d ≡ None) where
  abbrev n : ℕ
  n = d.head.states

  -- no state has a parent past the last state
  no_parent : (b : Bool) (o : Option ℕ) (u t : ℕ) → u < t → cond b (not (given o)) (names u o) ≡ true → holds o t ≡ false
  no_parent b o u t l e = grind (arith, nat_tests, l, e)

  leaf_past : (t : ℕ) → n ≤ t → has_children d t ≡ false
  leaf_past t l =
      ap (λ k. ltb k n) (first_is (is_child d t) n n (omega arith) (λ u m. no_parent (eqb u 0) (state_at d u).parent u t (omega arith) (and_parts _ _ (and_parts _ _ (states_linked d links u m)).0).0) (λ m. absurd (omega arith)))
      ∙ le-ltb n n (omega arith)

  pub kept_lowest : (t : ℕ) → (state_kept d t).lowest_child ≡ lowest_child d t
  kept_lowest t = ⊎_elim (λ l. rw (lt-ltb t n l) refl) (λ l. rw (le-ltb t n l, leaf_past t l) refl) (cases_lt t n)

-- what is kept of a state that is there
pub kept_state : (d : Design) (s : ℕ) → s < d.head.states → state_kept d s ≡ state_facts d s
kept_state d s l = rw (lt-ltb s d.head.states l) refl

no_sets : (a n : ℕ) → union (map (λ t. 0) (range_with_len a n)) ≡ 0
no_sets a zero = refl
no_sets a (suc n) = no_sets (a + 1) n

none_of : (h e p b : Bool) → e ≡ false → p ≡ false → b ≡ false → (h && ((e || p) || b)) ≡ false
none_of h e p b x y z = grind (arith, x, y, z)

-- a state past the last is above none, so a goto there moves nothing
pub kept_moved : (d : Design) → linked d ≡ None → length d.states ≡ d.head.states → (s : ℕ) → (state_kept d s).moved ≡ moved d s
kept_moved d links exact s =
    ⊎_elim (λ l. ap (λ f. f.moved) (kept_state d s l))
    (λ l. rw (le-ltb s n l) (sym (set_same (is_moved d s (is_below d s)) (λ _. false) n (none l) ∙ no_sets 0 n))) (cases_lt s n)
  where
    n : ℕ
    n = d.head.states

    none : n ≤ s → (t : ℕ) → t < n → is_moved d s (is_below d s) t ≡ false
    none l t m =
        none_of (has_children d t) (eqb t s) (holds (state_at d s).parent t) (is_below d s t) (ne_eqb t s (λ e. omega arith))
        (ap (λ x. holds x.parent t) (get_or_past d.states s no_state (omega arith))) (by (is_below d s t) refl)
      where
        by : (b : Bool) → is_below d s t ≡ b → b ≡ false
        by false e = refl
        by true e = absurd (omega (arith, below_after d links s t m e))
