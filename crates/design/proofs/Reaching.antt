-- The reach of the chain from a command on is what a row of its state holds. Assumes nothing.
use Rattle.std.proofs.Common.{◌≡◌, ℕ, zero, suc, ◌+◌, ◌-◌, ◌*◌, ◌<◌, ◌≤◌, Bool, true, false, cond, not, ◌&&◌, eqb, ltb, List, [], ◌∷◌, map, length, get_or, set, Some, None, Option, sym, refl, ap, ◌∙◌, mul_comm, arith, get_or-set_other, get_or-set_same}
use Rattle.std.specs.List.{range_with_len}
use Rattle.std.proofs.lemmas.Nat.{mul-add-lt}
use Rattle.std.proofs.lemmas.List.{get_or_past}
use Rattle.std.proofs.lemmas.Bool.{and_parts, ltb-true, lt-ltb, cond-true}
use Rattle.std.proofs.lemmas.Bool.Decides.{nat_tests}
use Rattle.records.specs.declared.Command.{Command}
use Rattle.search.specs.First.{first}
use Rattle.shape.specs.Rank.{lower, ranked}
use Rattle.rules.specs.Rules.{names, linked}
use Rattle.shape.specs.Shape.{Design, no_state, command_at, state_at, given, is_if, links_to, owner_of, owner_node, chain_rank}
use Rattle.rules.proofs.Ranking.{lower_same, ranked_is}
use Rattle.search.proofs.Filling.{Holds, held}
use Rattle.design.specs.Chains.{Chain, stop, Spot, spot, spot_rank, link, chain_node, chain_at, is_below, is_moved, moved, under, below_node, is_fall, union, reach}
use Rattle.design.specs.Reaches.{link_reach, reach_node, row_reach}
use Rattle.design.proofs.Kept.{states_linked}
use Rattle.design.proofs.Mapped.{map_same, set_same}

-- what opens as what is worked out by rank does is worked out by rank
module _ {I T : Type 0} (rank : I → ℕ) (none : T) (node : (I → T) → I → T) (f : I → T) (opens : (i : I) → f i ≡ node (lower rank none node f i) i) where
  below_fuel : (fuel : ℕ) (i : I) → rank i < fuel → f i ≡ ranked rank none node i
  below_fuel zero i l = absurd (omega arith)
  below_fuel (suc fuel) i l =
      opens i ∙ ap (λ g. node g i) (lower_same rank none node f (ranked rank none node) i (λ j m. below_fuel fuel j (omega arith)))
      ∙ sym (ranked_is rank none node i)

  pub ranked_unique : (i : I) → f i ≡ ranked rank none node i
  ranked_unique i = below_fuel (suc (rank i)) i (omega arith)

-- the owner of a command is a state
pub owner_below : (d : Design) (k : ℕ) → 0 < d.head.states → owner_of d k < d.head.states
owner_below d k some = go (suc k) k (omega arith)
  where
    n : ℕ
    n = d.head.states

    go : (fuel j : ℕ) → j < fuel → owner_of d j < n
    go zero j l = absurd (omega arith)
    go (suc fuel) j l =
        let opened = ranked_is (λ i. i) 0 (owner_node d) j in
        let before = go fuel (first (links_to d j) j) in
        grind (arith, nat_tests)

-- the parent of a state comes before it
abbrev Before : ℕ → Option ℕ → Type 0
Before t None = Unit {0}
Before t (Some p) = p < t

before_if : (t : ℕ) (b : Bool) (o : Option ℕ) → cond b (not (given o)) (names t o) ≡ true → Before t o
before_if t b None e = tt
before_if t true (Some p) e = cc
before_if t false (Some p) e = ltb-true p t e

parent_before : (d : Design) → linked d ≡ None → (t : ℕ) → t < d.head.states → Before t (state_at d t).parent
parent_before d links t l = before_if t (eqb t 0) (state_at d t).parent (and_parts _ _ (and_parts _ _ (states_linked d links t l)).0).0

-- the first command of a state is a command
pub first_within : (d : Design) → linked d ≡ None → (s : ℕ) → s < d.head.states → (state_at d s).first < d.head.commands
first_within d links s l =
    let kept = states_linked d links s l in
    grind (arith, nat_tests)

-- a state below s comes after s
module _ (d : Design) (links : linked d ≡ None) (s : ℕ) where
  abbrev After : ℕ → Type 0
  After j = j < d.head.states → is_below d s j ≡ true → s < j

  parent_after : (j : ℕ) (o : Option ℕ) → j < d.head.states → Before j o → ((p : ℕ) → p < j → After p) → under s (lower (λ i. i) false (below_node d s) (is_below d s) j) o ≡ true → s < j
  parent_after j None l b after h = cc
  parent_after j (Some p) l b after h =
      let above = after p b in
      grind (arith, nat_tests)

  after_fuel : (fuel j : ℕ) → j < fuel → After j
  after_fuel zero j m l e = absurd (omega arith)
  after_fuel (suc fuel) j m l e =
      parent_after j (state_at d j).parent l (parent_before d links j l) (λ p q. after_fuel fuel p (omega arith)) (sym (ranked_is (λ i. i) false (below_node d s) j) ∙ e)

  pub below_after : (t : ℕ) → After t
  below_after t = after_fuel (suc t) t (omega arith)

-- a union of empty sets
no_sets : (a n : ℕ) → union (map (λ t. 0) (range_with_len a n)) ≡ 0
no_sets a zero = refl
no_sets a (suc n) = no_sets (a + 1) n

-- past the last state a goto moves no pointer
pub moved_past : (d : Design) → linked d ≡ None → length d.states ≡ d.head.states → (s : ℕ) → d.head.states ≤ s → moved d s ≡ 0
moved_past d links long s past =
    set_same (is_moved d s (is_below d s)) (λ _. false) d.head.states none ∙ no_sets 0 d.head.states
  where
    none : (t : ℕ) → t < d.head.states → is_moved d s (is_below d s) t ≡ false
    none t l =
        let absent : state_at d s ≡ no_state = get_or_past d.states s no_state (omega arith) in
        let after = below_after d links s t l in
        grind (arith, nat_tests)

same_state : (a x y : ℕ) → ltb (a + x) (a + y) ≡ ltb x y
same_state a x y = grind (arith, nat_tests)

rank_gap : (a b w x y : ℕ) → a < b → x < w → a * w + x < b * w + y
rank_gap a b w x y l m = omega (arith, mul-add-lt a w x b l m, mul_comm b w)

rank_small : (c j : ℕ) → cond (ltb j c) (c - j) (suc c) < c + 2
rank_small c j = grind (arith, nat_tests)

same_six : (o a b c e f a' b' c' e' f' : ℕ) → a ≡ a' → b ≡ b' → c ≡ c' → e ≡ e' → f ≡ f' → union (o ∷ a ∷ b ∷ c ∷ e ∷ f ∷ []) ≡ union (o ∷ a' ∷ b' ∷ c' ∷ e' ∷ f' ∷ [])
same_six o a b c e f a' b' c' e' f' p q r s t = cc

module _ (d : Design) (own : ℕ → Command → ℕ) where
  abbrev pub reach_of : ℕ → ℕ → ℕ
  reach_of s k = reach d.head.states own (chain_at d s k)

  abbrev pub falls_of : ℕ → ℕ
  falls_of s = union (map (λ t. cond (is_below d s t) (reach_of t (state_at d t).first) 0) (range_with_len 0 d.head.states))

  -- the reaches of the states from i on, and of their commands
  abbrev pub Firsts : ℕ → List ℕ → Type 0
  Firsts i xs = (t : ℕ) → i ≤ t → t < d.head.states → get_or xs t 0 ≡ reach_of t (state_at d t).first

  abbrev pub Reached : ℕ → List ℕ → Type 0
  Reached i xs = (k : ℕ) → k < d.head.commands → i ≤ owner_of d k → get_or xs k 0 ≡ reach_of (owner_of d k) k

module _ (d : Design) (own : ℕ → Command → ℕ) (links : linked d ≡ None) where
  abbrev n : ℕ
  n = d.head.states

  abbrev chains : Spot → Chain
  chains = ranked (spot_rank d) stop (chain_node d)

  abbrev reaches : ℕ → ℕ → ℕ
  reaches = reach_of d own

  abbrev falls : ℕ → ℕ
  falls = falls_of d own

  reach_cond : (b : Bool) (x : Chain) → reach n own (cond b x stop) ≡ cond b (reach n own x) 0
  unfolding reach
  reach_cond true x = refl
  reach_cond false x = refl

  abbrev earlier : ℕ → ℕ → Spot → Chain
  earlier s k = lower (spot_rank d) stop (chain_node d) chains (spot s k)

  abbrev row : ℕ → ℕ → ℕ → ℕ
  row s k = lower (chain_rank d) 0 (reach_node d (own s) (falls s)) (reaches s) k

  link_same : (s k : ℕ) (o : Option ℕ) → reach n own (link (earlier s k) s o) ≡ link_reach (row s k) o
  unfolding reach
  link_same s k None = refl
  link_same s k (Some m) =
      reach_cond (ltb (spot_rank d (spot s m)) (spot_rank d (spot s k))) (chains (spot s m))
      ∙ ap (λ b. cond b (reaches s m) 0) (same_state ((n - s) * (d.head.commands + 2)) (chain_rank d m) (chain_rank d k))

  branch_same : (s k : ℕ) (b : Bool) (o : Option ℕ) → reach n own (cond b (link (earlier s k) s o) stop) ≡ cond b (link_reach (row s k) o) 0
  branch_same s k b o = reach_cond b (link (earlier s k) s o) ∙ ap (λ r. cond b r 0) (link_same s k o)

  later_rank : (s k t : ℕ) → s < t → t < n → spot_rank d (spot t (state_at d t).first) < spot_rank d (spot s k)
  later_rank s k t l m =
      rank_gap (n - t) (n - s) (d.head.commands + 2) (chain_rank d (state_at d t).first) (chain_rank d k) (omega arith)
      (rank_small d.head.commands (state_at d t).first)

  fall_same : (s k : ℕ) (b : Bool) → union (map (λ t. reach n own (cond (b && is_below d s t) (earlier s k (spot t (state_at d t).first)) stop)) (range_with_len 0 n)) ≡ cond b (falls s) 0
  unfolding reach
  fall_same s k false = no_sets 0 n
  fall_same s k true = ap union (map_same (λ t. reach n own (cond (is_below d s t) (earlier s k (spot t (state_at d t).first)) stop)) (λ t. cond (is_below d s t) (reaches t (state_at d t).first) 0) n at)
    where
      at : (t : ℕ) → t < n → reach n own (cond (is_below d s t) (earlier s k (spot t (state_at d t).first)) stop) ≡ cond (is_below d s t) (reaches t (state_at d t).first) 0
      at t l = by (is_below d s t) refl
        where
          here : Spot
          here = spot t (state_at d t).first

          by : (b : Bool) → is_below d s t ≡ b → reach n own (cond b (earlier s k here) stop) ≡ cond b (reaches t (state_at d t).first) 0
          by false e = refl
          by true e =
              ap (reach n own)
              (cond-true (ltb (spot_rank d here) (spot_rank d (spot s k))) (chains here) stop
              (lt-ltb (spot_rank d here) (spot_rank d (spot s k)) (later_rank s k t (below_after d links s t l e) l)))

  reach_opens : (s k : ℕ) → reaches s k ≡ reach_node d (own s) (falls s) (row s k) k
  unfolding reach
  reach_opens s k =
      let c : Command = command_at d k in
      ap (reach n own) (ranked_is (spot_rank d) stop (chain_node d) (spot s k))
      ∙ same_six (own s c) _ _ _ _ _ _ _ _ _ _ (link_same s k c.alt) (link_same s k c.next) (branch_same s k (is_if c.action) c.x)
      (branch_same s k (is_if c.action) c.i)
      (fall_same s k (is_fall c.action))

  reach_is : (s k : ℕ) → reaches s k ≡ row_reach d (own s) (falls s) k
  reach_is s = ranked_unique (chain_rank d) 0 (reach_node d (own s) (falls s)) (reaches s) (reach_opens s)

  -- a turn of the loop over the states: the falls of a state, its row, and the two tables with it
  pub falls_filled : (s : ℕ) (below : List Bool) (firsts : List ℕ) → ((t : ℕ) → t < n → get_or below t false ≡ is_below d s t) → Firsts d own (suc s) firsts → union (map (λ t. cond (get_or below t false) (get_or firsts t 0) 0) (range_with_len 0 n)) ≡ falls s
  falls_filled s below firsts p q =
      ap union (map_same (λ t. cond (get_or below t false) (get_or firsts t 0) 0) (λ t. cond (is_below d s t) (reaches t (state_at d t).first) 0) n at)
    where
      at : (t : ℕ) → t < n → cond (get_or below t false) (get_or firsts t 0) 0 ≡ cond (is_below d s t) (reaches t (state_at d t).first) 0
      at t l = ap (λ b. cond b (get_or firsts t 0) 0) (p t l) ∙ by (is_below d s t) refl
        where
          by : (b : Bool) → is_below d s t ≡ b → cond b (get_or firsts t 0) 0 ≡ cond b (reaches t (state_at d t).first) 0
          by true e = q t (below_after d links s t l e) l
          by false e = refl

  pub row_filled : (s found : ℕ) (xs : List ℕ) → found ≡ falls s → Holds 0 (λ j. ltb j d.head.commands) (row_reach d (own s) found) xs → (k : ℕ) → k < d.head.commands → get_or xs k 0 ≡ reaches s k
  row_filled s found xs e h k l =
      held 0 d.head.commands (row_reach d (own s) found) xs h k l ∙ ap (λ f. row_reach d (own s) f k) e ∙ sym (reach_is s k)

  pub firsts_more : (s : ℕ) (xs : List ℕ) (v : ℕ) → s < length xs → v ≡ reaches s (state_at d s).first → Firsts d own (suc s) xs → Firsts d own s (set xs s v)
  firsts_more s xs v l e h t m w =
      let here = get_or-set_same xs s v 0 l in
      let apart = get_or-set_other xs s t v 0 in
      let before = h t in
      grind (arith, nat_tests)

  pub reached_more : (s : ℕ) (xs ys row owners : List ℕ) → d.head.commands ≤ 256 → ((k : ℕ) → k < 256 → get_or ys k 0 ≡ cond (eqb (get_or owners k 0) s) (get_or row k 0) (get_or xs k 0)) → ((k : ℕ) → k < d.head.commands → get_or owners k 0 ≡ owner_of d k) → ((k : ℕ) → k < d.head.commands → get_or row k 0 ≡ reaches s k) → Reached d own (suc s) xs → Reached d own s ys
  reached_more s xs ys row owners few put owns rows h k l m =
      let placed = put k (omega arith) in
      let owned = owns k l in
      let own_row = rows k l in
      let before = h k l in
      grind (arith, nat_tests)
