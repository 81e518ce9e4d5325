-- What a command links to, and the chain from a command on, opened. Assumes nothing.
use Rattle.std.proofs.Common.{◌≡◌, ℕ, suc, ◌+◌, ◌-◌, ◌*◌, ◌<◌, ◌≤◌, Bool, true, false, cond, not, ◌&&◌, ◌||◌, ltb, Some, None, Option, sym, refl, ap, ◌∙◌, subst, mul_comm, arith}
use Rattle.std.proofs.lemmas.Nat.{mul-add-lt}
use Rattle.std.proofs.lemmas.Bool.{and_parts, and_from, or_left, or_right, eqb-true, ltb-true, lt-ltb, eq-eqb, le-ltb, not-false, cond-true, cond-false}
use Rattle.std.proofs.lemmas.Bool.Decides.{nat_tests}
use Rattle.records.specs.declared.Command.{Command}
use Rattle.records.specs.declared.Action.{Action}
use Rattle.records.specs.declared.Action.TheVariants.{If}
use Rattle.search.specs.First.{first, some_below}
use Rattle.search.specs.Sum.{sum_below}
use Rattle.search.proofs.Firsts.{first_is}
use Rattle.rules.specs.Rules.{commands_kind, linked, later, fields_linked, once, command_names, times_named, command_linked}
use Rattle.shape.specs.Rank.{lower, ranked}
use Rattle.shape.specs.Shape.{Design, command_at, state_at, holds, is_if, links, is_first, links_to, owner_of, owner_node, chain_rank}
use Rattle.rules.proofs.Ranking.{ranked_is}
use Rattle.design.specs.Chains.{Chain, stop, run, Spot, spot, spot_rank, link, chain_node, is_below, is_fall}
use Rattle.design.proofs.Kept.{neither, none_breaks}
use Rattle.design.proofs.Reaching.{first_within, below_after}
use Rattle.machine.specs.Links.{chain_of, rank_of, states_of, Names}
use Rattle.machine.proofs.Sums.{term_below, apart_below}

pub commands_linked : (d : Design) → linked d ≡ None → (k : ℕ) → k < d.head.commands → command_linked d k ≡ true
commands_linked d e k l =
    not-false (command_linked d k) (none_breaks 4 commands_kind d.head.commands (λ n. not (command_linked d n)) (neither _ _ e).1 k l)

-- a command is named once
pub named_once : (d : Design) → linked d ≡ None → (k : ℕ) → k < d.head.commands → times_named d k ≡ 1
named_once d e k l = eqb-true (times_named d k) 1 (and_parts _ _ (commands_linked d e k l)).1

-- a command names k exactly if it does so at least once
some_one : (b : Bool) → ltb 0 (cond b 1 0) ≡ b
some_one b = grind arith

some_sum : (a b : ℕ) → ltb 0 (a + b) ≡ (ltb 0 a || ltb 0 b)
some_sum a b = grind (arith, nat_tests)

some_if : (b : Bool) (a : ℕ) → ltb 0 (cond b a 0) ≡ (b && ltb 0 a)
some_if b a = grind arith

links_if_named : (c : Command) (k : ℕ) → ltb 0 (command_names c k) ≡ links c k
links_if_named c k = simp (some_one, some_sum, some_if)

no_one : (b : Bool) → cond b 1 0 < 1 → b ≡ false
no_one b l = grind (arith, l)

not_named : (c : Command) (k : ℕ) → command_names c k < 1 → links c k ≡ false
not_named c k l = sym (links_if_named c k) ∙ le-ltb 0 (command_names c k) (omega arith)

-- the state that names a command as its first is its owner
pub owner_first : (d : Design) → linked d ≡ None → (s : ℕ) → s < d.head.states → owner_of d (state_at d s).first ≡ s
owner_first d e s l =
    ranked_is (λ i. i) 0 (owner_node d) k
    ∙ cond-true (some_below (is_first d k) n) (first (is_first d k) n) _ (lt-ltb (first (is_first d k) n) n (subst (λ t. t < n) (sym found) l)) ∙ found
  where
    k : ℕ
    k = (state_at d s).first

    n : ℕ
    n = d.head.states

    here : is_first d k s ≡ true
    here = eq-eqb k k refl

    one : sum_below (λ t. once (Some (state_at d t).first) k) n ≤ 1
    one = omega (arith, named_once d e k (first_within d e s l))

    other : (t : ℕ) → t < s → is_first d k t ≡ false
    other t m =
        no_one (is_first d k t)
        (omega (arith, one, apart_below (λ t. once (Some (state_at d t).first) k) n t s (omega arith) l (λ r. omega arith), cond-true {A = ℕ} (is_first d k s) 1 0 here))

    found : first (is_first d k) n ≡ s
    found = first_is (is_first d k) n s (omega arith) other (λ _. here)

-- the owner of the command that names a command is its owner
owner_named : (d : Design) → linked d ≡ None → (j m : ℕ) → j < m → m < d.head.commands → links (command_at d j) m ≡ true → owner_of d m ≡ owner_of d j
owner_named d e j m l w named =
    ranked_is (λ i. i) 0 (owner_node d) m
    ∙ cond-false (some_below (is_first d m) n) (first (is_first d m) n) _ (le-ltb (first (is_first d m) n) n (subst (λ t. n ≤ t) (sym unfound) (omega arith)))
    ∙ ap (lower (λ i. i) 0 (owner_node d) (owner_of d) m) found
    ∙ cond-true (ltb j m) (owner_of d j) 0 (lt-ltb j m l)
  where
    n : ℕ
    n = d.head.states

    some : 0 < command_names (command_at d j) m
    some = ltb-true 0 (command_names (command_at d j) m) (links_if_named (command_at d j) m ∙ named)

    once_named : times_named d m ≡ 1
    once_named = named_once d e m w

    by_commands : ℕ → ℕ
    by_commands i = command_names (command_at d i) m

    by_states : ℕ → ℕ
    by_states t = once (Some (state_at d t).first) m

    no_state : (t : ℕ) → t < n → is_first d m t ≡ false
    no_state t q = no_one (is_first d m t) (omega (arith, once_named, some, term_below by_states n t q, term_below by_commands d.head.commands j (omega arith)))

    other : (i : ℕ) → i < j → links_to d m i ≡ false
    other i q =
        not_named (command_at d i) m
        (omega (arith, once_named, some, apart_below by_commands d.head.commands i j (omega arith) (omega arith) (λ r. omega arith)))

    unfound : first (is_first d m) n ≡ n
    unfound = first_is (is_first d m) n n (omega arith) no_state (λ q. absurd (omega arith))

    found : first (links_to d m) m ≡ j
    found = first_is (links_to d m) m j (omega arith) other (λ _. named)

-- a link of command k: to a later command of the same state
abbrev pub LinkFrom : Design → ℕ → Option ℕ → Type 0
LinkFrom d k o = (m : ℕ) → o ≡ Some m → (k < m) × (m < d.head.commands) × (owner_of d m ≡ owner_of d k)

pub names_link : (d : Design) (k : ℕ) (o : Option ℕ) → LinkFrom d k o → Names d o
names_link d k None h = tt
names_link d k (Some j) h = (h j refl).1

pub record LinkedNode (d : Design) (k : ℕ) : Type 0 where
  pub alt : LinkFrom d k (command_at d k).alt
  pub next : LinkFrom d k (command_at d k).next
  pub then_branch : is_if (command_at d k).action ≡ true → LinkFrom d k (command_at d k).x
  pub else_branch : is_if (command_at d k).action ≡ true → LinkFrom d k (command_at d k).i

-- what holds for a link, and what its field names
later_if : (k n : ℕ) (o : Option ℕ) → later k n o ≡ true → (m : ℕ) → o ≡ Some m → (k < m) × (m < n)
later_if k n o h m e = let h' = rw e at h in (grind (arith, nat_tests, h'), grind (arith, nat_tests, h'))

held_if : (o : Option ℕ) (m : ℕ) → o ≡ Some m → holds o m ≡ true
held_if o m e = ap (λ p. holds p m) e ∙ eq-eqb m m refl

if_only : (a : Action) → is_if a ≡ true → a ≡ If
if_only a e = grind (arith, e)

branches_later : (d : Design) (k : ℕ) → fields_linked d k ≡ true → is_if (command_at d k).action ≡ true → (later k d.head.commands (command_at d k).x ≡ true) × (later k d.head.commands (command_at d k).i ≡ true)
branches_later d k h i = and_parts _ _ (and_parts _ _ (rw (if_only (command_at d k).action i) at h)).0

or_left_left : (a b c : Bool) → a ≡ true → ((a || b) || c) ≡ true
or_left_left a b c e = grind (arith, e)

or_left_right : (a b c : Bool) → b ≡ true → ((a || b) || c) ≡ true
or_left_right a b c e = grind (arith, e)

-- a command names only later commands, in its own state
pub linked_node : (d : Design) → linked d ≡ None → (k : ℕ) → k < d.head.commands → LinkedNode d k
linked_node d e k l =
    record {
      alt = from c.alt (and_parts _ _ fields.1).1 (λ m h. or_left_right (holds c.next m) (holds c.alt m) (branch m) h);
      next = from c.next (and_parts _ _ fields.1).0 (λ m h. or_left_left (holds c.next m) (holds c.alt m) (branch m) h);
      then_branch = λ i. from c.x (branches_later d k fields.0 i).0 (λ m h. or_right (straight m) (branch m) (and_from (is_if c.action) _ i (or_left (holds c.x m) (holds c.i m) h)));
      else_branch = λ i. from c.i (branches_later d k fields.0 i).1 (λ m h. or_right (straight m) (branch m) (and_from (is_if c.action) _ i (or_right (holds c.x m) (holds c.i m) h)));
    }
  where
    c : Command
    c = command_at d k

    straight : ℕ → Bool
    straight m = holds c.next m || holds c.alt m

    branch : ℕ → Bool
    branch m = is_if c.action && (holds c.x m || holds c.i m)

    fields : (fields_linked d k ≡ true) × ((later k d.head.commands c.next && later k d.head.commands c.alt) ≡ true)
    fields = and_parts _ _ (and_parts _ _ (commands_linked d e k l)).0

    from : (o : Option ℕ) → later k d.head.commands o ≡ true → ((m : ℕ) → holds o m ≡ true → links c m ≡ true) → LinkFrom d k o
    from o h named m r =
        let at : (k < m) × (m < d.head.commands) = later_if k d.head.commands o h m r in
        (at.0, at.1, owner_named d e k m at.0 at.1 (named m (held_if o m r)))

-- ranks fall from a command to its links
rank_gap : (a b w x y : ℕ) → a < b → x < w → a * w + x < b * w + y
rank_gap a b w x y l m = omega (arith, mul-add-lt a w x b l m, mul_comm b w)

rank_small : (c j : ℕ) → cond (ltb j c) (c - j) (suc c) < c + 2
rank_small c j = grind (arith, nat_tests)

later_rank : (d : Design) (s k t : ℕ) → s < t → t < d.head.states → spot_rank d (spot t (state_at d t).first) < spot_rank d (spot s k)
later_rank d s k t l m =
    rank_gap (d.head.states - t) (d.head.states - s) (d.head.commands + 2) (chain_rank d (state_at d t).first) (chain_rank d k) (omega arith)
    (rank_small d.head.commands (state_at d t).first)

next_rank : (d : Design) (s k m : ℕ) → k < m → m < d.head.commands → spot_rank d (spot s m) < spot_rank d (spot s k)
next_rank d s k m l w = grind (arith, nat_tests, l, w)

abbrev pub Falls : Design → ℕ → Option ℕ → Type 0
Falls d k o = rank_of d o < rank_of d (Some k)

link_falls : (d : Design) (k : ℕ) (o : Option ℕ) → LinkFrom d k o → Falls d k o
link_falls d k None h = omega arith
link_falls d k (Some m) h =
    let at = h m refl in
    rw at.2 (omega (arith, next_rank d (owner_of d k) k m at.0 at.1))

pub record RanksFall (d : Design) (k : ℕ) : Type 0 where
  pub alt : Falls d k (command_at d k).alt
  pub next : Falls d k (command_at d k).next
  pub then_branch : is_if (command_at d k).action ≡ true → Falls d k (command_at d k).x
  pub else_branch : is_if (command_at d k).action ≡ true → Falls d k (command_at d k).i
  pub states : (t : ℕ) → t < d.head.states → is_below d (owner_of d k) t ≡ true → Falls d k (Some (state_at d t).first)

pub rank_falls : (d : Design) → linked d ≡ None → (k : ℕ) → k < d.head.commands → RanksFall d k
rank_falls d e k l =
    let c : Command = command_at d k in
    let node : LinkedNode d k = linked_node d e k l in
    record {
      alt = link_falls d k c.alt node.alt;
      next = link_falls d k c.next node.next;
      then_branch = λ i. link_falls d k c.x (node.then_branch i);
      else_branch = λ i. link_falls d k c.i (node.else_branch i);
      states = λ t m b. rw (owner_first d e t m) (omega (arith, later_rank d (owner_of d k) k t (below_after d e (owner_of d k) t m b) m));
    }

-- the chain of a link of a command, in the command's state
module _ (d : Design) (k : ℕ) where
  abbrev before : Spot → Chain
  before = lower (spot_rank d) stop (chain_node d) (ranked (spot_rank d) stop (chain_node d)) (spot (owner_of d k) k)

  link_is : (o : Option ℕ) → LinkFrom d k o → link before (owner_of d k) o ≡ chain_of d o
  link_is None h = refl
  link_is (Some m) h =
      let s : ℕ = owner_of d k in
      let at = h m refl in
      rw (lt-ltb (spot_rank d (spot s m)) (spot_rank d (spot s k)) (next_rank d s k m at.0 at.1), at.2) refl

  branch_is : (b : Bool) (o : Option ℕ) → (b ≡ true → LinkFrom d k o) → cond b (link before (owner_of d k) o) stop ≡ cond b (chain_of d o) stop
  branch_is true o h = link_is o (h refl)
  branch_is false o h = refl

-- the chain from a command on, opened
pub opens : (d : Design) → linked d ≡ None → (k : ℕ) → k < d.head.commands → chain_of d (Some k) ≡ run (owner_of d k) k (command_at d k) (chain_of d (command_at d k).alt) (chain_of d (command_at d k).next) (cond (is_if (command_at d k).action) (chain_of d (command_at d k).x) stop) (cond (is_if (command_at d k).action) (chain_of d (command_at d k).i) stop) (states_of d k)
opens d e k l =
    let c : Command = command_at d k in
    let node : LinkedNode d k = linked_node d e k l in
    ranked_is (spot_rank d) stop (chain_node d) (spot (owner_of d k) k)
    ∙ same_run _ _ _ _ _ _ _ _ (link_is d k c.alt node.alt) (link_is d k c.next node.next)
    (branch_is d k (is_if c.action) c.x node.then_branch) (branch_is d k (is_if c.action) c.i node.else_branch)
  where
    same_run : (a b x y a' b' x' y' : Chain) → a ≡ a' → b ≡ b' → x ≡ x' → y ≡ y' → run (owner_of d k) k (command_at d k) a b x y (states_of d k) ≡ run (owner_of d k) k (command_at d k) a' b' x' y' (states_of d k)
    same_run a b x y a' b' x' y' p q r s = cc

-- the chains of the states below, for a fall
pub opens_states : (d : Design) → linked d ≡ None → (k t : ℕ) → t < d.head.states → states_of d k t ≡ cond (is_fall (command_at d k).action && is_below d (owner_of d k) t) (chain_of d (Some (state_at d t).first)) stop
opens_states d e k t l = by (is_fall (command_at d k).action) (is_below d s t) refl
  where
    s : ℕ
    s = owner_of d k

    there : Spot
    there = spot t (state_at d t).first

    by : (b u : Bool) → is_below d s t ≡ u → cond (b && u) (before d k there) stop ≡ cond (b && u) (chain_of d (Some (state_at d t).first)) stop
    by false u q = refl
    by true false q = refl
    by true true q =
        rw (lt-ltb (spot_rank d there) (spot_rank d (spot s k)) (later_rank d s k t (below_after d e s t l q) l), owner_first d e t l) refl
