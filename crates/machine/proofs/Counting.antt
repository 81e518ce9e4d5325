-- A cycle makes at most as many reports as the design has commands. Assumes nothing.
use Rattle.std.proofs.Common.{◌≡◌, ℕ, zero, suc, ◌+◌, ◌*◌, ◌<◌, ◌≤◌, Bool, true, false, cond, not, ◌&&◌, ◌||◌, ltb, map, Some, None, Option, sym, refl, ap, ◌∙◌, subst, add-mul, one-mul, zero-mul, arith}
use Rattle.std.specs.List.{range_with_len}
use Rattle.std.proofs.lemmas.Bool.Decides.{nat_tests}
use Rattle.std.proofs.lemmas.Bool.{and_parts, and_from, or_left, or_right, lt-ltb, not-false, cond-true, cond-false, cond_both}
use Rattle.records.specs.declared.Command.{Command}
use Rattle.records.specs.declared.Action.{Action}
use Rattle.search.specs.Sum.{sum_below}
use Rattle.rules.specs.Rules.{commands_kind, sizes, linked, ended, once, branch_names, command_names, times_named, same, command_ends}
use Rattle.shape.specs.Rank.{lower, ranked}
use Rattle.shape.specs.Shape.{Design, command_at, state_at, given, is_if, leaves, owner_of, branch_ends, is_last, chain_ends, ends_node, chain_rank, ends_of}
use Rattle.rules.proofs.Ranking.{ranked_is}
use Rattle.design.specs.Chains.{Chain, stop, run, is_below, is_fall}
use Rattle.design.proofs.Kept.{neither, none_breaks, sized_if}
use Rattle.design.proofs.Reaching.{first_within, below_after}
use Rattle.machine.specs.Links.{chain_of, rank_of, states_of}
use Rattle.machine.specs.Reports.{largest, most_reports}
use Rattle.machine.proofs.Sums.{sum_same, sum_add, sum_zero, sum_more, sum_weighed, sum_pick, past, past_more, past_first}
use Rattle.machine.proofs.Opening.{named_once, owner_first, LinkFrom, LinkedNode, linked_node, Falls, RanksFall, rank_falls, opens, opens_states}

-- the commands of a chain, those in states below left out
unfoldable pub size : Chain → ℕ
size stop = 0
size (run s k c alt next then_branch else_branch states) = suc ((size next + size alt) + (size then_branch + size else_branch))

-- how many commands there are from a command on, and from its links on
abbrev size_of : Design → Option ℕ → ℕ
size_of d o = size (chain_of d o)

abbrev branches_size : Design → ℕ → ℕ
branches_size d k = cond (is_if (command_at d k).action) (size_of d (command_at d k).x + size_of d (command_at d k).i) 0

abbrev links_size : Design → ℕ → ℕ
links_size d k = (size_of d (command_at d k).next + size_of d (command_at d k).alt) + branches_size d k

branches_are : (b : Bool) (x y : Chain) → size (cond b x stop) + size (cond b y stop) ≡ cond b (size x + size y) 0
unfolding size
branches_are b x y = grind arith

size_opens : (d : Design) → linked d ≡ None → (k : ℕ) → k < d.head.commands → size_of d (Some k) ≡ suc (links_size d k)
unfolding size
size_opens d links k l =
    let c : Command = command_at d k in
    ap size (opens d links k l) ∙ ap (λ b. suc ((size_of d c.next + size_of d c.alt) + b)) (branches_are (is_if c.action) (chain_of d c.x) (chain_of d c.i))

-- a sum over the commands, each as often as f says and with all that follow it
module _ (d : Design) where
  abbrev commands : ℕ
  commands = d.head.commands

  abbrev weight : ℕ → ℕ
  weight k = size_of d (Some k)

  abbrev weighed : (ℕ → ℕ) → ℕ
  weighed f = sum_below (λ k. f k * weight k) commands

  abbrev first_of : ℕ → ℕ
  first_of s = (state_at d s).first

  weighed_none : weighed (λ k. 0) ≡ 0
  weighed_none = sum_zero (λ k. 0 * weight k) commands (λ k l. zero-mul (weight k))

  weighed_add : (f g : ℕ → ℕ) → weighed (λ k. f k + g k) ≡ weighed f + weighed g
  weighed_add f g =
      sum_same (λ k. (f k + g k) * weight k) (λ k. f k * weight k + g k * weight k) commands (λ k l. add-mul (f k) (g k) (weight k))
      ∙ sum_add (λ k. f k * weight k) (λ k. g k * weight k) commands

  field_weighed : (o : Option ℕ) → ((m : ℕ) → o ≡ Some m → m < commands) → weighed (once o) ≡ size_of d o
  unfolding size
  field_weighed None h = weighed_none
  field_weighed (Some m) h = sum_pick weight commands m (h m refl)

  branches_weighed : (b : Bool) (x y : Option ℕ) → (b ≡ true → weighed (once x) ≡ size_of d x) → (b ≡ true → weighed (once y) ≡ size_of d y) → weighed (λ k. cond b (once x k + once y k) 0) ≡ cond b (size_of d x + size_of d y) 0
  branches_weighed true x y p q = weighed_add (once x) (once y) ∙ (let p' = p refl in let q' = q refl in omega arith)
  branches_weighed false x y p q = weighed_none

-- each command counts where it is named, and it is named once
module _ (d : Design) (links : linked d ≡ None) where
  command_weighed : (j : ℕ) → j < d.head.commands → weighed d (command_names (command_at d j)) ≡ links_size d j
  command_weighed j l =
      let c : Command = command_at d j in
      let node : LinkedNode d j = linked_node d links j l in
      weighed_add d (λ k. once c.next k + once c.alt k) (branch_names c)
      ∙ omega (
        arith,
        weighed_add d (once c.next) (once c.alt),
        field_weighed d c.next (λ m e. (node.next m e).1),
        field_weighed d c.alt (λ m e. (node.alt m e).1),
        branches_weighed d (is_if c.action) c.x c.i (λ i. field_weighed d c.x (λ m e. (node.then_branch i m e).1))
            (λ i. field_weighed d c.i (λ m e. (node.else_branch i m e).1)),
      )

  -- the commands of all states are the commands
  pub sizes_are : sum_below (λ s. weight d (first_of d s)) d.head.states ≡ d.head.commands
  sizes_are = omega (arith, total, by_links, all)
    where
      by_states : ℕ → ℕ
      by_states k = sum_below (λ s. once (Some (first_of d s)) k) d.head.states

      by_commands : ℕ → ℕ
      by_commands k = sum_below (λ j. command_names (command_at d j) k) d.head.commands

      from_states : weighed d by_states ≡ sum_below (λ s. weight d (first_of d s)) d.head.states
      from_states =
          sum_weighed (weight d) (λ s. once (Some (first_of d s))) d.head.commands d.head.states
          ∙ sum_same (λ s. weighed d (once (Some (first_of d s)))) (λ s. weight d (first_of d s)) d.head.states (λ s l. sum_pick (weight d) d.head.commands (first_of d s) (first_within d links s l))

      from_commands : weighed d by_commands ≡ sum_below (links_size d) d.head.commands
      from_commands =
          sum_weighed (weight d) (λ j. command_names (command_at d j)) d.head.commands d.head.commands
          ∙ sum_same (λ j. weighed d (command_names (command_at d j))) (links_size d) d.head.commands command_weighed

      once_each : weighed d (times_named d) ≡ sum_below (weight d) d.head.commands
      once_each = sum_same (λ k. times_named d k * weight d k) (weight d) d.head.commands (λ k l. ap (λ t. t * weight d k) (named_once d links k l) ∙ one-mul (weight d k))

      total : sum_below (weight d) d.head.commands ≡ sum_below (λ s. weight d (first_of d s)) d.head.states + sum_below (links_size d) d.head.commands
      total = sym once_each ∙ weighed_add d by_states by_commands ∙ omega (arith, from_states, from_commands)

      by_links : sum_below (weight d) d.head.commands ≡ sum_below (λ k. suc (links_size d k)) d.head.commands
      by_links = sum_same (weight d) (λ k. suc (links_size d k)) d.head.commands (size_opens d links)

      all : sum_below (λ k. suc (links_size d k)) d.head.commands ≡ d.head.commands + sum_below (links_size d) d.head.commands
      all = sum_more (links_size d) d.head.commands

-- the largest of what is at most a number
largest_below : (f : ℕ → ℕ) (bound a n : ℕ) → ((t : ℕ) → a ≤ t → t < a + n → f t ≤ bound) → largest (map f (range_with_len a n)) ≤ bound
largest_below f bound a zero h = omega arith
largest_below f bound a (suc n) h = omega (arith, h a (omega arith) (omega arith), largest_below f bound (a + 1) n (λ t l m. h t (omega arith) (omega arith)))

-- what the rule on ends says of a command
same_true : (a b : Bool) → same a b ≡ true → a ≡ true → b ≡ true
same_true a b h e = grind (arith, h, e)

true_same : (a b : Bool) → same a b ≡ true → b ≡ true → a ≡ true
true_same a b h e = grind (arith, h, e)

or_if : (a b : Bool) → (not a || b) ≡ true → a ≡ true → b ≡ true
or_if a b h e = grind (arith, h, e)

and_not : (a b : Bool) → not (a && b) ≡ true → b ≡ true → a ≡ false
and_not a b h e = grind (arith, h, e)

fall_leaves : (a : Action) → is_fall a ≡ true → leaves a ≡ true
fall_leaves a e = grind (arith, e)

given_ends : (ends : ℕ → Bool) (o : Option ℕ) → branch_ends ends o ≡ true → given o ≡ true
given_ends ends o e = grind (arith, e)

-- only a last command is followed by no next, and only its links end
record Ends (ends : ℕ → Bool) (c : Command) : Type 0 where
  next : given c.next ≡ true → is_last ends c ≡ false
  alt : branch_ends ends c.alt ≡ true → is_last ends c ≡ true
  then_branch : is_if c.action ≡ true → branch_ends ends c.x ≡ true → is_last ends c ≡ true
  else_branch : is_if c.action ≡ true → branch_ends ends c.i ≡ true → is_last ends c ≡ true
  falls : is_fall c.action ≡ true → is_last ends c ≡ true

ends_if : (ends : ℕ → Bool) (c : Command) → command_ends ends c ≡ true → Ends ends c
ends_if ends c h =
    record {
      next = and_not (is_last ends c) (given c.next) two.0;
      alt = λ e. left (same_true (branch_ends ends c.alt) (leaves c.action) (or_if (given c.alt) _ one.1 (given_ends ends c.alt e)) e);
      then_branch = λ i e. both i e (same_true (branch_ends ends c.x) (branch_ends ends c.i) (or_if (is_if c.action) _ two.1 i) e);
      else_branch = λ i e. both i (true_same (branch_ends ends c.x) (branch_ends ends c.i) (or_if (is_if c.action) _ two.1 i) e) e;
      falls = λ e. left (fall_leaves c.action e);
    }
  where
    one : ((not (is_last ends c && given c.next) && (not (is_if c.action) || same (branch_ends ends c.x) (branch_ends ends c.i))) ≡ true) × ((not (given c.alt) || same (branch_ends ends c.alt) (leaves c.action)) ≡ true)
    one = and_parts _ _ h

    two : (not (is_last ends c && given c.next) ≡ true) × ((not (is_if c.action) || same (branch_ends ends c.x) (branch_ends ends c.i)) ≡ true)
    two = and_parts _ _ one.0

    left : leaves c.action ≡ true → is_last ends c ≡ true
    left e = or_left (leaves c.action) _ e

    both : is_if c.action ≡ true → branch_ends ends c.x ≡ true → branch_ends ends c.i ≡ true → is_last ends c ≡ true
    both i p q = or_right (leaves c.action) _ (and_from (is_if c.action) _ i (and_from (branch_ends ends c.x) (branch_ends ends c.i) p q))

-- whether the chain from a command on ends, opened
module _ (d : Design) (links : linked d ≡ None) where
  later_ranks : (k m : ℕ) → k < m → m < d.head.commands → chain_rank d m < chain_rank d k
  later_ranks k m l w = grind (arith, nat_tests, l, w)

  abbrev ends_all : ℕ → Bool
  ends_all = ranked (chain_rank d) false (ends_node d)

  abbrev ends_later : ℕ → ℕ → Bool
  ends_later k = lower (chain_rank d) false (ends_node d) ends_all k

  ends_link : (k : ℕ) (o : Option ℕ) → LinkFrom d k o → branch_ends (ends_later k) o ≡ branch_ends (ends_of d) o
  ends_link k None h = refl
  ends_link k (Some m) h =
      let at = h m refl in
      rw (lt-ltb (chain_rank d m) (chain_rank d k) (later_ranks k m at.0 at.1), lt-ltb m d.head.commands at.1) refl

  and_same : (b x x' y y' : Bool) → (b ≡ true → x ≡ x') → (b ≡ true → y ≡ y') → (b && (x && y)) ≡ (b && (x' && y'))
  and_same b x x' y y' p q = grind (arith, p, q)

  ends_opens : (k : ℕ) → k < d.head.commands → ends_of d k ≡ chain_ends (ends_of d) (command_at d k)
  ends_opens k l =
      let c : Command = command_at d k in
      let node : LinkedNode d k = linked_node d links k l in
      let next_same = ends_link k c.next node.next in
      let last_same : is_last (ends_later k) c ≡ is_last (ends_of d) c = ap (λ b. leaves c.action || b) (and_same (is_if c.action) _ _ _ _ (λ i. ends_link k c.x (node.then_branch i)) (λ i. ends_link k c.i (node.else_branch i))) in
      cond-true (ltb k d.head.commands) (ends_all k) false (lt-ltb k d.head.commands l) ∙ ranked_is (chain_rank d) false (ends_node d) k
      ∙ ap (λ b. cond (given c.next) b (is_last (ends_later k) c)) next_same
      ∙ ap (λ b. cond (given c.next) (branch_ends (ends_of d) c.next) b) last_same

  commands_end : ended d ≡ None → (k : ℕ) → k < d.head.commands → Ends (ends_of d) (command_at d k)
  commands_end e k l =
      ends_if (ends_of d) (command_at d k)
      (not-false (command_ends (ends_of d) (command_at d k)) (none_breaks 7 commands_kind d.head.commands (λ n. not (command_ends (ends_of d) (command_at d n))) (neither _ _ e).1 k l))

-- a number that counts only where a test passes
cond_less : (a b : Bool) (n : ℕ) → (a ≡ true → b ≡ true) → cond a n 0 ≤ cond b n 0
cond_less a b n h = grind (arith, h)

cond_most : (a : Bool) (n : ℕ) → cond a n 0 ≤ n
cond_most a n = grind arith

cond_add : (b : Bool) (x y : ℕ) → cond b (x + y) 0 ≡ cond b x 0 + cond b y 0
cond_add b x y = grind arith

-- at most one report for each command of the chain, and where it ends for each command of the later states
module _ (d : Design) where
  abbrev most : Chain → ℕ
  most = most_reports d.head.states

  abbrev after : ℕ → ℕ
  after s = past (λ u. size_of d (Some (state_at d u).first)) s d.head.states

  abbrev Few : ℕ → Option ℕ → Type 0
  Few s o = most (chain_of d o) ≤ size_of d o + cond (branch_ends (ends_of d) o) (after s) 0

  most_stop : most stop ≡ 0
  unfolding most_reports
  most_stop = refl

module _ (d : Design) (links : linked d ≡ None) (ends : ended d ≡ None) where
  run_few : (k : ℕ) → k < d.head.commands → ((m : ℕ) → Falls d k (Some m) → m < d.head.commands → Few d (owner_of d m) (Some m)) → Few d (owner_of d k) (Some k)
  unfolding most_reports
  run_few k l before =
      omega (
        arith,
        ap (most d) (opens d links k l),
        size_opens d links k l,
        linked_last c.alt node.alt ranks.alt rule.alt,
        branch_last c.x (λ i. linked_last c.x (node.then_branch i) (ranks.then_branch i) (rule.then_branch i)),
        branch_last c.i (λ i. linked_last c.i (node.else_branch i) (ranks.else_branch i) (rule.else_branch i)),
        largest_below (λ t. most d (states_of d k t)) last 0 d.head.states (λ t _ m. falls t (omega arith)),
        next_last,
        cond_add (is_if c.action) (size_of d c.x) (size_of d c.i),
      )
    where
      c : Command
      c = command_at d k

      s : ℕ
      s = owner_of d k

      node : LinkedNode d k
      node = linked_node d links k l

      ranks : RanksFall d k
      ranks = rank_falls d links k l

      rule : Ends (ends_of d) c
      rule = commands_end d links ends k l

      last : ℕ
      last = cond (is_last (ends_of d) c) (after d s) 0

      link : (o : Option ℕ) → LinkFrom d k o → Falls d k o → Few d s o
      link None h f = omega (arith, most_stop d)
      link (Some m) h f = subst (λ t. Few d t (Some m)) (h m refl).2 (before m f (h m refl).1)

      linked_last : (o : Option ℕ) → LinkFrom d k o → Falls d k o → (branch_ends (ends_of d) o ≡ true → is_last (ends_of d) c ≡ true) → most d (chain_of d o) ≤ size_of d o + last
      linked_last o h f e = omega (arith, link o h f, cond_less (branch_ends (ends_of d) o) (is_last (ends_of d) c) (after d s) e)

      branch_last : (o : Option ℕ) → (is_if c.action ≡ true → most d (chain_of d o) ≤ size_of d o + last) → most d (cond (is_if c.action) (chain_of d o) stop) ≤ cond (is_if c.action) (size_of d o) 0 + last
      branch_last o h = by (is_if c.action) h
        where
          by : (b : Bool) → (b ≡ true → most d (chain_of d o) ≤ size_of d o + last) → most d (cond b (chain_of d o) stop) ≤ cond b (size_of d o) 0 + last
          by b q = grind (arith, q, most_stop d)

      falls : (t : ℕ) → t < d.head.states → most d (states_of d k t) ≤ last
      falls t m =
          subst (λ x. most d x ≤ last) (sym (opens_states d links k t m))
          (cond_both (is_fall c.action && is_below d s t) (chain_of d (Some (state_at d t).first)) stop (λ x. most d x ≤ last) inside (λ _. omega (arith, most_stop d)))
        where
          inside : (is_fall c.action && is_below d s t) ≡ true → most d (chain_of d (Some (state_at d t).first)) ≤ last
          inside b =
              let parts = and_parts (is_fall c.action) (is_below d s t) b in
              let few : Few d t (Some (state_at d t).first) = subst (λ u. Few d u (Some (state_at d t).first)) (owner_first d links t m) (before (state_at d t).first (ranks.states t m parts.1) (first_within d links t m)) in
              let all : last ≡ after d s = cond-true (is_last (ends_of d) c) (after d s) 0 (rule.falls parts.0) in
              omega (arith, few, all, cond_most (ends_of d (state_at d t).first) (after d t), past_more (λ u. size_of d (Some (state_at d u).first)) s t d.head.states (below_after d links s t m parts.1) m)

      next_last : most d (chain_of d c.next) + last ≤ size_of d c.next + cond (ends_of d k) (after d s) 0
      next_last = subst (λ b. most d (chain_of d c.next) + last ≤ size_of d c.next + cond b (after d s) 0) (sym (ends_opens d links k l)) (by c.next (link c.next node.next ranks.next) rule.next)
        where
          by : (o : Option ℕ) → Few d s o → (given o ≡ true → is_last (ends_of d) c ≡ false) → most d (chain_of d o) + last ≤ size_of d o + cond (cond (given o) (branch_ends (ends_of d) o) (is_last (ends_of d) c)) (after d s) 0
          by None h e = omega (arith, most_stop d)
          by (Some m) h e = omega (arith, h, cond-false (is_last (ends_of d) c) (after d s) 0 (e refl))

  few_fuel : (fuel k : ℕ) → rank_of d (Some k) < fuel → k < d.head.commands → Few d (owner_of d k) (Some k)
  few_fuel zero k m l = absurd (omega arith)
  few_fuel (suc fuel) k m l = run_few k l (λ j f. few_fuel fuel j (omega arith))

-- a cycle makes at most one report for each command
pub few_reports : (d : Design) → sizes d ≡ None → linked d ≡ None → ended d ≡ None → most_reports d.head.states (chain_of d (Some (state_at d 0).first)) ≤ d.head.commands
few_reports d sized links ends =
    let root : ℕ = (state_at d 0).first in
    let some : 0 < d.head.states = omega (arith, (sized_if d sized).some_states) in
    let within : root < d.head.commands = first_within d links 0 some in
    let few : Few d 0 (Some root) = subst (λ s. Few d s (Some root)) (owner_first d links 0 some) (few_fuel d links ends (suc (rank_of d (Some root))) root (omega arith) within) in
    omega (
      arith,
      few,
      cond_most (ends_of d root) (after d 0),
      past_first (λ u. size_of d (Some (state_at d u).first)) d.head.states some,
      sizes_are d links,
    )
