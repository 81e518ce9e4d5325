-- Every command of a chain stands in its own state. Assumes nothing.
use Rattle.std.proofs.Common.{◌≡◌, ℕ, zero, suc, ◌<◌, true, cond, ◌&&◌, Some, None, Option, sym, refl, subst, arith}
use Rattle.std.proofs.lemmas.Bool.{and_parts, cond_both}
use Rattle.records.specs.declared.Command.{Command}
use Rattle.shape.specs.Shape.{Design, command_at, state_at, is_if, owner_of}
use Rattle.rules.specs.Rules.{sizes, linked}
use Rattle.design.specs.Chains.{Chain, stop, run, is_below, is_fall}
use Rattle.design.proofs.Kept.{sized_if}
use Rattle.design.proofs.Reaching.{owner_below, first_within}
use Rattle.machine.specs.Links.{chain_of, rank_of, states_of, Names}
use Rattle.machine.proofs.Opening.{LinkFrom, LinkedNode, linked_node, names_link, Falls, RanksFall, rank_falls, opens, opens_states}

-- the commands of a chain are commands of the design, and each stands in the state that owns it
unfoldable pub Owned : Design → Chain → Type 0
Owned d stop = Unit {0}
Owned d (run s n c alt next then_branch else_branch states) =
    (n < d.head.commands) × (s < d.head.states) × (c ≡ command_at d n) × (s ≡ owner_of d n) × Owned d alt × Owned d next × Owned d then_branch
    × Owned d else_branch × ((u : ℕ) → u < d.head.states → Owned d (states u))

module _ (d : Design) where
  -- the chains of lower rank than command k are owned
  abbrev Lower : ℕ → Type 0
  Lower k = (o : Option ℕ) → Falls d k o → Names d o → Owned d (chain_of d o)

  stop_owned : Owned d stop
  unfolding Owned
  stop_owned = tt

module _ (d : Design) (sized : sizes d ≡ None) (links : linked d ≡ None) where
  run_owned : (k : ℕ) → k < d.head.commands → Lower d k → Owned d (chain_of d (Some k))
  unfolding Owned
  run_owned k l lower =
      subst (Owned d) (sym (opens d links k l)) (
        l,
        owner_below d k (omega (arith, (sized_if d sized).some_states)),
        refl,
        refl,
        link c.alt node.alt ranks.alt,
        link c.next node.next ranks.next,
        branch c.x node.then_branch ranks.then_branch,
        branch c.i node.else_branch ranks.else_branch,
        states,
      )
    where
      c : Command
      c = command_at d k

      node : LinkedNode d k
      node = linked_node d links k l

      ranks : RanksFall d k
      ranks = rank_falls d links k l

      link : (o : Option ℕ) → LinkFrom d k o → Falls d k o → Owned d (chain_of d o)
      link o h f = lower o f (names_link d k o h)

      branch : (o : Option ℕ) → (is_if c.action ≡ true → LinkFrom d k o) → (is_if c.action ≡ true → Falls d k o) → Owned d (cond (is_if c.action) (chain_of d o) stop)
      branch o h f = cond_both (is_if c.action) (chain_of d o) stop (Owned d) (λ i. link o (h i) (f i)) (λ _. stop_owned d)

      states : (u : ℕ) → u < d.head.states → Owned d (states_of d k u)
      states u m =
          subst (Owned d) (sym (opens_states d links k u m))
          (cond_both (is_fall c.action && is_below d (owner_of d k) u) (chain_of d (Some (state_at d u).first)) stop (Owned d)
          (λ b. lower (Some (state_at d u).first) (ranks.states u m (and_parts (is_fall c.action) (is_below d (owner_of d k) u) b).1) (first_within d links u m))
          (λ _. stop_owned d))

  owned_fuel : (fuel : ℕ) (o : Option ℕ) → rank_of d o < fuel → Names d o → Owned d (chain_of d o)
  owned_fuel zero o l w = absurd (omega arith)
  owned_fuel (suc fuel) None l w = stop_owned d
  owned_fuel (suc fuel) (Some k) l w = run_owned k w (λ o f. owned_fuel fuel o (omega arith))

-- the chain from a link on is owned
pub owned : (d : Design) → sizes d ≡ None → linked d ≡ None → (o : Option ℕ) → Names d o → Owned d (chain_of d o)
owned d sized links o = owned_fuel d sized links (suc (rank_of d o)) o (omega arith)
