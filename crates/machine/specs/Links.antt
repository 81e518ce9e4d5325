-- The chain from a link on, and how far from its end it is. Assumes nothing.
use Rattle.std.specs.Prelude.{◌≡◌, ℕ, suc, ◌<◌, cond, ◌&&◌, Some, None, Option}
use Rattle.shape.specs.Rank.{lower, ranked}
use Rattle.shape.specs.Shape.{Design, command_at, state_at, is_if, owner_of}
use Rattle.design.specs.Chains.{Chain, stop, run, Spot, spot, spot_rank, chain_node, chain_at, is_below, is_fall}
use Rattle.actions.specs.Formulas.{formula_at, formula_node}

-- the chain from a link on
abbrev pub chain_of : Design → Option ℕ → Chain
chain_of d None = stop
chain_of d (Some k) = chain_at d (owner_of d k) k

-- it falls from a command to what the command links to
abbrev pub rank_of : Design → Option ℕ → ℕ
rank_of d None = 0
rank_of d (Some k) = suc (spot_rank d (spot (owner_of d k) k))

-- the chains of the states in which a fall goes on
abbrev pub states_of : Design → ℕ → ℕ → Chain
states_of d k t =
    let s : ℕ = owner_of d k in
    let before : Spot → Chain = lower (spot_rank d) stop (chain_node d) (ranked (spot_rank d) stop (chain_node d)) (spot s k) in
    cond (is_fall (command_at d k).action && is_below d s t) (before (spot t (state_at d t).first)) stop

-- a link is none, or names a command
abbrev pub Names : Design → Option ℕ → Type 0
Names d None = Unit {0}
Names d (Some k) = k < d.head.commands

-- Nothing of a design is cut off in its trees: the chain from a command on is the command with the chains of all that it
-- names, and an expression is its record with the expressions that it names.
pub record Whole (d : Design) : Type 0 where
  pub chains :
      (k : ℕ) → k < d.head.commands
      → chain_of d (Some k)
      ≡ run (owner_of d k) k (command_at d k) (chain_of d (command_at d k).alt) (chain_of d (command_at d k).next)
      (cond (is_if (command_at d k).action) (chain_of d (command_at d k).x) stop)
      (cond (is_if (command_at d k).action) (chain_of d (command_at d k).i) stop)
      (states_of d k)
  pub states :
      (k t : ℕ) → t < d.head.states
      → states_of d k t ≡ cond (is_fall (command_at d k).action && is_below d (owner_of d k) t) (chain_of d (Some (state_at d t).first)) stop
  pub formulas : (n : ℕ) → n < d.head.expressions → formula_at d n ≡ formula_node d (formula_at d) n
