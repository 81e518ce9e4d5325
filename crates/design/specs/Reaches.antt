-- The reach of a chain as it is worked out: a row of the reaches of all commands in one state, later commands first.
-- Assumes nothing.
use Rattle.std.specs.Prelude.{ℕ, cond, [], ◌∷◌, Some, None, Option}
use Rattle.records.specs.declared.Command.{Command}
use Rattle.shape.specs.Rank.{ranked}
use Rattle.shape.specs.Shape.{Design, command_at, is_if, chain_rank}
use Rattle.design.specs.Chains.{is_fall, union}

abbrev pub link_reach : (ℕ → ℕ) → Option ℕ → ℕ
link_reach row None = 0
link_reach row (Some m) = row m

-- the reach from a command on; `falls` is that of all states below
abbrev pub command_reach : (Command → ℕ) → ℕ → (ℕ → ℕ) → Command → ℕ
command_reach own falls row c =
    union
    (own c ∷ link_reach row c.alt ∷ link_reach row c.next ∷ cond (is_if c.action) (link_reach row c.x) 0
    ∷ cond (is_if c.action) (link_reach row c.i) 0
    ∷ cond (is_fall c.action) falls 0 ∷ [])

abbrev pub reach_node : Design → (Command → ℕ) → ℕ → (ℕ → ℕ) → ℕ → ℕ
reach_node d own falls row k = command_reach own falls row (command_at d k)

abbrev pub row_reach : Design → (Command → ℕ) → ℕ → ℕ → ℕ
row_reach d own falls = ranked (chain_rank d) 0 (reach_node d own falls)
