-- The chains of commands as trees, the states below a state, and what a chain may reach. Assumes nothing.
use Rattle.std.specs.Prelude.{ℕ, ◌+◌, ◌-◌, ◌*◌, ◌^◌, Bool, true, false, cond, ◌&&◌, ◌||◌, List, [], ◌∷◌, map, Some, None, Option, ◌==◌}
use Rattle.std.specs.List.{range_with_len}
use Rattle.lattice.specs.Folds.{joined}
use Rattle.lattice.specs.Sets.{owners_joins}
use Rattle.search.specs.First.{first}
use Rattle.records.specs.declared.Command.{Command}
use Rattle.records.specs.declared.Action.{Action}
use Rattle.records.specs.declared.Action.TheVariants.{Set, Tag, If, Goto, Fall}
use Rattle.shape.specs.Rank.{ranked}
use Rattle.rules.specs.Rules.{has_children}
use Rattle.shape.specs.Shape.{Design, command_at, register_at, state_at, enforced, holds, is_child, is_if, chain_rank}

-- The chain from a command on: the command with its state, its number and its record, then the chains of its alt, of what
-- follows, and of its branches, and for a fall those of the states below its own.
pub data Chain : Type 0 where
  stop : Chain
  run : (state number : ℕ) → Command → (alt next then_branch else_branch : Chain) → (states : ℕ → Chain) → Chain

-- a command in a state
pub record Spot : Type 0 where
  pub state : ℕ
  pub command : ℕ

abbrev pub spot : ℕ → ℕ → Spot
spot s k = record { state = s; command = k }

-- state t is a descendant of state s: its parent is s or below s
abbrev pub under : ℕ → (ℕ → Bool) → Option ℕ → Bool
under s below None = false
under s below (Some p) = p == s || below p

abbrev pub below_node : Design → ℕ → (ℕ → Bool) → ℕ → Bool
below_node d s below t = under s below (state_at d t).parent

abbrev pub is_below : Design → ℕ → ℕ → Bool
is_below d s = ranked (λ t. t) false (below_node d s)

abbrev pub is_fall : Action → Bool
is_fall Set = false
is_fall Tag = false
is_fall If = false
is_fall Goto = false
is_fall Fall = true

-- Later commands of a state rank lower, and so does every command of a state with a larger number.
abbrev pub spot_rank : Design → Spot → ℕ
spot_rank d p = (d.head.states - p.state) * (d.head.commands + 2) + chain_rank d p.command

abbrev pub link : (Spot → Chain) → ℕ → Option ℕ → Chain
link chain s None = stop
link chain s (Some m) = chain (spot s m)

abbrev pub chain_node : Design → (Spot → Chain) → Spot → Chain
chain_node d chain p =
    let s : ℕ = p.state in
    let c : Command = command_at d p.command in
    run s p.command c (link chain s c.alt) (link chain s c.next)
    (cond (is_if c.action) (link chain s c.x) stop) (cond (is_if c.action) (link chain s c.i) stop)
    (λ t. cond (is_fall c.action && is_below d s t) (chain (spot t (state_at d t).first)) stop)

abbrev pub chain_at : Design → ℕ → ℕ → Chain
chain_at d s k = ranked (spot_rank d) stop (chain_node d) (spot s k)

-- Sets of registers and of states, as sets of owners: the union of a list of sets is the one fold by join.
abbrev pub union : List ℕ → ℕ
union sets = joined (owners_joins 32) sets

-- the set of the numbers below n that pass
abbrev pub set_where : (ℕ → Bool) → ℕ → ℕ
set_where p n = union (map (λ t. cond (p t) (2 ^ t) 0) (range_with_len 0 n))

abbrev pub children : Design → ℕ → ℕ
children d s = set_where (is_child d s) d.head.states

abbrev pub descendants : Design → ℕ → ℕ
descendants d s = set_where (is_below d s) d.head.states

-- the lowest child of a state, or none for a leaf
abbrev pub lowest_child : Design → ℕ → Option ℕ
lowest_child d s = cond (has_children d s) (Some (first (is_child d s) d.head.states)) None

-- What a command may reach by itself. Registers: the dynamic one that it sets.
abbrev pub set_register : Design → Option ℕ → ℕ
set_register d None = 0
set_register d (Some x) = cond (enforced (register_at d x).mode) 0 (2 ^ x)

abbrev pub by_set : ℕ → Action → ℕ
by_set registers Set = registers
by_set registers Tag = 0
by_set registers If = 0
by_set registers Goto = 0
by_set registers Fall = 0

abbrev pub own_registers : Design → ℕ → Command → ℕ
own_registers d s c = by_set (set_register d c.x) c.action

-- Pointers: for a goto those of its state, of that state's parent and of its descendants. A leaf has no pointer.
abbrev pub is_moved : Design → ℕ → (ℕ → Bool) → ℕ → Bool
is_moved d s below t = has_children d t && ((t == s || holds (state_at d s).parent t) || below t)

abbrev pub moved : Design → ℕ → ℕ
moved d s = set_where (is_moved d s (is_below d s)) d.head.states

abbrev pub by_goto : ℕ → Action → ℕ
by_goto pointers Set = 0
by_goto pointers Tag = 0
by_goto pointers If = 0
by_goto pointers Goto = pointers
by_goto pointers Fall = 0

abbrev pub own_pointers : Design → ℕ → Command → ℕ
own_pointers d s c = by_goto (moved d s) c.action

-- The reach of a chain: what its commands may reach by themselves, branches, alts and, for a fall, all descendants included.
unfoldable pub reach : ℕ → (ℕ → Command → ℕ) → Chain → ℕ
reach n own stop = 0
reach n own (run s k c alt next then_branch else_branch states) =
    union
    (own s c ∷ reach n own alt ∷ reach n own next ∷ reach n own then_branch ∷ reach n own else_branch
    ∷ union (map (λ t. reach n own (states t)) (range_with_len 0 n)) ∷ [])

abbrev pub register_reach : Design → Chain → ℕ
register_reach d = reach d.head.states (own_registers d)

abbrev pub pointer_reach : Design → Chain → ℕ
pointer_reach d = reach d.head.states (own_pointers d)
