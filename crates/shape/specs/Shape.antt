-- The records of a design, by their numbers, and what they say of each other. Assumes nothing.
use Rattle.std.specs.Prelude.{ℕ, suc, ◌+◌, ◌-◌, max, Bool, true, false, cond, not, ◌&&◌, ◌||◌, List, Some, None, Option, ◌==◌, nat_lt, slice_index_or}
use Rattle.search.specs.First.{first, some_below}
use Rattle.records.specs.declared.Head.{Head}
use Rattle.records.specs.declared.Port.{Port}
use Rattle.records.specs.declared.Register.{Register}
use Rattle.records.specs.declared.State.{State}
use Rattle.records.specs.declared.Expression.{Expression}
use Rattle.records.specs.declared.Command.{Command}
use Rattle.records.specs.declared.Mode.{Mode}
use Rattle.records.specs.declared.Mode.TheVariants.{Enforced, Dynamic}
use Rattle.records.specs.declared.Operator.{Operator}
use Rattle.records.specs.declared.Operator.TheVariants.{Constant, Input, Read, Add, Subtract, And, Or, Xor, ShiftLeft, ShiftRight, Equal, Less}
use Rattle.records.specs.declared.Action.{Action}
use Rattle.records.specs.declared.Action.TheVariants.{Set, Tag, If, Goto, Fall}
use Rattle.shape.specs.Rank.{ranked}

pub record Design : Type 0 where
  pub head : Head
  pub ports : List Port
  pub registers : List Register
  pub states : List State
  pub expressions : List Expression
  pub commands : List Command

-- a record past the end of its table reads as one that does nothing
abbrev pub no_port : Port
no_port = record { width = 0 }

abbrev pub no_register : Register
no_register = record { width = 0; cells = 0; mode = Enforced; floor = None }

abbrev pub no_state : State
no_state = record { parent = None; mode = Enforced; level = None; first = 0 }

abbrev pub no_expression : Expression
no_expression = record { op = Constant; a = 0; b = None }

abbrev pub no_command : Command
no_command = record { action = Set; x = None; i = None; e = None; next = None; alt = None }

abbrev pub port_at : Design → ℕ → Port
port_at d n = slice_index_or d.ports n no_port

abbrev pub register_at : Design → ℕ → Register
register_at d n = slice_index_or d.registers n no_register

abbrev pub state_at : Design → ℕ → State
state_at d n = slice_index_or d.states n no_state

abbrev pub expression_at : Design → ℕ → Expression
expression_at d n = slice_index_or d.expressions n no_expression

abbrev pub command_at : Design → ℕ → Command
command_at d n = slice_index_or d.commands n no_command

abbrev pub enforced : Mode → Bool
enforced Enforced = true
enforced Dynamic = false

-- a field that holds a number: this one
abbrev pub holds : Option ℕ → ℕ → Bool
holds None n = false
holds (Some m) n = m == n

abbrev pub given : Option ℕ → Bool
given None = false
given (Some m) = true

-- both are absent, or both hold the same number
abbrev pub alike : Option ℕ → Option ℕ → Bool
alike None b = not (given b)
alike (Some m) b = holds b m

abbrev pub is_child : Design → ℕ → ℕ → Bool
is_child d s t = holds (state_at d t).parent s

abbrev pub is_if : Action → Bool
is_if Set = false
is_if Tag = false
is_if If = true
is_if Goto = false
is_if Fall = false

abbrev pub is_tag : Action → Bool
is_tag Set = false
is_tag Tag = true
is_tag If = false
is_tag Goto = false
is_tag Fall = false

-- goto and fall, after which a cycle or a state's turn is over
abbrev pub leaves : Action → Bool
leaves Set = false
leaves Tag = false
leaves If = false
leaves Goto = true
leaves Fall = true

-- a command names command k: as its next, its alt, or a branch
abbrev pub links : Command → ℕ → Bool
links c k = (holds c.next k || holds c.alt k) || (is_if c.action && (holds c.x k || holds c.i k))

-- The state of a command: the one that names it as its first, or else that of the command that names it.
abbrev pub is_first : Design → ℕ → ℕ → Bool
is_first d k s = (state_at d s).first == k

abbrev pub links_to : Design → ℕ → ℕ → Bool
links_to d k j = links (command_at d j) k

abbrev pub owner_node : Design → (ℕ → ℕ) → ℕ → ℕ
owner_node d owner k =
    cond (some_below (is_first d k) d.head.states) (first (is_first d k) d.head.states) (owner (first (links_to d k) k))

abbrev pub owner_of : Design → ℕ → ℕ
owner_of d = ranked (λ k. k) 0 (owner_node d)

-- how many states a state is below the root
abbrev pub depth_under : (ℕ → ℕ) → Option ℕ → ℕ
depth_under depth None = 0
depth_under depth (Some p) = 1 + depth p

abbrev pub depth_node : Design → (ℕ → ℕ) → ℕ → ℕ
depth_node d depth s = depth_under depth (state_at d s).parent

abbrev pub depth_of : Design → ℕ → ℕ
depth_of d = ranked (λ s. s) 0 (depth_node d)

-- how deep an expression is; one without operands is 1 deep
abbrev pub operand : (ℕ → ℕ) → Option ℕ → ℕ
operand height None = 0
operand height (Some i) = height i

abbrev pub height_by : (ℕ → ℕ) → Expression → Operator → ℕ
height_by height x Constant = 1
height_by height x Input = 1
height_by height x Read = 1 + operand height x.b
height_by height x Add = 1 + max (height x.a) (operand height x.b)
height_by height x Subtract = 1 + max (height x.a) (operand height x.b)
height_by height x And = 1 + max (height x.a) (operand height x.b)
height_by height x Or = 1 + max (height x.a) (operand height x.b)
height_by height x Xor = 1 + max (height x.a) (operand height x.b)
height_by height x ShiftLeft = 1 + max (height x.a) (operand height x.b)
height_by height x ShiftRight = 1 + max (height x.a) (operand height x.b)
height_by height x Equal = 1 + max (height x.a) (operand height x.b)
height_by height x Less = 1 + max (height x.a) (operand height x.b)

abbrev pub height_node : Design → (ℕ → ℕ) → ℕ → ℕ
height_node d height k = height_by height (expression_at d k) (expression_at d k).op

abbrev pub height_of : Design → ℕ → ℕ
height_of d = ranked (λ k. k) 0 (height_node d)

-- A chain ends if its last command is a goto, a fall, or an if both of whose branches end.
abbrev pub branch_ends : (ℕ → Bool) → Option ℕ → Bool
branch_ends ends None = false
branch_ends ends (Some m) = ends m

-- a goto, a fall, and an if both of whose branches end: the last command of its chain
abbrev pub is_last : (ℕ → Bool) → Command → Bool
is_last ends c = leaves c.action || (is_if c.action && (branch_ends ends c.x && branch_ends ends c.i))

abbrev pub chain_ends : (ℕ → Bool) → Command → Bool
chain_ends ends c = cond (given c.next) (branch_ends ends c.next) (is_last ends c)

abbrev pub ends_node : Design → (ℕ → Bool) → ℕ → Bool
ends_node d ends k = chain_ends ends (command_at d k)

-- later commands rank lower, and a number of no command highest
abbrev pub chain_rank : Design → ℕ → ℕ
chain_rank d k = cond (nat_lt k d.head.commands) (d.head.commands - k) (suc d.head.commands)

-- there is a command k, and the chain from it on ends
abbrev pub ends_of : Design → ℕ → Bool
ends_of d k = cond (nat_lt k d.head.commands) (ranked (chain_rank d) false (ends_node d) k) false
