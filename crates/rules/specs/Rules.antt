-- When a design is accepted, and else what is returned: the first rule that a record breaks. Assumes nothing.
use Rattle.std.specs.Prelude.{ℕ, ◌+◌, Bool, true, false, cond, not, ◌&&◌, ◌||◌, ltb, [], ◌∷◌, Some, None, Option, ◌==◌, nat_lt}
use Rattle.std.specs.Option.{unwrap_or}
use Rattle.search.specs.First.{first, some_below}
use Rattle.search.specs.Sum.{sum_below}
use Rattle.lattice.specs.Faults.{Refusal, refuse}
use Rattle.lattice.specs.Model.{Joins}
use Rattle.records.specs.declared.Head.{Head}
use Rattle.records.specs.declared.Register.{Register}
use Rattle.records.specs.declared.State.{State}
use Rattle.records.specs.declared.Expression.{Expression}
use Rattle.records.specs.declared.Command.{Command}
use Rattle.records.specs.declared.Operator.{Operator}
use Rattle.records.specs.declared.Operator.TheVariants.{Constant, Input, Read, Add, Subtract, And, Or, Xor, ShiftLeft, ShiftRight, Equal, Less}
use Rattle.records.specs.declared.Action.{Action}
use Rattle.records.specs.declared.Action.TheVariants.{Set, Tag, If, Goto, Fall}
use Rattle.shape.specs.Shape.{Design, port_at, register_at, state_at, expression_at, command_at, enforced, holds, given, alike, is_child, is_if, is_tag, leaves, branch_ends, is_last, owner_of, depth_of, height_of, ends_of}

-- the kinds of records
abbrev pub ports_kind : ℕ
ports_kind = 0

abbrev pub registers_kind : ℕ
registers_kind = 1

abbrev pub states_kind : ℕ
states_kind = 2

abbrev pub expressions_kind : ℕ
expressions_kind = 3

abbrev pub commands_kind : ℕ
commands_kind = 4

-- cells and inputs are no records, but places of a refusal
abbrev pub cells_kind : ℕ
cells_kind = 5

abbrev pub inputs_kind : ℕ
inputs_kind = 6

-- the first cause to refuse of two, the second tested after the first
infixl 20 ◌⊳◌
abbrev pub ◌⊳◌ : Option Refusal → Option Refusal → Option Refusal
None ⊳ later = later
(Some r) ⊳ later = Some r

-- a rule over the records of a kind: the lowest that breaks it
abbrev pub sweep : ℕ → ℕ → ℕ → (ℕ → Bool) → Option Refusal
sweep rule kind count breaks = cond (some_below breaks count) (refuse rule (kind ∷ first breaks count ∷ [])) None

-- numbers within their limits
abbrev pub outside : ℕ → ℕ → ℕ → Bool
outside low high n = nat_lt n low || nat_lt high n

-- 3: sizes

abbrev pub count_range : ℕ → ℕ → ℕ → ℕ → Option Refusal
count_range kind low high n = cond (outside low high n) (refuse 3 (kind ∷ n ∷ [])) None

abbrev pub counts : Head → Option Refusal
counts h =
    count_range ports_kind 0 16 h.ports ⊳ count_range registers_kind 1 32 h.registers ⊳ count_range states_kind 2 32 h.states
    ⊳ count_range expressions_kind 0 256 h.expressions ⊳ count_range commands_kind 1 256 h.commands

-- the cells of the registers below n
abbrev pub cells_below : Design → ℕ → ℕ
cells_below d = sum_below (λ n. (register_at d n).cells)

abbrev pub bad_width : ℕ → Bool
bad_width w = outside 1 32 w

abbrev pub bad_port : Design → ℕ → Bool
bad_port d n = bad_width (port_at d n).width

abbrev pub bad_size : Register → Bool
bad_size r = (bad_width r.width || r.cells == 0) || (not (enforced r.mode) && not (r.cells == 1))

abbrev pub bad_register : Design → ℕ → Bool
bad_register d n = bad_size (register_at d n) || nat_lt 1024 (cells_below d n + (register_at d n).cells)

abbrev pub sizes : Design → Option Refusal
sizes d = counts d.head ⊳ sweep 3 ports_kind d.head.ports (bad_port d) ⊳ sweep 3 registers_kind d.head.registers (bad_register d)

-- 4: links

-- a field that must name a record below n
abbrev pub names : ℕ → Option ℕ → Bool
names n None = false
names n (Some m) = nat_lt m n

-- a field that may name a later command
abbrev pub later : ℕ → ℕ → Option ℕ → Bool
later k n None = true
later k n (Some m) = nat_lt k m && nat_lt m n

-- an index is absent exactly for a register of one cell
abbrev pub indexes : Design → ℕ → ℕ → Option ℕ → Bool
indexes d n x i = cond ((register_at d x).cells == 1) (not (given i)) (names n i)

abbrev pub floor_placed : Register → Bool
floor_placed r = cond (enforced r.mode) (given r.floor) (not (given r.floor))

abbrev pub state_linked : Design → ℕ → Bool
state_linked d s =
    let t : State = state_at d s in
    (cond (s == 0) (not (given t.parent)) (names s t.parent) && cond (enforced t.mode) (given t.level) (not (given t.level)))
    && nat_lt t.first d.head.commands

abbrev pub operands : ℕ → Expression → Bool
operands k x = nat_lt x.a k && names k x.b

abbrev pub expression_linked : Design → ℕ → Bool
expression_linked d k = by (expression_at d k).op
  where
    x : Expression
    x = expression_at d k

    by : Operator → Bool
    by Constant = not (given x.b)
    by Input = nat_lt x.a d.head.ports && not (given x.b)
    by Read = nat_lt x.a d.head.registers && indexes d k x.a x.b
    by Add = operands k x
    by Subtract = operands k x
    by And = operands k x
    by Or = operands k x
    by Xor = operands k x
    by ShiftLeft = operands k x
    by ShiftRight = operands k x
    by Equal = operands k x
    by Less = operands k x

-- register x and its index, as a set and a tag name them
abbrev pub cell_named : Design → Command → Bool
cell_named d c = at c.x
  where
    at : Option ℕ → Bool
    at None = false
    at (Some x) = nat_lt x d.head.registers && indexes d d.head.expressions x c.i

abbrev pub fields_linked : Design → ℕ → Bool
fields_linked d k = by (command_at d k).action
  where
    c : Command
    c = command_at d k

    by : Action → Bool
    by Set = cell_named d c && names d.head.expressions c.e
    by Tag = cell_named d c && given c.e
    by If = (later k d.head.commands c.x && later k d.head.commands c.i) && names d.head.expressions c.e
    by Goto = names d.head.states c.x && (not (given c.i) && not (given c.e))
    by Fall = not (given c.x) && (not (given c.i) && not (given c.e))

-- how often a field names command k
abbrev pub once : Option ℕ → ℕ → ℕ
once o k = cond (holds o k) 1 0

abbrev pub branch_names : Command → ℕ → ℕ
branch_names c k = cond (is_if c.action) (once c.x k + once c.i k) 0

abbrev pub command_names : Command → ℕ → ℕ
command_names c k = (once c.next k + once c.alt k) + branch_names c k

-- how often command k is named, by states and by commands
abbrev pub times_named : Design → ℕ → ℕ
times_named d k =
    sum_below (λ s. once (Some (state_at d s).first) k) d.head.states + sum_below (λ j. command_names (command_at d j) k) d.head.commands

abbrev pub command_linked : Design → ℕ → Bool
command_linked d k =
    (fields_linked d k && (later k d.head.commands (command_at d k).next && later k d.head.commands (command_at d k).alt))
    && times_named d k == 1

abbrev pub linked : Design → Option Refusal
linked d =
    sweep 4 registers_kind d.head.registers (λ n. not (floor_placed (register_at d n)))
    ⊳ sweep 4 states_kind d.head.states (λ n. not (state_linked d n))
    ⊳ sweep 4 expressions_kind d.head.expressions (λ n. not (expression_linked d n))
    ⊳ sweep 4 commands_kind d.head.commands (λ n. not (command_linked d n))

-- 5: levels

abbrev pub is_level : Joins → Option ℕ → Bool
is_level m None = false
is_level m (Some l) = m.level l

abbrev pub bad_floor : Joins → Register → Bool
bad_floor m r = enforced r.mode && not (is_level m r.floor)

abbrev pub bad_state_level : Joins → Design → ℕ → Bool
bad_state_level m d s =
    let t : State = state_at d s in
    cond (s == 0) (not (enforced t.mode && holds t.level m.bottom)) (enforced t.mode && not (is_level m t.level))

abbrev pub bad_tag_level : Joins → Command → Bool
bad_tag_level m c = is_tag c.action && not (is_level m c.e)

abbrev pub levels : Joins → Design → Option Refusal
levels m d =
    sweep 5 registers_kind d.head.registers (λ n. bad_floor m (register_at d n))
    ⊳ sweep 5 states_kind d.head.states (bad_state_level m d)
    ⊳ sweep 5 commands_kind d.head.commands (λ n. bad_tag_level m (command_at d n))

-- 6: places

abbrev pub enforced_register : Design → Option ℕ → Bool
enforced_register d x = enforced (register_at d (unwrap_or x 0)).mode

abbrev pub enforced_state : Design → Option ℕ → Bool
enforced_state d x = enforced (state_at d (unwrap_or x 0)).mode

-- a goto, in state s: not in the root, and to a state with the same parent
abbrev pub goto_placed : Design → ℕ → Option ℕ → Bool
goto_placed d s x = not (s == 0) && alike (state_at d (unwrap_or x 0)).parent (state_at d s).parent

abbrev pub has_children : Design → ℕ → Bool
has_children d s = some_below (is_child d s) d.head.states

abbrev pub action_placed : Design → ℕ → Command → Action → Bool
action_placed d s c Set = true
action_placed d s c Tag = enforced_register d c.x
action_placed d s c If = true
action_placed d s c Goto = goto_placed d s c.x
action_placed d s c Fall = has_children d s

-- the commands whose check may fail, which alone may have an alt
abbrev pub has_check : Design → Command → Action → Bool
has_check d c Set = enforced_register d c.x
has_check d c Tag = true
has_check d c If = false
has_check d c Goto = enforced_state d c.x
has_check d c Fall = true

abbrev pub command_placed : Design → (ℕ → ℕ) → ℕ → Bool
command_placed d owner k =
    let c : Command = command_at d k in
    action_placed d (owner k) c c.action && (not (given c.alt) || has_check d c c.action)

abbrev pub placed : Design → Option Refusal
placed d = sweep 6 commands_kind d.head.commands (λ n. not (command_placed d (owner_of d) n))

-- 7: ends

abbrev pub same : Bool → Bool → Bool
same true b = b
same false b = not b

abbrev pub command_ends : (ℕ → Bool) → Command → Bool
command_ends ends c =
    (not (is_last ends c && given c.next) && (not (is_if c.action) || same (branch_ends ends c.x) (branch_ends ends c.i)))
    && (not (given c.alt) || same (branch_ends ends c.alt) (leaves c.action))

abbrev pub ended : Design → Option Refusal
ended d =
    sweep 7 states_kind d.head.states (λ n. not (ends_of d (state_at d n).first))
    ⊳ sweep 7 commands_kind d.head.commands (λ n. not (command_ends (ends_of d) (command_at d n)))

-- 8: depth

abbrev pub shallow : Design → Option Refusal
shallow d =
    sweep 8 states_kind d.head.states (λ n. ltb 8 (depth_of d n))
    ⊳ sweep 8 expressions_kind d.head.expressions (λ n. ltb 12 (height_of d n))

-- the rules, in the order in which they are tested
abbrev pub broken : Joins → Design → Option Refusal
broken m d = sizes d ⊳ linked d ⊳ levels m d ⊳ placed d ⊳ ended d ⊳ shallow d
