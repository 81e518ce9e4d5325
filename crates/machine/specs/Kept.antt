-- Chains and reaches as an accepted design keeps them. Assumes nothing.
use Rattle.std.specs.Prelude.{ℕ, cond, List, Some, None, Option}
use Rattle.lattice.specs.Bit.{bit}
use Rattle.lattice.specs.Model.{Joins}
use Rattle.records.specs.declared.Command.{Command}
use Rattle.records.specs.declared.Action.{Action}
use Rattle.records.specs.declared.Labeled.{Labeled}
use Rattle.shape.specs.Shape.{Design, command_at, state_at, is_if}
use Rattle.design.specs.Chains.{is_fall}
use Rattle.design.specs.Facts.{state_kept, command_kept}
use Rattle.actions.specs.declared.ways.Reach.{Reach}
use Rattle.actions.specs.declared.ways.Way.{Way}
use Rattle.actions.specs.declared.ways.Way.TheVariants.{On, Otherwise, Then, Else, Child}
use Rattle.actions.specs.Actions.{Done, act}
use Rattle.actions.specs.Memory.{Memory}
use Rattle.machine.specs.declared.detours.Detour.{Detour}

abbrev pub kept_reach : Design → Option ℕ → Reach
kept_reach d None = record { registers = 0; pointers = 0 }
kept_reach d (Some k) = record { registers = (command_kept d k).registers; pointers = (command_kept d k).pointers }

-- a command in a context, by what is kept of it and of the chains that it names
abbrev pub kept_act : Joins → Design → List (Labeled ℕ) → ℕ → ℕ → Memory → Done
kept_act m d inputs k c memory =
    act m d inputs (command_at d k).action (command_kept d k).owner (command_at d k) (kept_reach d (command_at d k).alt) (kept_reach d (command_at d k).x)
    (kept_reach d (command_at d k).i)
    (kept_reach d (Some k))
    c
    memory

-- only an if has branches, and only a fall has states
abbrev pub if_branch : Action → Option ℕ → Option ℕ
if_branch action o = cond (is_if action) o None

abbrev pub if_child : Design → Action → ℕ → ℕ → Option ℕ
if_child d action s t = cond (is_fall action) (cond (bit (state_kept d s).descendants t) (Some (state_at d t).first) None) None

-- the chain that a command chose, by its first command
abbrev pub detour_of : Design → ℕ → Command → Way → Detour
detour_of d s command On = record { link = None; context = 0 }
detour_of d s command (Otherwise k) = record { link = command.alt; context = k }
detour_of d s command (Then k) = record { link = if_branch command.action command.x; context = k }
detour_of d s command (Else k) = record { link = if_branch command.action command.i; context = k }
detour_of d s command (Child t k) = record { link = if_child d command.action s t; context = k }
