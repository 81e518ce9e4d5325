-- When lent tables hold an accepted design, and else why they do not. Assumes nothing.
use Rattle.std.specs.Prelude.{◌≡◌, ℕ, cond, [], ◌∷◌, length, take, None, Option, nat_lt}
use Rattle.lattice.specs.Faults.{Refusal, refuse}
use Rattle.lattice.specs.Model.{Joins}
use Rattle.rules.specs.declared.faults.Kind.{Kind}
use Rattle.rules.specs.Faults.{kind_number}
use Rattle.rules.specs.Rules.{◌⊳◌, ports_kind, registers_kind, states_kind, expressions_kind, commands_kind, sizes, linked, placed, ended, shallow, broken}
use Rattle.shape.specs.Shape.{Design}

-- fewer records than the head says
abbrev pub short_table : ℕ → ℕ → ℕ → Option Refusal
short_table kind len count = cond (nat_lt len count) (refuse 2 (kind ∷ [])) None

abbrev pub short : Design → Option Refusal
short d =
    short_table ports_kind (length d.ports) d.head.ports ⊳ short_table registers_kind (length d.registers) d.head.registers
    ⊳ short_table states_kind (length d.states) d.head.states
    ⊳ short_table expressions_kind (length d.expressions) d.head.expressions
    ⊳ short_table commands_kind (length d.commands) d.head.commands

-- what the kind of a table that is too short says
abbrev pub too_short : Kind → Option Refusal
too_short kind = refuse 2 (kind_number kind ∷ [])

-- as many records as the head says; a table may be longer
abbrev pub cut : Design → Design
cut d =
    record {
      head = d.head;
      ports = take d.head.ports d.ports;
      registers = take d.head.registers d.registers;
      states = take d.head.states d.states;
      expressions = take d.head.expressions d.expressions;
      commands = take d.head.commands d.commands;
    }

abbrev pub verdict : Joins → Design → Option Refusal
verdict m d = short d ⊳ broken m (cut d)

-- the rules that do not speak of levels
abbrev pub well_formed : Design → Option Refusal
well_formed d = sizes d ⊳ linked d ⊳ placed d ⊳ ended d ⊳ shallow d

-- each table has as many records as the head says
abbrev pub Exact : Design → Type 0
Exact d =
    (length d.ports ≡ d.head.ports) × (length d.registers ≡ d.head.registers) × (length d.states ≡ d.head.states)
    × (length d.expressions ≡ d.head.expressions) × (length d.commands ≡ d.head.commands)
