-- What the refusal of a design says: its number and the place. Assumes nothing.
use Rattle.std.specs.Prelude.{ℕ, [], ◌∷◌, Some, None, Option, Result, Ok, Err}
use Rattle.lattice.specs.Faults.{Refusal, refuse, refusal as lattice_refusal}
use Rattle.records.specs.Faults.{refusal as line_refusal}
use Rattle.rules.specs.declared.faults.DesignFault.{DesignFault}
use Rattle.rules.specs.declared.faults.DesignFault.TheVariants.{Line, Lattice, ShortTable, Broken, WrongLength, Memory}
use Rattle.rules.specs.declared.faults.Breach.{Breach}
use Rattle.rules.specs.declared.faults.Kind.{Kind}
use Rattle.rules.specs.declared.faults.Kind.TheVariants.{Port, Register, State, Expression, Command, Cell, Input}
use Rattle.rules.specs.declared.faults.Rule.{Rule}
use Rattle.rules.specs.declared.faults.Rule.TheVariants.{Sizes, Links, Levels, Places, Ends, Depth}

abbrev pub kind_number : Kind → ℕ
kind_number Port = 0
kind_number Register = 1
kind_number State = 2
kind_number Expression = 3
kind_number Command = 4
kind_number Cell = 5
kind_number Input = 6

abbrev pub rule_number : Rule → ℕ
rule_number Sizes = 3
rule_number Links = 4
rule_number Levels = 5
rule_number Places = 6
rule_number Ends = 7
rule_number Depth = 8

abbrev pub breach : Breach → Option Refusal
breach b = refuse (rule_number b.rule) (kind_number b.kind ∷ b.«record» ∷ [])

abbrev pub breach_if : Option Breach → Option Refusal
breach_if None = None
breach_if (Some b) = breach b

-- what a test of the rules answers: nothing, or the breach
abbrev pub broke : {X : Type 0} → Result X Breach → Option Refusal
broke (Ok x) = None
broke (Err b) = breach b

-- the fault of a line or a lattice says what it says by itself; want of memory has no number
abbrev pub refusal : DesignFault → Option Refusal
refusal (Line f) = line_refusal f
refusal (Lattice f) = lattice_refusal f
refusal (ShortTable kind) = refuse 2 (kind_number kind ∷ [])
refusal (Broken b) = breach b
refusal (WrongLength needed) = refuse 12 (needed ∷ [])
refusal Memory = None
