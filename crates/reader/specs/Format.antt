-- The text of a design, line by line. Assumes nothing.
--
-- Each line begins with a key and `=`, and ends with a line feed. Pairs `key=value` are parted by one space. A number is
-- written in decimal, without leading zeros.
use Rattle.std.specs.Prelude.{◌≡◌, ℕ, ◌+◌, ◌-◌, ◌*◌, ◌^◌, ◌≤◌, cond, List, [], ◌∷◌, ◌++◌, Some, None, codes, decimal, Option, nat_lt}
use Prim.Native.String.{String}
use Rattle.records.specs.declared.Head.{Head}
use Rattle.records.specs.declared.Port.{Port}
use Rattle.records.specs.declared.Register.{Register}
use Rattle.records.specs.declared.State.{State}
use Rattle.records.specs.declared.Expression.{Expression}
use Rattle.records.specs.declared.Command.{Command}
use Rattle.records.specs.declared.Labeled.{Labeled}
use Rattle.records.specs.declared.Mode.{Mode}
use Rattle.records.specs.declared.Mode.TheVariants.{Enforced, Dynamic}
use Rattle.records.specs.declared.Operator.{Operator}
use Rattle.records.specs.declared.Action.{Action}
use Rattle.records.specs.declared.Action.TheVariants.{Set, Tag, If, Goto, Fall}
use Rattle.reader.specs.declared.sections.Line.{Line}
use Rattle.reader.specs.declared.sections.Plan.{Plan}
use Rattle.reader.specs.declared.sections.Section.{Section}
use Rattle.reader.specs.declared.sections.Step.{Step}

-- a number is below 2 ^ 32
abbrev pub largest : ℕ
largest = 2 ^ 32 - 1

abbrev pub Number : ℕ → Type 0
Number n = n ≤ largest

abbrev pub Optional : Option ℕ → Type 0
Optional None = Unit {0}
Optional (Some n) = Number n

abbrev pub optional : Option ℕ → List ℕ
optional None = codes "-"
optional (Some n) = decimal n

abbrev pub mode : Mode → List ℕ
mode Enforced = codes "e"
mode Dynamic = codes "d"

abbrev pub operator : Operator → List ℕ
operator Operator.Constant = codes "const"
operator Operator.Input = codes "in"
operator Operator.Read = codes "reg"
operator Operator.Add = codes "add"
operator Operator.Subtract = codes "sub"
operator Operator.And = codes "and"
operator Operator.Or = codes "or"
operator Operator.Xor = codes "xor"
operator Operator.ShiftLeft = codes "shl"
operator Operator.ShiftRight = codes "shr"
operator Operator.Equal = codes "eq"
operator Operator.Less = codes "lt"

abbrev pub action : Action → List ℕ
action Set = codes "set"
action Tag = codes "tag"
action If = codes "if"
action Goto = codes "goto"
action Fall = codes "fall"

-- a value, with what stands between it and the rest
abbrev field : List ℕ → String → List ℕ → List ℕ
field value between rest = (value ++ codes between) ++ rest

-- a value that ends a line
abbrev last : List ℕ → List ℕ
last value = value ++ 10 ∷ []

-- a value and its level, as cells and inputs have them
abbrev pub labeled : Labeled ℕ → List ℕ
labeled x = field (decimal x.value) " level=" (last (decimal x.level))

-- the key at the head of a line
abbrev pub key : Line → List ℕ
key (Line.Levels n) = codes "levels="
key (Line.Row n) = codes "row="
key (Line.Head h) = codes "ports="
key (Line.Port p) = codes "width="
key (Line.Register r) = codes "width="
key (Line.State s) = codes "parent="
key (Line.Expression e) = codes "op="
key (Line.Command c) = codes "do="
key (Line.Cell c) = codes "value="
key (Line.Input i) = codes "in="
key Line.End = []

-- what follows that key
abbrev pub values : Line → List ℕ
values (Line.Levels n) = last (decimal n)
values (Line.Row n) = last (decimal n)
values (Line.Head h) =
    field (decimal h.ports) " registers=" (field (decimal h.registers) " states=" (field (decimal h.states) " expressions=" (
    field (decimal h.expressions) " commands=" (field (decimal h.commands) " cycles=" (last (decimal h.cycles))))))
values (Line.Port p) = last (decimal p.width)
values (Line.Register r) =
    field (decimal r.width) " cells=" (field (decimal r.cells) " mode=" (field (mode r.mode) " floor=" (last (optional r.floor))))
values (Line.State s) =
    field (optional s.parent) " mode=" (field (mode s.mode) " level=" (field (optional s.level) " first=" (last (decimal s.first))))
values (Line.Expression e) = field (operator e.op) " a=" (field (decimal e.a) " b=" (last (optional e.b)))
values (Line.Command c) =
    field (action c.action) " x=" (field (optional c.x) " i=" (field (optional c.i) " e=" (
    field (optional c.e) " next=" (field (optional c.next) " alt=" (last (optional c.alt))))))
values (Line.Cell c) = labeled c
values (Line.Input i) = labeled i
values Line.End = []

-- a line as it is written; the end of the text is nothing
abbrev pub write : Line → List ℕ
write l = key l ++ values l

-- the numbers of a record are numbers of the format, and there are at most 10,000 cycles
abbrev pub HeadFits : Head → Type 0
HeadFits h = Number h.ports × Number h.registers × Number h.states × Number h.expressions × Number h.commands × (h.cycles ≤ 10000)

abbrev pub PortFits : Port → Type 0
PortFits p = Number p.width

abbrev pub RegisterFits : Register → Type 0
RegisterFits r = Number r.width × Number r.cells × Optional r.floor

abbrev pub StateFits : State → Type 0
StateFits s = Optional s.parent × Optional s.level × Number s.first

abbrev pub ExpressionFits : Expression → Type 0
ExpressionFits e = Number e.a × Optional e.b

abbrev pub CommandFits : Command → Type 0
CommandFits c = Optional c.x × Optional c.i × Optional c.e × Optional c.next × Optional c.alt

abbrev pub LabeledFits : Labeled ℕ → Type 0
LabeledFits x = Number x.value × Number x.level

abbrev pub CellFits : Labeled ℕ → Type 0
CellFits = LabeledFits

abbrev pub InputFits : Labeled ℕ → Type 0
InputFits = LabeledFits

-- The section in which n lines of a kind are still due; where none is, it is passed over.
abbrev pub inputs : ℕ → Section
inputs n = cond (nat_lt 0 n) (Section.Inputs n) Section.End

-- an input for each port in each cycle
abbrev pub cells : Head → ℕ → Section
cells h n = cond (nat_lt 0 n) (Section.Cells n h) (inputs (h.ports * h.cycles))

abbrev pub commands : Plan → ℕ → Section
commands p n = cond (nat_lt 0 n) (Section.Commands (record { left = n; plan = p })) (cells p.head p.cells)

abbrev pub expressions : Plan → ℕ → Section
expressions p n = cond (nat_lt 0 n) (Section.Expressions (record { left = n; plan = p })) (commands p p.head.commands)

abbrev pub states : Plan → ℕ → Section
states p n = cond (nat_lt 0 n) (Section.States (record { left = n; plan = p })) (expressions p p.head.expressions)

abbrev pub registers : Plan → ℕ → Section
registers p n = cond (nat_lt 0 n) (Section.Registers (record { left = n; plan = p })) (states p p.head.states)

abbrev pub ports : Plan → ℕ → Section
ports p n = cond (nat_lt 0 n) (Section.Ports (record { left = n; plan = p })) (registers p p.head.registers)

abbrev pub rows : ℕ → Section
rows n = cond (nat_lt 0 n) (Section.Rows n) Section.Head

-- what the head says, with no cells counted yet, and with those of one register more
abbrev pub planned : Head → Plan
planned h = record { head = h; cells = 0 }

abbrev pub counted : Plan → Register → Plan
counted p r = record { head = p.head; cells = p.cells + r.cells }

-- the lines `line v`, where `ok v`, each followed by the section `next v`
abbrev pub Of : {V : Type 0} → (V → Line) → (V → Type 0) → (V → Section) → Step → Type 0
Of {V} line ok next p = (v : V) × ok v × (p ≡ record { line = line v; next = next v })

-- the lines that are due in a section, with the section that follows each
abbrev pub Goes : Section → Step → Type 0
Goes Section.Levels = Of Line.Levels Number rows
Goes (Section.Rows n) = Of Line.Row Number (λ _. rows (n - 1))
Goes Section.Head = Of Line.Head HeadFits (λ h. ports (planned h) h.ports)
Goes (Section.Ports a) = Of Line.Port PortFits (λ _. ports a.plan (a.left - 1))
Goes (Section.Registers a) = Of Line.Register RegisterFits (λ r. registers (counted a.plan r) (a.left - 1))
Goes (Section.States a) = Of Line.State StateFits (λ _. states a.plan (a.left - 1))
Goes (Section.Expressions a) = Of Line.Expression ExpressionFits (λ _. expressions a.plan (a.left - 1))
Goes (Section.Commands a) = Of Line.Command CommandFits (λ _. commands a.plan (a.left - 1))
Goes (Section.Cells n h) = Of Line.Cell CellFits (λ _. cells h (n - 1))
Goes (Section.Inputs n) = Of Line.Input InputFits (λ _. inputs (n - 1))
Goes Section.End = λ p. p ≡ record { line = Line.End; next = Section.End }
