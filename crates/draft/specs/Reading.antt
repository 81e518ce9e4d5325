-- What a draft holds of the lines that were read into it, and how far a reading came. Assumes nothing.
use Rattle.std.specs.Prelude.{◌≡◌, ◌≢◌, ℕ, ◌+◌, ◌-◌, ◌^◌, ◌<◌, min, List, [], ◌∷◌, ◌++◌, length, take, sum_by, All, None, Ok, Err, Result}
use Rattle.lattice.specs.Faults.{refusal}
use Rattle.records.specs.declared.Labeled.{Labeled}
use Rattle.records.specs.declared.Register.{Register}
use Rattle.records.specs.declared.faults.LineFault.{LineFault}
use Rattle.reader.specs.declared.Reader.{Reader}
use Rattle.reader.specs.declared.sections.Line.{Line}
use Rattle.reader.specs.Reading.{Answered}
use Rattle.shape.specs.Shape.{Design}
use Rattle.table.specs.declared.Table.{Table}
use Rattle.table.specs.Rows.{rows_of, table_verdict}
use Rattle.rules.specs.declared.faults.DesignFault.{DesignFault}
use Rattle.rules.specs.declared.faults.DesignFault.TheVariants.{Line as OfLine, Lattice, ShortTable, Broken, WrongLength, Memory}
use Rattle.draft.specs.declared.Draft.{Draft}

-- a draft as lists
pub record Lines : Type 0 where
  pub levels : ℕ
  pub rows : List ℕ
  pub design : Design
  pub cells : List (Labeled ℕ)
  pub inputs : List (Labeled ℕ)

abbrev pub view : Draft → Lines
view d =
    record {
      levels = d.levels;
      rows = d.rows.items;
      design = record {
        head = d.head;
        ports = d.ports.items;
        registers = d.registers.items;
        states = d.states.items;
        expressions = d.expressions.items;
        commands = d.commands.items;
      };
      cells = d.cells.items;
      inputs = d.inputs.items;
    }

-- nothing was read yet
abbrev pub nothing : Lines
nothing =
    record {
      levels = 0;
      rows = [];
      design = record {
        head = record { ports = 0; registers = 0; states = 0; expressions = 0; commands = 0; cycles = 0 };
        ports = [];
        registers = [];
        states = [];
        expressions = [];
        commands = [];
      };
      cells = [];
      inputs = [];
    }

abbrev in_design : Design → Lines → Lines
in_design x d = record d { design = x }

-- a line is kept at the end of the list of its kind
abbrev pub kept : Line → Lines → Lines
kept (Line.Levels n) d = record d { levels = n }
kept (Line.Row n) d = record d { rows = d.rows ++ n ∷ [] }
kept (Line.Head h) d = in_design (record d.design { head = h }) d
kept (Line.Port p) d = in_design (record d.design { ports = d.design.ports ++ p ∷ [] }) d
kept (Line.Register r) d = in_design (record d.design { registers = d.design.registers ++ r ∷ [] }) d
kept (Line.State s) d = in_design (record d.design { states = d.design.states ++ s ∷ [] }) d
kept (Line.Expression x) d = in_design (record d.design { expressions = d.design.expressions ++ x ∷ [] }) d
kept (Line.Command c) d = in_design (record d.design { commands = d.design.commands ++ c ∷ [] }) d
kept (Line.Cell c) d = record d { cells = d.cells ++ c ∷ [] }
kept (Line.Input i) d = record d { inputs = d.inputs ++ i ∷ [] }
kept Line.End d = d

unfoldable pub kept_all : List Line → Lines → Lines
kept_all [] d = d
kept_all (line ∷ lines) d = kept_all lines (kept line d)

-- a reader gives these lines one after another, and is then another
unfoldable pub Gives : Reader → List Line → Reader → Type 0
Gives r [] s = s ≡ r
Gives r (line ∷ lines) s = (m : Reader) × Answered r (Ok line) m × Gives m lines s

-- `due lines` says how many lines are due in all, once `lines` are read. All of them were read and kept.
pub record AllKept (due : List Line → ℕ) (r : Reader) (d : Lines) (s : Reader) (e : Lines) : Type 0 where
  pub lines : List Line
  pub all : length lines ≡ due lines
  pub given : Gives r lines s
  pub keeps : e ≡ kept_all lines d

-- fewer lines than are due were read and kept, and then the next was refused
pub record Refused (due : List Line → ℕ) (r : Reader) (d : Lines) (f : LineFault) (s : Reader) (e : Lines) : Type 0 where
  pub lines : List Line
  pub fewer : length lines < due lines
  pub last : Reader
  pub given : Gives r lines last
  pub refused : Answered last (Err f) s
  pub keeps : e ≡ kept_all lines d

-- fewer lines than are due were read and kept, and then no memory was to be had for the next
pub record Unkept (due : List Line → ℕ) (r : Reader) (d : Lines) (s : Reader) (e : Lines) : Type 0 where
  pub lines : List Line
  pub line : Line
  pub fewer : length lines < due lines
  pub given : Gives r (lines ++ line ∷ []) s
  pub keeps : e ≡ kept_all lines d

abbrev pub Stopped : (List Line → ℕ) → Reader → Lines → DesignFault → Reader → Lines → Type 0
Stopped due r d (OfLine f) s e = Refused due r d f s e
Stopped due r d (Lattice f) s e = ⊥
Stopped due r d (ShortTable kind) s e = ⊥
Stopped due r d (Broken b) s e = ⊥
Stopped due r d (WrongLength n) s e = ⊥
Stopped due r d Memory s e = Unkept due r d s e

-- what a reading of the lines that are due answers, with the reader and the draft before and after
abbrev pub Kept : {T : Type 0} → (List Line → ℕ) → Reader → Lines → Result T DesignFault → Reader → Lines → Type 0
Kept due r d (Ok x) s e = AllKept due r d s e
Kept due r d (Err f) s e = Stopped due r d f s e

-- one line, and then as many as the draft then says
abbrev pub headed : (Lines → ℕ) → Lines → List Line → ℕ
headed more d [] = 1
headed more d (line ∷ lines) = 1 + more (kept line d)

abbrev pub levels_of : Lines → ℕ
levels_of d = d.levels

-- the records that the head says
abbrev pub records_of : Lines → ℕ
records_of d =
    d.design.head.ports + d.design.head.registers + d.design.head.states + d.design.head.expressions + d.design.head.commands

-- the cells of all registers, or the most that 64 bits hold
abbrev pub cells_of : Lines → ℕ
cells_of d = min (sum_by (λ (r : Register). r.cells) d.design.registers) (2 ^ 64 - 1)

-- one input for each port; those of the cycle before are dropped
abbrev pub inputs_of : Lines → ℕ
inputs_of d = d.design.head.ports

abbrev pub without_inputs : Lines → Lines
without_inputs d = record d { inputs = [] }

-- What reading the lattice answers: its lines stop, or they are all read, and then they are a lattice or say why they are none.
abbrev pub LatticeKept : Reader → Lines → Result Table DesignFault → Reader → Lines → Type 0
LatticeKept r d (Err (Lattice f)) s e = AllKept (headed levels_of d) r d s e × (table_verdict e.levels e.rows ≡ refusal f)
LatticeKept r d (Err f) s e = Stopped (headed levels_of d) r d f s e
LatticeKept r d (Ok t) s e =
    AllKept (headed levels_of d) r d s e
    × (table_verdict e.levels e.rows ≡ None) × (t.relation.count ≡ e.levels) × (rows_of t.relation.rows ≡ rows_of (take e.levels e.rows))

-- What reading to the end answers: lines before it, and the end or a refusal.
abbrev pub Ended : {T : Type 0} → Reader → Result T LineFault → Reader → Type 0
Ended r (Ok x) s = (lines : List Line) × All (λ l. l ≢ Line.End) lines × Gives r (lines ++ Line.End ∷ []) s
Ended r (Err f) s = (lines : List Line) × All (λ l. l ≢ Line.End) lines × ((m : Reader) × Gives r lines m × Answered m (Err f) s)
