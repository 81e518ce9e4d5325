-- What a text is, line by line: the line that is due, and the lines of a whole text. Assumes nothing.
use Rattle.std.specs.Prelude.{◌≡◌, ℕ, ◌+◌, ◌≤◌, ◌<◌, Bool, true, false, List, [], ◌∷◌, ◌++◌, length, Ok, Err, codes, Result}
use Rattle.std.specs.Borrow.{Bor}
use Rattle.std.specs.List.{flat_map}
use Rattle.records.specs.declared.faults.LineFault.{LineFault}
use Rattle.records.specs.declared.faults.LineFault.TheVariants.{NotDue, TooLong}
use Rattle.reader.specs.declared.sections.Line.{Line}
use Rattle.reader.specs.declared.sections.Section.{Section}
use Rattle.reader.specs.declared.sections.Step.{Step}
use Rattle.reader.specs.Format.{write, Goes}
use Rattle.reader.specs.Pieces.{shared}

-- the most bytes that a text may have
abbrev pub most_bytes : ℕ
most_bytes = 60000

abbrev pub ends : Line → Bool
ends (Line.Levels n) = false
ends (Line.Row n) = false
ends (Line.Head h) = false
ends (Line.Port p) = false
ends (Line.Register r) = false
ends (Line.State s) = false
ends (Line.Expression e) = false
ends (Line.Command c) = false
ends (Line.Cell c) = false
ends (Line.Input i) = false
ends Line.End = true

-- `text` is the line l and then `after`; the end of the text is there only where nothing is left
pub record Stands (l : Line) (text after : List ℕ) : Type 0 where
  pub written : text ≡ write l ++ after
  pub nothing : ends l ≡ true → after ≡ []

-- In a section no due line stands at the beginning of the text, and k bytes of it are the most that begin a due line.
pub record Refused (s : Section) (text : List ℕ) (k : ℕ) : Type 0 where
  pub some : (p : Step) × Goes s p × (shared (write p.line) text ≡ k)
  pub most : (p : Step) → Goes s p → shared (write p.line) text ≤ k
  pub none : (p : Step) (after : List ℕ) → Goes s p → Stands p.line text after → ⊥

-- the cells of the registers so far, while registers are still read
abbrev pub cells_so_far : Section → ℕ
cells_so_far Section.Levels = 0
cells_so_far (Section.Rows n) = 0
cells_so_far Section.Head = 0
cells_so_far (Section.Ports a) = a.plan.cells
cells_so_far (Section.Registers a) = a.plan.cells
cells_so_far (Section.States a) = 0
cells_so_far (Section.Expressions a) = 0
cells_so_far (Section.Commands a) = 0
cells_so_far (Section.Cells n h) = 0
cells_so_far (Section.Inputs n) = 0
cells_so_far Section.End = 0

-- What reading the line that is due answers: the line with the section that follows it, and what is left of the text; or how
-- many bytes are left where the reading stops.
abbrev pub Due : Section → List ℕ → Result (Step × Bor (List ℕ)) ℕ → Type 0
Due s text (Ok p) = Goes s p.0 × Stands p.0.line text p.1.now
Due s text (Err left) = (k : ℕ) × (k + left ≡ length text) × Refused s text k

-- the key at the head of each line of a section
abbrev pub due_key : Section → List ℕ
due_key Section.Levels = codes "levels="
due_key (Section.Rows n) = codes "row="
due_key Section.Head = codes "ports="
due_key (Section.Ports a) = codes "width="
due_key (Section.Registers a) = codes "width="
due_key (Section.States a) = codes "parent="
due_key (Section.Expressions a) = codes "op="
due_key (Section.Commands a) = codes "do="
due_key (Section.Cells n h) = codes "value="
due_key (Section.Inputs n) = codes "in="
due_key Section.End = []

-- Lines that come one after another, from one section to another; the end is none of them.
pub data Run : Section → List Line → Section → Type 0 where
  none : {s : Section} → Run s [] s
  more : {s t u : Section} {l : Line} {ls : List Line} → Goes s (record { line = l; next = t }) → ends l ≡ false → Run t ls u → Run s (l ∷ ls) u

-- A whole text is read back: it is the lines of a run from the first section to the end, as they are written. Any other text
-- is refused, at the line after a run that it begins with and that no due line goes on with, and at the byte where none does.
abbrev pub Whole : List ℕ → Result ℕ LineFault → Type 0
Whole text (Ok n) = (ls : List Line) × Run Section.Levels ls Section.End × (text ≡ flat_map write ls) × (n ≡ length ls)
Whole text (Err TooLong) = most_bytes < length text
Whole text (Err (NotDue line byte)) =
    (ls : List Line) × ((s : Section) × Run Section.Levels ls s
    × ((rest : List ℕ) × (text ≡ flat_map write ls ++ rest) × (line ≡ length ls + 1)
    × ((k : ℕ) × Refused s rest k × (byte ≡ k + 1))))

-- a text that is not too long and is the lines of such a run is accepted
abbrev pub Accepts : List ℕ → Result ℕ LineFault → Type 0
Accepts text r = (ls : List Line) → Run Section.Levels ls Section.End → text ≡ flat_map write ls → length text ≤ most_bytes → r ≡ Ok (length ls)

abbrev pub Exact : List ℕ → Result ℕ LineFault → Type 0
Exact text r = Whole text r × Accepts text r
