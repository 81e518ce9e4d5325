-- What is printed after a cycle, line by line. Assumes nothing.
--
-- Each line ends with a line feed. Pairs `key=number` are parted by one space. A number is written in decimal, without
-- leading zeros.
use Rattle.std.specs.Prelude.{ℕ, ◌+◌, List, [], ◌∷◌, ◌++◌, length, Some, None, codes, decimal, Option}
use Rattle.std.specs.List.{flat_map}
use Rattle.records.specs.declared.Labeled.{Labeled}
use Rattle.records.specs.declared.Report.{Report}

-- a key with its number, and then the rest of the line
abbrev pub pair : List ℕ → ℕ → List ℕ → List ℕ
pair key n rest = key ++ (codes "=" ++ (decimal n ++ rest))

-- a line of two pairs
abbrev pub pair_line : List ℕ → ℕ → List ℕ → ℕ → List ℕ
pair_line key m key₂ n = pair key m (codes " " ++ pair key₂ n (10 ∷ []))

-- the line of a cycle with so many reports
abbrev pub cycle_line : ℕ → ℕ → List ℕ
cycle_line cycle reports = pair_line (codes "cycle") cycle (codes "reports") reports

abbrev pub report_line : Report → List ℕ
report_line r = pair_line (codes "command") r.command (codes "level") r.level

abbrev pub cell_line : Labeled ℕ → List ℕ
cell_line c = pair_line (codes "value") c.value (codes "level") c.level

-- the line of a state, with its child and the level of that pointer; a state with no child has none
abbrev pub pointer_line : ℕ → Option ℕ → ℕ → List ℕ
pointer_line state None level = []
pointer_line state (Some child) level = pair (codes "state") state (codes " " ++ pair_line (codes "child") child (codes "level") level)

-- the lines of the states from a number on
abbrev pub pointer_lines : ℕ → List (Labeled (Option ℕ)) → List ℕ
pointer_lines state [] = []
pointer_lines state (p ∷ ps) = pointer_line state p.value p.level ++ pointer_lines (state + 1) ps

-- the line of the cycle, its reports, the cells, and the states with children
abbrev pub cycle_text : ℕ → List Report → List (Labeled ℕ) → List (Labeled (Option ℕ)) → List ℕ
cycle_text cycle reports cells pointers =
    cycle_line cycle (length reports) ++ flat_map report_line reports ++ flat_map cell_line cells ++ pointer_lines 0 pointers
