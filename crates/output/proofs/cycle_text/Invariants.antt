-- What is left to write completes the text.
use Rattle.std.proofs.Common.{◌≡◌, ◌++◌, drop, string_bytes}
use Rattle.std.specs.List.{flat_map}
use Rattle.output.specs.Printed.{report_line, cell_line, pointer_lines, cycle_text}
use Rattle.output.proofs.cycle_text.Given as goal

abbrev pub invariant-loop-command : goal.invariant-loop-command
invariant-loop-command l =
    string_bytes l.text ++ flat_map report_line (drop l.command-index l.reports) ++ flat_map cell_line l.cells ++ pointer_lines 0 l.pointers
    ≡ string_bytes l.fn.text ++ cycle_text l.fn.cycle l.fn.reports l.fn.cells l.fn.pointers

abbrev pub invariant-loop-value : goal.invariant-loop-value
invariant-loop-value l =
    string_bytes l.text ++ flat_map cell_line (drop l.value-index l.cells) ++ pointer_lines 0 l.pointers
    ≡ string_bytes l.fn.text ++ cycle_text l.fn.cycle l.fn.reports l.fn.cells l.fn.pointers

abbrev pub invariant-loop-state : goal.invariant-loop-state
invariant-loop-state l =
    string_bytes l.text ++ pointer_lines l.state-counter (drop l.state-counter l.pointers)
    ≡ string_bytes l.fn.text ++ cycle_text l.fn.cycle l.fn.reports l.fn.cells l.fn.pointers
