use Rattle.reader.proofs.Grammar.{cell_kind, line_exit}
use Rattle.reader.proofs.lines.cell.Goals as goal

pub returns-in_err-cell : goal.returns-in_err-cell
returns-in_err-cell c = line_exit cell_kind _ _ _ _ c.from_residual.ensures.1 (c.in_err-cell.ensures)
