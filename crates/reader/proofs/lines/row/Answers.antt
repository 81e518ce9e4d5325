use Rattle.reader.proofs.Grammar.{row_kind, line_exit}
use Rattle.reader.proofs.lines.row.Goals as goal

pub returns-in_err-n : goal.returns-in_err-n
returns-in_err-n c = line_exit row_kind _ _ _ _ c.from_residual.ensures.1 (c.in_err-n.ensures)
