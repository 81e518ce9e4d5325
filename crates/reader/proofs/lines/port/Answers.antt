use Rattle.reader.proofs.Grammar.{port_kind, line_exit}
use Rattle.reader.proofs.lines.port.Goals as goal

pub returns-in_err-width : goal.returns-in_err-width
returns-in_err-width c = line_exit port_kind _ _ _ _ c.from_residual.ensures.1 (c.in_err-width.ensures)
