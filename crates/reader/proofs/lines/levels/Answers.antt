use Rattle.reader.proofs.Grammar.{levels_kind, line_exit}
use Rattle.reader.proofs.lines.levels.Goals as goal

pub returns-in_err-n : goal.returns-in_err-n
returns-in_err-n c = line_exit levels_kind _ _ _ _ c.from_residual.ensures.1 (c.in_err-n.ensures)
