use Rattle.reader.proofs.Grammar.{input_kind, line_exit}
use Rattle.reader.proofs.lines.input.Goals as goal

pub returns-in_err-input : goal.returns-in_err-input
returns-in_err-input c = line_exit input_kind _ _ _ _ c.from_residual.ensures.1 (c.in_err-input.ensures)
