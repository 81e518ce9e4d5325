use Rattle.std.proofs.Common.{refl}
use Rattle.reader.specs.Texts.{Due}
use Rattle.reader.proofs.Answering.{unkeyed}
use Rattle.reader.proofs.Sequences.{exit}
use Rattle.reader.proofs.lines.due.Goals as goal

pub returns-in_err-value : goal.returns-in_err-value
returns-in_err-value c = exit (Due c.args.section c.args.text.now) _ _ c.from_residual.ensures.1 (unkeyed _ _ _ _ refl c.in_err-value.ensures)
