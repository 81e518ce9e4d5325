use Rattle.std.proofs.Common.{inl, inr}
use Rattle.reader.proofs.Grammar.{expression_kind, line_exit}
use Rattle.reader.proofs.lines.expression.Goals as goal

pub returns-in_err-op : goal.returns-in_err-op
returns-in_err-op c = line_exit expression_kind _ _ _ _ c.from_residual.ensures.1 (inl c.in_err-op.ensures)

pub returns-in_err-a : goal.returns-in_err-a
returns-in_err-a c = line_exit expression_kind _ _ _ _ c.from_residual-in_err-a.ensures.1 (inr (_, _, c.in_ok-op.ensures, inl c.in_err-a.ensures))

pub returns-in_err-b : goal.returns-in_err-b
returns-in_err-b c = line_exit expression_kind _ _ _ _ c.from_residual-in_err-b.ensures.1 (inr (_, _, c.in_ok-op.ensures, inr (_, _, c.in_ok-a.ensures, c.in_err-b.ensures)))
