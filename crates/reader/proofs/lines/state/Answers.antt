use Rattle.std.proofs.Common.{inl, inr, rules}
use Rattle.reader.proofs.Grammar.{state_kind, line_exit, line_gives}
use Rattle.reader.proofs.lines.state.Goals as goal

pub returns-in_err-parent : goal.returns-in_err-parent
returns-in_err-parent c = line_exit state_kind _ _ _ _ c.from_residual.ensures.1 (inl c.in_err-parent.ensures)

pub returns-in_err-mode : goal.returns-in_err-mode
returns-in_err-mode c = line_exit state_kind _ _ _ _ c.from_residual-in_err-mode.ensures.1 (inr (_, _, c.in_ok-parent.ensures, inl c.in_err-mode.ensures))

pub returns-in_err-level : goal.returns-in_err-level
returns-in_err-level c = line_exit state_kind _ _ _ _ c.from_residual-in_err-level.ensures.1 (inr (_, _, c.in_ok-parent.ensures, inr (_, _, c.in_ok-mode.ensures, inl c.in_err-level.ensures)))

pub returns-in_err-first : goal.returns-in_err-first
returns-in_err-first c = line_exit state_kind _ _ _ _ c.from_residual-in_err-first.ensures.1 (inr (_, _, c.in_ok-parent.ensures, inr (_, _, c.in_ok-mode.ensures, inr (_, _, c.in_ok-level.ensures, c.in_err-first.ensures))))

pub returns : goal.returns
returns c = line_gives state_kind _ _ _ _ _ (_, c.in_ok-parent.ensures, (_, c.in_ok-mode.ensures, (_, c.in_ok-level.ensures, c.in_ok-first.ensures))) (search rules)
