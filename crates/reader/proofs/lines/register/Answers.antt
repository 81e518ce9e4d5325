use Rattle.std.proofs.Common.{inl, inr, rules}
use Rattle.reader.proofs.Grammar.{register_kind, line_exit, line_gives}
use Rattle.reader.proofs.lines.register.Goals as goal

pub returns-in_err-width : goal.returns-in_err-width
returns-in_err-width c = line_exit register_kind _ _ _ _ c.from_residual.ensures.1 (inl c.in_err-width.ensures)

pub returns-in_err-cells : goal.returns-in_err-cells
returns-in_err-cells c = line_exit register_kind _ _ _ _ c.from_residual-in_err-cells.ensures.1 (inr (_, _, c.in_ok-width.ensures, inl c.in_err-cells.ensures))

pub returns-in_err-mode : goal.returns-in_err-mode
returns-in_err-mode c = line_exit register_kind _ _ _ _ c.from_residual-in_err-mode.ensures.1 (inr (_, _, c.in_ok-width.ensures, inr (_, _, c.in_ok-cells.ensures, inl c.in_err-mode.ensures)))

pub returns-in_err-floor : goal.returns-in_err-floor
returns-in_err-floor c = line_exit register_kind _ _ _ _ c.from_residual-in_err-floor.ensures.1 (inr (_, _, c.in_ok-width.ensures, inr (_, _, c.in_ok-cells.ensures, inr (_, _, c.in_ok-mode.ensures, c.in_err-floor.ensures))))

pub returns : goal.returns
returns c = line_gives register_kind _ _ _ _ _ (_, c.in_ok-width.ensures, (_, c.in_ok-cells.ensures, (_, c.in_ok-mode.ensures, c.in_ok-floor.ensures))) (search rules)
