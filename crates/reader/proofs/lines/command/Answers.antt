use Rattle.std.proofs.Common.{inl, inr, rules}
use Rattle.reader.proofs.Grammar.{command_kind, line_exit, line_gives}
use Rattle.reader.proofs.lines.command.Goals as goal

pub returns-in_err-action : goal.returns-in_err-action
returns-in_err-action c = line_exit command_kind _ _ _ _ c.from_residual.ensures.1 (inl c.in_err-action.ensures)

pub returns-in_err-x : goal.returns-in_err-x
returns-in_err-x c = line_exit command_kind _ _ _ _ c.from_residual-in_err-x.ensures.1 (inr (_, _, c.in_ok-action.ensures, inl c.in_err-x.ensures))

pub returns-in_err-i : goal.returns-in_err-i
returns-in_err-i c = line_exit command_kind _ _ _ _ c.from_residual-in_err-i.ensures.1 (inr (_, _, c.in_ok-action.ensures, inr (_, _, c.in_ok-x.ensures, inl c.in_err-i.ensures)))

pub returns-in_err-e : goal.returns-in_err-e
returns-in_err-e c = line_exit command_kind _ _ _ _ c.from_residual-in_err-e.ensures.1 (inr (_, _, c.in_ok-action.ensures, inr (_, _, c.in_ok-x.ensures, inr (_, _, c.in_ok-i.ensures, inl c.in_err-e.ensures))))

pub returns-in_err-next : goal.returns-in_err-next
returns-in_err-next c = line_exit command_kind _ _ _ _ c.from_residual-in_err-next.ensures.1 (inr (_, _, c.in_ok-action.ensures, inr (_, _, c.in_ok-x.ensures, inr (_, _, c.in_ok-i.ensures, inr (_, _, c.in_ok-e.ensures, inl c.in_err-next.ensures)))))

pub returns-in_err-alt : goal.returns-in_err-alt
returns-in_err-alt c = line_exit command_kind _ _ _ _ c.from_residual-in_err-alt.ensures.1 (inr (_, _, c.in_ok-action.ensures, inr (_, _, c.in_ok-x.ensures, inr (_, _, c.in_ok-i.ensures, inr (_, _, c.in_ok-e.ensures, inr (_, _, c.in_ok-next.ensures, c.in_err-alt.ensures))))))

pub returns : goal.returns
returns c = line_gives command_kind _ _ _ _ _ (_, c.in_ok-action.ensures, (_, c.in_ok-x.ensures, (_, c.in_ok-i.ensures, (_, c.in_ok-e.ensures, (_, c.in_ok-next.ensures, c.in_ok-alt.ensures))))) (search rules)
