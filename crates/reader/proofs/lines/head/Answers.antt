use Rattle.std.proofs.Common.{inl, inr, rules}
use Rattle.reader.proofs.Grammar.{head_kind, line_exit, line_gives}
use Rattle.reader.proofs.lines.head.Goals as goal

pub returns-in_err-ports : goal.returns-in_err-ports
returns-in_err-ports c = line_exit head_kind _ _ _ _ c.from_residual.ensures.1 (inl c.in_err-ports.ensures)

pub returns-in_err-registers : goal.returns-in_err-registers
returns-in_err-registers c = line_exit head_kind _ _ _ _ c.from_residual-in_err-registers.ensures.1 (inr (_, _, c.in_ok-ports.ensures, inl c.in_err-registers.ensures))

pub returns-in_err-states : goal.returns-in_err-states
returns-in_err-states c = line_exit head_kind _ _ _ _ c.from_residual-in_err-states.ensures.1 (inr (_, _, c.in_ok-ports.ensures, inr (_, _, c.in_ok-registers.ensures, inl c.in_err-states.ensures)))

pub returns-in_err-expressions : goal.returns-in_err-expressions
returns-in_err-expressions c = line_exit head_kind _ _ _ _ c.from_residual-in_err-expressions.ensures.1 (inr (_, _, c.in_ok-ports.ensures, inr (_, _, c.in_ok-registers.ensures, inr (_, _, c.in_ok-states.ensures, inl c.in_err-expressions.ensures))))

pub returns-in_err-commands : goal.returns-in_err-commands
returns-in_err-commands c = line_exit head_kind _ _ _ _ c.from_residual-in_err-commands.ensures.1 (inr (_, _, c.in_ok-ports.ensures, inr (_, _, c.in_ok-registers.ensures, inr (_, _, c.in_ok-states.ensures, inr (_, _, c.in_ok-expressions.ensures, inl c.in_err-commands.ensures)))))

pub returns-in_err-cycles : goal.returns-in_err-cycles
returns-in_err-cycles c = line_exit head_kind _ _ _ _ c.from_residual-in_err-cycles.ensures.1 (inr (_, _, c.in_ok-ports.ensures, inr (_, _, c.in_ok-registers.ensures, inr (_, _, c.in_ok-states.ensures, inr (_, _, c.in_ok-expressions.ensures, inr (_, _, c.in_ok-commands.ensures, c.in_err-cycles.ensures))))))

pub returns : goal.returns
returns c = line_gives head_kind _ _ _ _ _ (_, c.in_ok-ports.ensures, (_, c.in_ok-registers.ensures, (_, c.in_ok-states.ensures, (_, c.in_ok-expressions.ensures, (_, c.in_ok-commands.ensures, c.in_ok-cycles.ensures))))) (search rules)
