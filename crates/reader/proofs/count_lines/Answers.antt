use Rattle.std.proofs.Common.{sym}
use Rattle.reader.proofs.Runs.{reached_start, reached_more, whole_end, whole_fault}
use Rattle.reader.specs.Texts.{Exact}
use Rattle.reader.proofs.Sequences.{exit}
use Rattle.reader.proofs.count_lines.Goals as goal

pub loop-init : goal.loop-init
loop-init c = reached_start _ c.in_ok-reader.reader c.in_ok-reader.ensures

pub loop-preserved : goal.loop-preserved
loop-preserved c =
    reached_more _ c.loop.reader c.read_line.new.self _ c.loop.invariant c.in_ok-read_line.ensures (sym c.if-not-is_end.ensures)

pub returns : goal.returns
returns c = whole_end _ c.loop.reader c.read_line.new.self _ c.loop.invariant c.in_ok-read_line.ensures (sym c.if-not-is_end.ensures)

pub returns-in_err-read_line : goal.returns-in_err-read_line
returns-in_err-read_line c =
    exit (Exact c.args.text.now) _ _ c.from_residual-in_err-read_line.ensures.1
    (whole_fault _ c.loop.reader c.read_line.new.self _ c.loop.invariant c.in_err-read_line.ensures)
