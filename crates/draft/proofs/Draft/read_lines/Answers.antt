use Rattle.std.proofs.Common.{rules}
use Rattle.draft.proofs.Readings.{at_start, one_more, no_line, no_memory}
use Rattle.draft.specs.Reading.{view}
use Rattle.draft.proofs.Draft.read_lines.Goals as goal

pub loop-init : goal.loop-init
loop-init c = at_start c.args.reader.now (view c.args.self.now)

pub loop-preserved : goal.loop-preserved
loop-preserved c =
    one_more c.args.reader.now (view c.args.self.now) c.loop.counter c.loop.reader (view c.loop.self) c.loop.invariant
    c.read_line.new.self (view c.keep.new.self) c.in_ok-line.line c.in_ok-line.ensures c.in_ok-keep.ensures

pub returns-in_err-line : goal.returns-in_err-line
returns-in_err-line c =
    no_line c.args.reader.now (view c.args.self.now) c.loop.counter c.loop.reader (view c.loop.self) c.loop.invariant
    c.args.count (search rules) c.from_residual.result c.read_line.new.self
    c.in_err-line.field-0.0 c.in_err-line.ensures c.from_residual.ensures.1

pub returns-in_err-keep : goal.returns-in_err-keep
returns-in_err-keep c =
    no_memory c.args.reader.now (view c.args.self.now) c.loop.counter c.loop.reader (view c.loop.self) c.loop.invariant
    c.args.count (search rules) c.from_residual-in_err-keep.result c.read_line.new.self
    (view c.keep.new.self) c.in_ok-line.line c.in_ok-line.ensures c.in_err-keep.ensures c.from_residual-in_err-keep.ensures.1
