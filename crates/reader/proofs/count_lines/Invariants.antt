use Rattle.std.proofs.Common.{length}
use Rattle.reader.proofs.Runs.{Reached}
use Rattle.reader.proofs.count_lines.Given as goal

abbrev pub invariant-loop : goal.invariant-loop
invariant-loop l = Reached l.text l.reader

abbrev pub decreases-loop : goal.decreases-loop
decreases-loop l = length l.reader.rest.now
