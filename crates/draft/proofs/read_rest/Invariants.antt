use Rattle.std.proofs.Common.{◌≢◌, List, All}
use Rattle.reader.specs.declared.sections.Line.{Line}
use Rattle.draft.specs.Reading.{Gives}
use Rattle.draft.proofs.Ends.{left}
use Rattle.draft.proofs.read_rest.Given as goal

abbrev pub invariant-loop : goal.invariant-loop
invariant-loop l = (lines : List Line) × All (λ x. x ≢ Line.End) lines × Gives l.initial.reader lines l.reader

abbrev pub decreases-loop : goal.decreases-loop
decreases-loop l = left l.reader
