use Rattle.draft.specs.Reading.{AllKept, view}
use Rattle.draft.proofs.Draft.read_lines.Given as goal

abbrev pub invariant-loop : goal.invariant-loop
invariant-loop l = AllKept (λ _. l.counter) l.initial.reader (view l.initial.self) l.reader (view l.self)
