use Rattle.reader.proofs.Choosing.{Missed}
use Rattle.reader.proofs.pieces.one_of.Given as goal

abbrev pub invariant-loop-w : goal.invariant-loop-w
invariant-loop-w g l = Missed g.W.Word.spelled l.all l.after l.text l.w-index l.least
