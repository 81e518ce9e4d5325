use Rattle.std.proofs.Common.{refl}
use Rattle.marked.proofs.Marks.{marked}
use Rattle.marked.proofs.marked_cases.Goals as goal

pub returns : goal.returns
returns c = record { count = refl; marked = marked }
