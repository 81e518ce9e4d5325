use Rattle.std.proofs.Common.{◌≡◌, false, length}
use Rattle.shape.specs.Shape.{ends_node}
use Rattle.shape.specs.View.{view}
use Rattle.rules.proofs.Ranking.{Sunk}
use Rattle.rules.proofs.ends.work_out_ends.Given as goal

abbrev pub invariant-loop-k : goal.invariant-loop-k
invariant-loop-k l = (length l.ends ≡ 256) × Sunk false l.tables.head.commands (ends_node (view l.tables)) l.k l.ends
