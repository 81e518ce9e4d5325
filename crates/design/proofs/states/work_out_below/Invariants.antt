use Rattle.std.proofs.Common.{◌≡◌, false, length}
use Rattle.shape.specs.View.{view}
use Rattle.rules.proofs.Ranking.{Risen}
use Rattle.design.specs.Chains.{below_node}
use Rattle.design.proofs.states.work_out_below.Given as goal

abbrev pub invariant-loop-t : goal.invariant-loop-t
invariant-loop-t l = (length l.below ≡ 32) × Risen false (below_node (view l.tables) l.s) l.t l.below
