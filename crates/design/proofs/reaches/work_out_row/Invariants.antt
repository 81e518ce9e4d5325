use Rattle.std.proofs.Common.{◌≡◌, length}
use Rattle.shape.specs.View.{view}
use Rattle.rules.proofs.Ranking.{Sunk}
use Rattle.design.specs.Reaches.{reach_node}
use Rattle.design.proofs.reaches.work_out_row.Given as goal

abbrev pub invariant-loop-k : goal.invariant-loop-k
invariant-loop-k g l =
    (length l.row ≡ 256) × Sunk 0 l.tables.head.commands (reach_node (view l.tables) (g.O.Own.own l.own l.s) l.falls) l.k l.row
