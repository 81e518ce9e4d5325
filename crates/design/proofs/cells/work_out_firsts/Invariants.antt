use Rattle.std.proofs.Common.{◌≡◌, map, vec_items}
use Rattle.std.specs.List.{range_with_len}
use Rattle.rules.specs.Rules.{cells_below}
use Rattle.shape.specs.View.{view}
use Rattle.design.proofs.cells.work_out_firsts.Given as goal

abbrev pub invariant-loop-register : goal.invariant-loop-register
invariant-loop-register l =
    (vec_items l.firsts ≡ map (cells_below (view l.formed.tables)) (range_with_len 0 l.register-index))
    × (l.first ≡ cells_below (view l.formed.tables) l.register-index)
