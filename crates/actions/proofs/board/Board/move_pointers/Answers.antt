use Rattle.std.proofs.Common.{rules}
use Rattle.shape.specs.Shape.{Design}
use Rattle.design.specs.Model.{owned}
use Rattle.design.proofs.Kept.{formed_none, formed_parts}
use Rattle.actions.proofs.Changing.{change_none}
use Rattle.actions.proofs.Leaving.{kept_moved}
use Rattle.actions.proofs.board.Board.move_pointers.Goals as goal

pub returns-clause-moved : goal.returns-clause-moved
returns-clause-moved g c =
    let left = change_none _ _ _ _ _ _ _ c.loop-t.invariant.left c.in-None.ensures.steps.0 in
    let design = c.args.self.now.design.now in
    let d : Design = owned design.records in
    let kept = kept_moved d (formed_parts d (formed_none d design.formed)).1 design.exact.2 c.args.s in
    search rules
