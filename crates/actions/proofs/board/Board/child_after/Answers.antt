use Rattle.std.proofs.Common.{rules}
use Rattle.shape.specs.Shape.{Design}
use Rattle.design.specs.Model.{owned}
use Rattle.design.proofs.Kept.{formed_none, formed_parts}
use Rattle.actions.proofs.Leaving.{kept_lowest}
use Rattle.actions.proofs.board.Board.child_after.Goals as goal

pub returns-else-is_number : goal.returns-else-is_number
returns-else-is_number g c =
    let d : Design = owned c.args.self.now.design.now.records in
    let kept = kept_lowest d (formed_parts d (formed_none d c.args.self.now.design.now.formed)).1 c.args.t in
    search rules
