use Rattle.std.proofs.Common.{rules}
use Rattle.shape.specs.Shape.{Design}
use Rattle.design.specs.Model.{owned}
use Rattle.design.proofs.Kept.{formed_none, formed_parts}
use Rattle.actions.proofs.Leaving.{kept_lowest}
use Rattle.machine.proofs.asked.names_child.Goals as goal

pub returns-in-None : goal.returns-in-None
returns-in-None g c =
    let d : Design = owned c.args.design.now.records in
    let kept = kept_lowest d (formed_parts d (formed_none d c.args.design.now.formed)).1 c.args.s in
    search rules
