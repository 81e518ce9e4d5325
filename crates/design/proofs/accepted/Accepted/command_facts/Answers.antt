use Rattle.std.proofs.Common.{rules}
use Rattle.shape.specs.Shape.{Design}
use Rattle.design.specs.Facts.{no_command_facts, command_facts}
use Rattle.design.specs.Model.{owned}
use Rattle.design.proofs.Mapped.{kept_read}
use Rattle.design.proofs.accepted.Accepted.command_facts.Goals as goal

pub returns : goal.returns
returns g c =
    let d : Design = owned c.args.self.now.records in
    kept_read (command_facts d) d.head.commands c.args.k no_command_facts _ _ _ _ c.record_at.ensures c.deref.ensures.value c.args.self.now.worked.by_command (search rules)
