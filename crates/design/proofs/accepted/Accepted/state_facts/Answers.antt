use Rattle.std.proofs.Common.{rules}
use Rattle.shape.specs.Shape.{Design}
use Rattle.design.specs.Facts.{no_state_facts, state_facts}
use Rattle.design.specs.Model.{owned}
use Rattle.design.proofs.Mapped.{kept_read}
use Rattle.design.proofs.accepted.Accepted.state_facts.Goals as goal

pub returns : goal.returns
returns g c =
    let d : Design = owned c.args.self.now.records in
    kept_read (state_facts d) d.head.states c.args.s no_state_facts _ _ _ _ c.record_at.ensures c.deref.ensures.value c.args.self.now.worked.by_state (search rules)
