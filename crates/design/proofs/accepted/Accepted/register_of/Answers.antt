use Rattle.std.proofs.Common.{ℕ}
use Rattle.rules.specs.Rules.{cells_below}
use Rattle.shape.specs.Shape.{Design}
use Rattle.design.specs.Facts.{register_of}
use Rattle.design.specs.Model.{owned}
use Rattle.design.proofs.Mapped.{kept_on}
use Rattle.design.proofs.Sums.{register_past}
use Rattle.design.proofs.accepted.Accepted.register_of.Goals as goal

pub returns : goal.returns
returns g c =
    let d : Design = owned c.args.self.now.records in
    let j : ℕ = c.args.j in
    kept_on (register_of d) (cells_below d d.head.registers) j _ _ _ _ c.record_at.ensures c.deref.ensures.value c.args.self.now.worked.by_cell (register_past d j)
