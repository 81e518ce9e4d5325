use Rattle.std.proofs.Common.{refl}
use mathlib.Core.Path.{fun_ext}
use Rattle.search.proofs.Filling.{filled_all}
use Rattle.table.specs.Rows.{columns}
use Rattle.table.proofs.relation.Relation.turned.Goals as goal

pub returns : goal.returns
unfolding columns
returns c =
    record {
      count = refl;
      rows = fun_ext (filled_all 0 _ _ _ _ c.loop-j-test.false c.loop-j.auto.j-end c.loop-j.invariant.1);
    }
