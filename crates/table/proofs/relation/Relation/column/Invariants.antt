use Rattle.std.proofs.Common.{◌≡◌}
use Rattle.table.specs.Rows.{rows_of, column}
use Rattle.table.proofs.relation.Relation.column.Given as goal

abbrev pub invariant-loop-i : goal.invariant-loop-i
invariant-loop-i l = l.all ≡ column (rows_of l.self.rows) l.j l.i
