use Rattle.std.proofs.Common.{◌≡◌, length}
use Rattle.table.specs.Rows.{rows_of, column}
use Rattle.search.proofs.Filling.{Filled}
use Rattle.table.proofs.relation.Relation.turned.Given as goal

abbrev pub invariant-loop-j : goal.invariant-loop-j
invariant-loop-j l = (length l.rows ≡ 16) × Filled 0 (λ k. column (rows_of l.self.rows) k l.self.count) l.j l.rows
