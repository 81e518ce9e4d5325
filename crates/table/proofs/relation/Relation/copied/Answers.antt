use Rattle.std.proofs.Common.{ap, ◌∙◌}
use Rattle.table.specs.Rows.{rows_of}
use Rattle.table.proofs.Fill.{padded, zeros_after}
use Rattle.table.proofs.relation.Relation.copied.Goals as goal

pub returns-clause-rows : goal.returns-clause-rows
returns-clause-rows c = padded _ _ (zeros_after c.args.count 16) ∙ ap rows_of c.copy_from_slice.ensures.after
