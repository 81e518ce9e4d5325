use Rattle.std.proofs.Common.{is_some, ap, ◌∙◌, arith}
use Rattle.std.proofs.lemmas.Nat.{one_shl}
use Rattle.search.proofs.Firsts.{some_lowest}
use Rattle.table.specs.Rows.{rows_of, clashes}
use Rattle.table.proofs.Fill.{breaks_by}
use Rattle.table.proofs.order.BreaksTest.passes.Goals as goal

pub returns : goal.returns
returns c =
    let relation = c.args.self.now.relation.now in
    let clash = c.is_some.ensures ∙ ap is_some c.first_below-clash.ensures ∙ some_lowest (clashes (rows_of relation.rows) c.args.i) relation.count in
    breaks_by relation.count _ _ _ _ _ _ (one_shl relation.count 32 (omega arith)) c.row-row.ensures c.has.ensures clash
