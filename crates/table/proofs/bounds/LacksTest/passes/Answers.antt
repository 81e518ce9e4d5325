use Rattle.std.proofs.Common.{ℕ, ◌||◌, eqb, is_some, sym, ap, ◌∙◌, ap₂}
use Rattle.search.specs.First.{first}
use Rattle.search.proofs.Firsts.{none_lowest}
use Rattle.table.specs.Rows.{rows_of, upper, least_in}
use Rattle.table.proofs.bounds.LacksTest.passes.Goals as goal

pub returns : goal.returns
returns c =
    let bounds = c.args.self.now.bounds in
    let least = λ (rows : ℕ → ℕ). least_in rows (upper rows c.args.self.now.a c.args.b) in
    ap₂ ◌||◌
    (none_lowest (least (rows_of bounds.order.now.rows)) bounds.order.now.count c.is_none.result (sym (ap is_some c.least_above-join.ensures) ∙ c.is_none.ensures))
    (none_lowest (least (rows_of bounds.turned.now.rows)) bounds.turned.now.count c.is_none-2.result (sym (ap is_some c.least_above-meet.ensures) ∙ c.is_none-2.ensures)
    ∙ ap (λ (n : ℕ). eqb (first (least (rows_of bounds.turned.now.rows)) n) n) bounds.alike)
