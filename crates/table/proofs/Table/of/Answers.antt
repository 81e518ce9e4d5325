use Rattle.std.proofs.Common.{◌≡◌, ℕ, None, sym, ap, ◌∙◌, ap₂}
use Rattle.search.specs.First.{some_below, lowest_below}
use Rattle.search.proofs.Firsts.{none_below, none_first, some_is_first}
use Rattle.table.specs.Rows.{rows_of, breaks, columns, lacks, least_of}
use Rattle.table.proofs.Fill.{no_bound}
use Rattle.table.proofs.Table.of.Goals as goal

pub invariant_of-result : goal.invariant_of-result
invariant_of-result c =
    let n : ℕ = c.args.relation.count in
    let rows : ℕ → ℕ = rows_of c.args.relation.rows in
    let turned = c.turned-turned.ensures in
    let missing = λ (r : ℕ → ℕ) (a : ℕ). some_below (lacks n rows r a) n in
    let bounded : lowest_below (missing (columns n rows)) n ≡ None = ap (λ r. lowest_below (missing r) n) (sym turned.rows) ∙ sym c.first_lacking.ensures ∙ c.in_default-first_lacking.is in
    record {
      some = c.requires;
      few = c.args.relation.few;
      ordered = none_first (breaks n rows) n (sym c.first_broken.ensures ∙ c.in_default.is);
      bounded = none_first (missing (columns n rows)) n bounded;
      low = c.least-bottom.ensures;
      high = c.least-top.ensures ∙ ap₂ least_of turned.count turned.rows;
    }

pub returns-in-Some-first_lacking : goal.returns-in-Some-first_lacking
returns-in-Some-first_lacking c =
    let n : ℕ = c.args.relation.count in
    let rows : ℕ → ℕ = rows_of c.args.relation.rows in
    let turned : ℕ → ℕ = rows_of c.turned-turned.result.rows in
    let low : ℕ = c.in-Some-first_lacking.low in
    let found = some_is_first (λ a. some_below (lacks n rows turned a) n) n low (sym c.first_lacking.ensures ∙ c.in-Some-first_lacking.is) in
    no_bound n rows turned low c.first_lacked-high.result (none_below (breaks n rows) n (sym c.first_broken.ensures ∙ c.in_default.is))
    c.turned-turned.ensures.rows found.0 found.1 c.first_lacked-high.ensures
