use Rattle.std.proofs.Common.{ℕ, get_or, unwrap_or, sym, ap, ◌∙◌}
use Rattle.std.proofs.lemmas.Bool.{cond-false}
use Rattle.search.specs.First.{some_below}
use Rattle.search.proofs.Firsts.{lowest_or, none_below}
use Rattle.shape.specs.Shape.{is_first, links_to}
use Rattle.shape.specs.View.{view}
use Rattle.rules.proofs.places.OwnerNode.value.Goals as goal

pub returns-clause-value : goal.returns-clause-value
returns-clause-value c =
    let d = view c.args.self.now.tables in
    let k : ℕ = c.args.k in
    let begins = is_first d k in
    let none = none_below begins d.head.states (sym c.first_below.ensures ∙ c.in_default.is) in
    let named = c.unwrap_or-named_by.ensures ∙ ap (λ r. unwrap_or r k) c.first_below-2.ensures ∙ lowest_or (links_to d k) k in
    c.record_at.ensures ∙ ap (λ i. get_or c.args.done.now i 0) named ∙ sym (cond-false (some_below begins d.head.states) _ _ none)
