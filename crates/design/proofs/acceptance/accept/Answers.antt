use Rattle.std.proofs.Common.{◌≡◌, false, is_some, None, sym, refl, ap, ◌∙◌, subst, rules}
use Rattle.lattice.specs.Model.{Joins}
use Rattle.rules.specs.Rules.{◌⊳◌, broken}
use Rattle.shape.specs.Shape.{Design}
use Rattle.shape.specs.View.{view}
use Rattle.design.specs.Facts.{WorkedOut}
use Rattle.design.specs.Verdict.{Exact, short, cut, well_formed}
use Rattle.design.proofs.Kept.{formed_if, exact_if}
use Rattle.design.proofs.acceptance.accept.Goals as goal

pub invariant_of-work_out_facts-clause-exact : goal.invariant_of-work_out_facts-clause-exact
invariant_of-work_out_facts-clause-exact g c =
    exact_if (view c.args.tables) (view c.in_ok-tables.tables) (search rules) (search rules)

pub invariant_of-result : goal.invariant_of-result
invariant_of-result g c =
    let m : Joins = (g.L.Lattice.model c.args.lattice).joins in
    let d : Design = view c.in_ok-tables.tables in
    let copied = sym c.in_ok-records.ensures in
    let formed = ap is_some (formed_if m d (sym c.in_ok-check.ensures)) in
    record {
      worked = subst (λ x. WorkedOut x c.in_ok-facts.facts) copied c.in_ok-facts.ensures;
      formed = subst (λ x. is_some (well_formed x) ≡ false) copied formed;
      exact = subst Exact copied (exact_if (view c.args.tables) d (search rules) (search rules));
    }

pub returns : goal.returns
returns g c =
    let m : Joins = (g.L.Lattice.model c.args.lattice).joins in
    let lent : Design = view c.args.tables in
    let whole : short lent ≡ None = search rules in
    let cuts : view c.in_ok-tables.tables ≡ cut lent = search rules in
    let kept = subst (λ x. broken m x ≡ None) cuts (sym c.in_ok-check.ensures) in (
      ap (λ o. o ⊳ broken m (cut lent)) whole ∙ kept,
      (refl, c.in_ok-records.ensures ∙ cuts, subst (λ x. WorkedOut x c.in_ok-facts.facts) cuts c.in_ok-facts.ensures),
    )
