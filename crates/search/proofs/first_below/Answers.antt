use Rattle.std.proofs.Common.{◌≡◌, true, false, rules}
use Rattle.std.proofs.lemmas.Iterator.{first_from_Range}
use Rattle.search.proofs.Firsts.{lowest_is}
use Rattle.search.proofs.first_below.Goals as goal

pub returns : goal.returns
returns g c =
    let p = g.T.Test.test c.args.test.now in
    lowest_is p c.args.count c.find.result (first_from_Range _ _ _ _ (λ k. p k ≡ true) (λ k. p k ≡ false) c.find.ensures.ran (λ x q e. search rules) (λ x q e. search rules))
