use Rattle.std.proofs.Common.{◌≡◌, ℕ, ◌+◌, ◌&&◌, ◌||◌, eqb, ◌∙◌, ap₂, arith}
use Rattle.std.proofs.lemmas.Bool.Decides.{nat_tests}
use Rattle.rules.proofs.links.is_named_once.Goals as goal

one_of : (a b : ℕ) → ((eqb a 1 && eqb b 0) || (eqb a 0 && eqb b 1)) ≡ eqb (a + b) 1
one_of a b = grind (arith, nat_tests)

pub returns : goal.returns
returns c =
    one_of c.sum_below-by_states.result c.sum_below-by_commands.result
    ∙ ap₂ (λ (a b : ℕ). eqb (a + b) 1) c.sum_below-by_states.ensures.value c.sum_below-by_commands.ensures.value
