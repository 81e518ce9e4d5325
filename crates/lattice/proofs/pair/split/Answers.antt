use Rattle.std.proofs.Common.{ℕ, ◌-◌, refl, ap, ◌∙◌}
use lib.Bits.{bit_and, and_mask}
use Rattle.std.proofs.lemmas.Nat.{one_shl}
use Rattle.lattice.proofs.pair.split.Goals as goal

pub returns : goal.returns
returns c =
    (refl, ap (λ (n : ℕ). bit_and c.args.code (n - 1)) (one_shl c.args.shift 32 c.requires) ∙ and_mask c.args.code c.args.shift)
