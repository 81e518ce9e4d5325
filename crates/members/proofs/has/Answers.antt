use Rattle.std.proofs.Common.{sym, ◌∙◌}
use Rattle.std.proofs.lemmas.Bool.{le-ltb}
use Rattle.lattice.specs.Bits.{bit_above}
use Rattle.members.proofs.has.Goals as goal

pub returns-else-t-lt32 : goal.returns-else-t-lt32
returns-else-t-lt32 c =
    le-ltb c.args.t 32 c.if-t-lt32.false
    ∙ sym (bit_above c.args.set 32 c.args.t c.ranges.set.fits c.if-t-lt32.false)
