use Rattle.std.proofs.Common.{sym, lt_of_lt_of_le, mod-eq_of_lt, pow_mono}
use Rattle.actions.proofs.values.cut.Goals as goal

pub returns-else-width-lt32 : goal.returns-else-width-lt32
returns-else-width-lt32 c = sym (mod-eq_of_lt (lt_of_lt_of_le c.ranges.value.fits (pow_mono c.if-width-lt32.false)))
