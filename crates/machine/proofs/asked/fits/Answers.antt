use Rattle.std.proofs.Common.{arith, lt_of_lt_of_le, pow_mono}
use Rattle.std.proofs.lemmas.Bool.Decides.{nat_tests}
use Rattle.machine.proofs.asked.fits.Goals as goal

pub returns-then-width-ge32 : goal.returns-then-width-ge32
returns-then-width-ge32 c =
    let small = lt_of_lt_of_le c.ranges.value.fits (pow_mono c.if-width-ge32.true) in
    grind (arith, nat_tests)
