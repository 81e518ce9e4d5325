use Rattle.std.proofs.Common.{sym, ◌∙◌, arith}
use Rattle.reader.proofs.Numbers.{grow, lead_more}
use Rattle.reader.proofs.pieces.digits.Goals as goal

pub loop-n-preserved : goal.loop-n-preserved
loop-n-preserved c =
    let x = c.in-Some.ensures in
    let g = grow c.args.text.now c.loop-n.n c.loop-n.value c.args.limit c.loop-n-test.true c.loop-n.invariant.0 c.loop-n.invariant.1 x.0 in
    (g.0, g.1 ∙ sym x.1, omega (arith, x.1, x.0.within), λ e. absurd (omega arith), λ e. lead_more c.args.text.now c.loop-n.n c.loop-n.value c.args.limit c.in-Some.longer x.0 x.1 c.loop-n.invariant.3 c.loop-n.invariant.4 e)
