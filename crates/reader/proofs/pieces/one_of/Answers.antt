use Rattle.std.proofs.Common.{◌≡◌, ℕ, length, subst, arith}
use Rattle.reader.proofs.Choosing.{Missed, missed_more, missed_all}
use Rattle.reader.proofs.pieces.one_of.Goals as goal

pub loop-w-preserved : goal.loop-w-preserved
loop-w-preserved g c =
    missed_more g.W.Word.spelled _ _ _ _ _ _ _ _ c.min-least.ensures c.loop-w-test.true c.w-item.is c.loop-w.invariant _ c.text.ensures c.in-Err.ensures

pub returns : goal.returns
returns g c =
    let all = c.args.all.now in
    let ended : c.loop-w.w-index ≡ length all = omega arith in
    missed_all g.W.Word.spelled all _ _ _ c.requires
    (subst (λ (i : ℕ). Missed g.W.Word.spelled all c.args.after.now c.args.text.now i c.loop-w.least) ended c.loop-w.invariant)
