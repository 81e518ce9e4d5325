use Rattle.std.proofs.Common.{◌≡◌, length}
use Rattle.shape.specs.View.{view}
use Rattle.design.proofs.Reaching.{Firsts, Reached}
use Rattle.design.proofs.reaches.work_out_reaches.Given as goal

abbrev pub invariant-loop-s : goal.invariant-loop-s
invariant-loop-s g l =
    (length l.firsts ≡ 32) × (length l.reaches ≡ 256) × Firsts (view l.tables) (g.O.Own.own l.own) l.s l.firsts
    × Reached (view l.tables) (g.O.Own.own l.own) l.s l.reaches
