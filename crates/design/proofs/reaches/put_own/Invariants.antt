use Rattle.std.proofs.Common.{◌≡◌, ℕ, ◌<◌, ◌≤◌, cond, eqb, length, get_or}
use Rattle.design.proofs.reaches.put_own.Given as goal

abbrev pub invariant-loop-k : goal.invariant-loop-k
invariant-loop-k l =
    (length l.reaches ≡ 256)
    × ((j : ℕ) → j < l.k → get_or l.reaches j 0 ≡ cond (eqb (get_or l.owners j 0) l.s) (get_or l.row j 0) (get_or l.initial.reaches j 0))
    × ((j : ℕ) → l.k ≤ j → get_or l.reaches j 0 ≡ get_or l.initial.reaches j 0)
