use Rattle.std.proofs.Common.{◌≡◌, ◌*◌, ◌≤◌}
use Rattle.search.specs.Sum.{sum_below}
use Rattle.search.proofs.sum_below.Given as goal

abbrev pub invariant-loop-k : goal.invariant-loop-k
invariant-loop-k g l = (l.sum ≡ sum_below (g.A.Amount.amounts l.of) l.k) × (l.sum ≤ 4294967295 * l.k)
