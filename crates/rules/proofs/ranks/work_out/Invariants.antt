use Rattle.std.proofs.Common.{◌≡◌, ℕ, ◌+◌, ◌≤◌, length, get_or}
use Rattle.rules.proofs.Ranking.{Risen}
use Rattle.rules.proofs.ranks.work_out.Given as goal

abbrev pub invariant-loop-k : goal.invariant-loop-k
invariant-loop-k g l =
    (length l.done ≡ 256) × Risen 0 (g.N.Node.node l.nodes) l.k l.done
    × ((j : ℕ) → get_or l.done j 0 ≤ g.N.Node.base l.nodes + l.k)
