-- How many reports a chain can make. Assumes nothing.
use Rattle.std.specs.Prelude.{ℕ, suc, ◌+◌, max, List, [], ◌∷◌, map}
use Rattle.std.specs.List.{range_with_len}
use Rattle.design.specs.Chains.{Chain, stop, run}

abbrev pub largest : List ℕ → ℕ
largest [] = 0
largest (n ∷ ns) = max n (largest ns)

-- At most one for each command that runs: of its other chains a command runs at most one. n is the number of states.
unfoldable pub most_reports : ℕ → Chain → ℕ
most_reports n stop = 0
most_reports n (run s k command alt next then_branch else_branch states) =
    suc
    (largest
    (most_reports n alt ∷ most_reports n then_branch ∷ most_reports n else_branch
    ∷ largest (map (λ t. most_reports n (states t)) (range_with_len 0 n)) ∷ [])
    + most_reports n next)
