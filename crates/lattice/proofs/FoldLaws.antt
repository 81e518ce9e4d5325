-- The join of a list is its least upper bound. Assumes nothing.
use Rattle.std.proofs.Common.{◌≡◌, ℕ, true, List, [], ◌∷◌, fold}
use Rattle.std.specs.List.{AllByRecursion}
use Rattle.lattice.specs.Model.{Joins, JoinLaws}
use Rattle.lattice.specs.Folds.{joined, Least, Levels}

module _ (m : Joins) (laws : JoinLaws m) where
  record From (start : ℕ) (levels : List ℕ) (r : ℕ) : Type 0 where
    start_flows : m.flows start r ≡ true
    above : AllByRecursion (λ a. m.flows a r ≡ true) levels
    least : (c : ℕ) → m.flows start c ≡ true → AllByRecursion (λ a. m.flows a c ≡ true) levels → m.flows r c ≡ true

  from : (start : ℕ) (levels : List ℕ) → m.level start ≡ true → Levels m levels → From start levels (fold m.join start levels)
  from start [] s l = record { start_flows = laws.order.reflexive start s; above = tt; least = λ c h k. h }
  from start (x ∷ xs) s l =
      let up : m.flows start (m.join start x) ≡ true = laws.bounds.left start x s l.0 in
      let over : m.flows x (m.join start x) ≡ true = laws.bounds.right start x s l.0 in
      let rest : From (m.join start x) xs (fold m.join (m.join start x) xs) = from (m.join start x) xs (laws.order.to_level _ _ up) l.1 in
      record {
        start_flows = laws.order.transitive _ _ _ up rest.start_flows;
        above = (laws.order.transitive _ _ _ over rest.start_flows, rest.above);
        least = λ c h k. rest.least c (laws.bounds.below start x c h k.0) k.1;
      }

  pub joined_least : (levels : List ℕ) → Levels m levels → Least m levels (joined m levels)
  joined_least levels l =
      let all : From m.bottom levels (joined m levels) = from m.bottom levels laws.bounds.least_level l in
      record {
        level = laws.order.to_level _ _ all.start_flows;
        above = all.above;
        least = λ c p k. all.least c (laws.bounds.least_flows c p) k;
      }
