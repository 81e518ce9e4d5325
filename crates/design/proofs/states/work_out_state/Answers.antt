use Rattle.std.proofs.Common.{◌≡◌, ℕ, ◌<◌, Bool, false, ◌&&◌, ◌||◌, eqb, get_or, ap, ◌∙◌}
use Rattle.rules.specs.Rules.{has_children}
use Rattle.shape.specs.Shape.{Design, state_at, holds}
use Rattle.shape.specs.View.{view}
use Rattle.search.proofs.Filling.{held}
use Rattle.design.specs.Chains.{is_below, is_moved}
use Rattle.design.proofs.Mapped.{set_same}
use Rattle.design.proofs.states.work_out_state.Goals as goal

pub returns : goal.returns
returns c =
    let d : Design = view c.args.formed.tables in
    let s : ℕ = c.args.s in
    let n : ℕ = d.head.states in
    let worked : ℕ → Bool = λ t. get_or c.work_out_below-below.result t false in
    let same : (t : ℕ) → t < n → worked t ≡ is_below d s t = held false n (is_below d s) c.work_out_below-below.result c.work_out_below-below.ensures in
    let children = c.set_where.ensures in
    let descendants = c.set_where-2.ensures ∙ set_same worked (is_below d s) n same in
    let lowest = c.lowest_child.ensures in
    let moved =
    c.set_where-3.ensures
    ∙ set_same (is_moved d s worked) (is_moved d s (is_below d s)) n
    (λ t l. ap (λ b. has_children d t && ((eqb t s || holds (state_at d s).parent t) || b)) (same t l)) in
    cc
