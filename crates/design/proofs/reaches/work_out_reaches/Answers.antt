use Rattle.std.proofs.Common.{◌≡◌, ℕ, suc, ◌-◌, ◌<◌, false, get_or, refl, ap, ◌∙◌, subst, arith, length-set, rules}
use Rattle.shape.specs.Shape.{Design, state_at}
use Rattle.shape.specs.View.{view}
use Rattle.search.proofs.Filling.{held}
use Rattle.design.specs.Chains.{is_below}
use Rattle.design.proofs.Kept.{sized_if}
use Rattle.design.proofs.Reaching.{Firsts, Reached, falls_of, owner_below, first_within, falls_filled, row_filled, firsts_more, reached_more}
use Rattle.design.proofs.reaches.work_out_reaches.Goals as goal

pub loop-s-init : goal.loop-s-init
loop-s-init g c =
    let d : Design = view c.args.formed.tables in
    let some : 0 < d.head.states = omega (arith, (sized_if d c.args.formed.sized).some_states) in
    (refl, refl, λ t l m. absurd (omega arith), λ k l m. absurd (omega (arith, owner_below d k some)))

pub loop-s-preserved : goal.loop-s-preserved
loop-s-preserved g c =
    let d : Design = view c.args.formed.tables in
    let own = g.O.Own.own c.args.own.now in
    let s : ℕ = c.loop-s.s - 1 in
    let e : c.loop-s.s ≡ suc s = omega arith in
    let within : s < d.head.states = omega arith in
    let firsts : Firsts d own (suc s) c.loop-s.firsts = subst (λ i. Firsts d own i c.loop-s.firsts) e c.loop-s.invariant.2 in
    let reached : Reached d own (suc s) c.loop-s.reaches = subst (λ i. Reached d own i c.loop-s.reaches) e c.loop-s.invariant.3 in
    let below = held false d.head.states (is_below d s) c.work_out_below-below.result c.work_out_below-below.ensures in
    let falls : c.union_below-falls.result ≡ falls_of d own s =
    c.union_below-falls.ensures ∙ falls_filled d own c.args.formed.links s c.work_out_below-below.result c.loop-s.firsts below firsts in
    let rows = row_filled d own c.args.formed.links s c.union_below-falls.result c.work_out_row-row.result falls c.work_out_row-row.ensures in
    let first =
    c.record_at.ensures ∙ ap (λ t. get_or c.work_out_row-row.result t.first 0) c.state.ensures
    ∙ rows (state_at d s).first (first_within d c.args.formed.links s within) in (
      length-set _ _ _ ∙ c.loop-s.invariant.0,
      search rules,
      firsts_more d own c.args.formed.links s c.loop-s.firsts _ (omega arith) first firsts,
      reached_more d own c.args.formed.links s c.loop-s.reaches c.put_own.new.reaches c.work_out_row-row.result c.args.owners.now c.args.formed.few_commands c.put_own.ensures c.requires rows reached,
    )
