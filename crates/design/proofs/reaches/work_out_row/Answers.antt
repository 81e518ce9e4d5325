use Rattle.std.proofs.Common.{◌≡◌, ℕ, suc, ◌-◌, get_or, refl, ap, ◌∙◌, subst, arith, length-set}
use Rattle.shape.specs.View.{view}
use Rattle.rules.proofs.Ranking.{Sunk, sunk_none, sunk_more, sunk_all}
use Rattle.design.specs.Reaches.{command_reach, reach_node}
use Rattle.design.proofs.reaches.work_out_row.Goals as goal

pub loop-k-init : goal.loop-k-init
loop-k-init g c = (
  refl,
  sunk_none 0 c.args.formed.tables.head.commands (reach_node (view c.args.formed.tables) (g.O.Own.own c.args.own.now c.args.s) c.args.falls) 256,
)

pub loop-k-preserved : goal.loop-k-preserved
loop-k-preserved g c =
    let n : ℕ = c.args.formed.tables.head.commands in
    let own = g.O.Own.own c.args.own.now c.args.s in
    let node = reach_node (view c.args.formed.tables) own c.args.falls in
    let k : ℕ = c.loop-k.k - 1 in
    let e : c.loop-k.k ≡ suc k = omega arith in
    let worked = c.command_reach.ensures ∙ ap (command_reach own c.args.falls (λ j. get_or c.loop-k.row j 0)) c.command.ensures in
    (length-set _ _ _ ∙ c.loop-k.invariant.0, sunk_more 0 n node c.loop-k.row k _ (omega arith) (omega arith) worked (subst (λ i. Sunk 0 n node i c.loop-k.row) e c.loop-k.invariant.1))

pub returns : goal.returns
returns g c =
    sunk_all 0 c.args.formed.tables.head.commands (reach_node (view c.args.formed.tables) (g.O.Own.own c.args.own.now c.args.s) c.args.falls)
    c.loop-k.k c.loop-k.row c.loop-k-test.false c.loop-k.invariant.1
