use Rattle.std.proofs.Common.{◌≡◌, ℕ, suc, ◌-◌, false, get_or, refl, ap, ◌∙◌, subst, arith, length-set}
use Rattle.shape.specs.Shape.{chain_ends, ends_node}
use Rattle.shape.specs.View.{view}
use Rattle.rules.proofs.Ranking.{Sunk, sunk_none, sunk_more, sunk_all}
use Rattle.rules.proofs.ends.work_out_ends.Goals as goal

pub loop-k-init : goal.loop-k-init
loop-k-init c = (refl, sunk_none false c.args.counted.tables.head.commands (ends_node (view c.args.counted.tables)) 256)

pub loop-k-preserved : goal.loop-k-preserved
loop-k-preserved c =
    let n : ℕ = c.args.counted.tables.head.commands in
    let node = ends_node (view c.args.counted.tables) in
    let k : ℕ = c.loop-k.k - 1 in
    let e : c.loop-k.k ≡ suc k = omega arith in
    let worked = c.is_chain_ending.ensures ∙ ap (chain_ends (λ j. get_or c.loop-k.ends j false)) c.command.ensures in
    (length-set _ _ _ ∙ c.loop-k.invariant.0, sunk_more false n node c.loop-k.ends k _ (omega arith) (omega arith) worked (subst (λ i. Sunk false n node i c.loop-k.ends) e c.loop-k.invariant.1))

pub returns : goal.returns
returns c = sunk_all false c.args.counted.tables.head.commands (ends_node (view c.args.counted.tables)) c.loop-k.k c.loop-k.ends c.loop-k-test.false c.loop-k.invariant.1
