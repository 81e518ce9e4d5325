use Rattle.std.proofs.Common.{not, ◌&&◌, ◌||◌, ap, ◌∙◌}
use Rattle.rules.specs.Rules.{action_placed, has_check, command_placed}
use Rattle.shape.specs.Shape.{command_at, given, owner_of}
use Rattle.shape.specs.View.{view}
use Rattle.search.proofs.Filling.{held}
use Rattle.rules.proofs.Agreeing.{sweep_same}
use Rattle.rules.proofs.places.check_places.Goals as goal

pub returns : goal.returns
returns c =
    let d = view c.args.counted.tables in
    c.sweep.ensures
    ∙ sweep_same 6 4 d.head.commands _ (λ n. not (command_placed d (owner_of d) n))
    (λ j l. ap (λ s. not (action_placed d s (command_at d j) (command_at d j).action && (not (given (command_at d j).alt) || has_check d (command_at d j) (command_at d j).action))) (held 0 _ (owner_of d) _ c.work_out-owners.ensures j l))
