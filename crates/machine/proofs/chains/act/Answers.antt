use Rattle.std.proofs.Common.{◌≡◌, ap, ◌∙◌}
use Rattle.shape.specs.Shape.{command_at}
use Rattle.design.specs.Model.{owned}
use Rattle.machine.proofs.chains.act.Goals as goal

pub returns-in-Goto-clause-did : goal.returns-in-Goto-clause-did
returns-in-Goto-clause-did g c =
    let at : c.command-command.result ≡ command_at (owned c.args.board.now.design.now.records) c.args.k = c.command-command.ensures ∙ ap (λ y. command_at y c.args.k) c.tables.ensures in
    rw (← at, c.in-Goto.is, ← ap (λ f. f.owner) c.command_facts-owner.ensures, ← c.unwrap_or-target.ensures, ← c.reach_of-alt.ensures) c.run_goto.ensures.does
