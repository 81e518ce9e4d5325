use Rattle.std.proofs.Common.{◌≡◌, ℕ, ap, ◌∙◌, arith}
use Rattle.shape.specs.Shape.{command_at}
use Rattle.design.specs.Model.{owned}
use Rattle.actions.specs.Actions.{done}
use Rattle.actions.specs.Lent.{seen}
use Rattle.machine.specs.Cycle.{running}
use Rattle.machine.specs.View.{logged}
use Rattle.machine.proofs.Chained.{Turn, exec_none, leaves_both, some_room, turn, exec_turn}
use Rattle.machine.proofs.chains.+run_chain.Given as given
use Rattle.machine.proofs.chains.+run_chain.Goals as goal
use Rattle.machine.proofs.chains.+run_chain.Goals.{After-choose-detour}

-- the command, by what is kept of the design
is_command : (g : given.Over) (t : ℕ) (c : After-choose-detour g t) → c.command-command.result ≡ command_at (owned c.args.board.now.design.now.records) c.in-Some.k
is_command g t c = c.command-command.ensures ∙ ap (λ y. command_at y c.in-Some.k) c.tables.ensures

turned : (g : given.Over) (t : ℕ) (c : After-choose-detour g t) → Turn (owned c.args.board.now.design.now.records) c.args.link c.choose-detour.result.link c.command-command.result.next
turned g t c =
    let design = c.args.board.now.design.now in
    turn (owned design.records) design.formed design.exact.2 c.args.link c.in-Some.k c.in-Some.is c.requires.named _ _ (ap (λ f. f.owner) c.command_facts-owner.ensures) (is_command g t c) _ _ c.choose-detour.ensures

pub returns-in_default-clause-ran : goal.returns-in_default-clause-ran
returns-in_default-clause-ran g t c = exec_none _ _ _ c.args.link _ _ c.in_default.is

pub note-requires : goal.note-requires
note-requires g t c =
    let design = c.args.board.now.design.now in
    omega (arith, c.requires.room, some_room (owned design.records) design.formed design.exact.2 c.args.link c.in-Some.k c.in-Some.is c.requires.named)

pub run_chain-requires : goal.run_chain-requires
run_chain-requires g t c κs within =
    let turn = turned g t (goal.at.run_chain-requires g t c).After-choose-detour in
    (omega (arith, c.decreases, turn.falls), (within, (turn.names, omega (arith, turn.room, c.requires.room, c.note.ensures.few, c.note.ensures.leaves.long))))

pub run_chain-requires-2 : goal.run_chain-requires-2
run_chain-requires-2 g t c κs within =
    let turn = turned g t (goal.at.run_chain-requires-2 g t c).After-choose-detour in (
      omega (arith, c.decreases, turn.next_falls),
      (
        within,
        (
          turn.next_names,
          omega (arith, turn.room, c.requires.room, c.note.ensures.few, c.note.ensures.leaves.long, c.run_chain.ensures.few, c.run_chain.ensures.leaves.long),
        ),
      ),
    )

pub returns-clause-ran : goal.returns-clause-ran
returns-clause-ran g t c =
    let design = c.args.board.now.design.now in
    let acted = seen c.act-way.new.memory in
    exec_turn (owned design.records) design.formed design.exact.2 c.args.link c.in-Some.k c.in-Some.is c.requires.named _ _
    (ap (λ f. f.owner) c.command_facts-owner.ensures) (is_command g t (goal.at.returns-clause-ran g t c).After-choose-detour)
    _ _ _ (running (seen c.args.memory.now) (logged c.args.log.now)) (done acted c.act-way.result)
    (running acted (logged c.note.new.self)) (running (seen c.run_chain.new.memory) (logged c.run_chain.new.log)) _ _
    c.act-way.ensures.did (ap (running acted) c.note.ensures.noted) c.choose-detour.ensures c.run_chain.ensures.ran c.run_chain-2.ensures.ran

pub returns-clause-leaves : goal.returns-clause-leaves
returns-clause-leaves g t c = leaves_both _ _ _ (leaves_both _ _ _ c.note.ensures.leaves c.run_chain.ensures.leaves) c.run_chain-2.ensures.leaves

pub returns-clause-few : goal.returns-clause-few
returns-clause-few g t c =
    let turn = turned g t (goal.at.returns-clause-few g t c).After-choose-detour in
    omega (arith, turn.room, c.note.ensures.few, c.run_chain.ensures.few, c.run_chain-2.ensures.few)
