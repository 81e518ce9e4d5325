use Rattle.std.proofs.Common.{◌≡◌, rules, refl, ap, ◌∙◌, arith}
use Rattle.shape.specs.Shape.{state_at}
use Rattle.design.specs.Model.{owned}
use Rattle.actions.specs.Lent.{seen}
use Rattle.actions.specs.Memory.{memory_of}
use Rattle.machine.specs.Cycle.{Running, running, cycle}
use Rattle.machine.specs.View.{logged}
use Rattle.machine.proofs.Cycling.{Root, root}
use Rattle.machine.proofs.Laying.{count_is, laid_is}
use Rattle.machine.proofs.steps.run_cycle.Given as given
use Rattle.machine.proofs.steps.run_cycle.Goals as goal
use Rattle.machine.proofs.steps.run_cycle.Goals.{After-bottom-bottom}

first : (g : given.Over) (c : After-bottom-bottom g) → Root (owned c.args.design.now.records) c.state-first.result.first
first g c = root (owned c.args.design.now.records) c.args.design.now.formed _ (ap (λ x. x.first) (c.state-first.ensures ∙ ap (λ y. state_at y 0) c.tables.ensures))

pub run_chain-requires : goal.run_chain-requires
run_chain-requires g c =
    let root = first g (goal.at.run_chain-requires g c).After-bottom-bottom in
    record { named = root.named; room = omega (arith, root.few, c.requires) }

pub overflow_cast-result : goal.overflow_cast-result
overflow_cast-result g c =
    let root = first g (goal.at.overflow_cast-result g c).After-bottom-bottom in
    record { fits = omega (arith, root.few, root.small, c.run_chain.ensures.few) }

pub returns : goal.returns
returns g c =
    let root = first g (goal.at.returns g c).After-bottom-bottom in
    let bottom = c.bottom-bottom.ensures ∙ ap (λ x. (g.L.Lattice.model x).joins.bottom) c.lattice.ensures in
    let ran : running (seen c.run_chain.new.memory) (logged c.run_chain.new.log) ≡ cycle (g.L.Lattice.model c.args.design.now.lattice).joins (owned c.args.design.now.records) c.args.inputs.now (memory_of c.args.cells.now c.args.pointers.now) =
    c.run_chain.ensures.ran ∙ rw (bottom, root.chain) refl in
    let made = ap (λ (r : Running). r.reports) ran in
    let memory = ap (λ (r : Running). r.memory) ran in
    let leaves = c.run_chain.ensures.leaves in
    let lies = laid_is c.args.reports.now c.run_chain.new.log.table.now _ c.run_chain.new.log.count leaves.fits made leaves.rest in
    record {
      memory = search (rules, memory, c.run_chain.ensures.lends);
      reports = search (rules, lies, leaves.table);
      count = count_is c.args.reports.now c.run_chain.new.log.table.now _ c.run_chain.new.log.count leaves.fits made;
      few = omega (arith, root.few, c.run_chain.ensures.few);
    }
