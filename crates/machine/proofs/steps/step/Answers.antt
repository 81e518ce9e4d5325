use Rattle.std.proofs.Common.{length, Some, refl, subst}
use Rattle.shape.specs.Shape.{state_at}
use Rattle.design.specs.Model.{owned}
use Rattle.design.proofs.Kept.{formed_none, formed_parts}
use Rattle.actions.specs.Memory.{memory_of}
use Rattle.machine.proofs.Cycling.{root}
use Rattle.machine.proofs.Good.{good_cycle, goes_on as refused_no_more, step_lent}
use Rattle.machine.proofs.Owned.{Owned, owned as owned_chain}
use Rattle.machine.proofs.Uncut.{whole}
use Rattle.machine.proofs.steps.step.Goals as goal

pub returns-clause-answer : goal.returns-clause-answer
returns-clause-answer g c =
    let d = owned c.args.design.now.records in
    (c.in_ok-check_step.ensures.0, (c.run_cycle.ensures.count, c.run_cycle.ensures.few, whole d (formed_parts d (formed_none d c.args.design.now.formed)).1))

pub returns-clause-goes_on : goal.returns-clause-goes_on
returns-clause-goes_on g c none =
    let d = owned c.args.design.now.records in
    let m = (g.L.Lattice.model c.args.design.now.lattice).joins in
    let kept = formed_parts d (formed_none d c.args.design.now.formed) in
    let root = root d c.args.design.now.formed (state_at d 0).first refl in
    let own = subst (Owned d) root.chain (owned_chain d kept.0 kept.1 (Some (state_at d 0).first) root.named) in
    let before = memory_of c.args.cells.now c.args.pointers.now in
    refused_no_more m d (memory_of c.run_cycle.new.cells c.run_cycle.new.pointers)
    (rw c.run_cycle.ensures.memory
    (good_cycle m (g.met.L.Lattice.lawful c.args.design.now.lattice).joins d kept.0 kept.1 kept.2 c.args.inputs.now own before (step_lent m d before c.args.inputs.now (length c.args.reports.now) none)))
