use Rattle.std.proofs.Common.{ap, ◌∙◌, arith}
use Rattle.std.proofs.lemmas.List.FromFn.{fill_by_all}
use Rattle.design.specs.Chains.{lowest_child}
use Rattle.design.specs.Model.{owned}
use Rattle.actions.specs.Memory.{labeled, no_pointer}
use Rattle.machine.proofs.steps.set_pointers.Goals as goal

pub returns : goal.returns
returns g c =
    let d = owned c.args.design.now.records in
    let bottom = c.bottom-bottom.ensures ∙ ap (λ x. (g.L.Lattice.model x).joins.bottom) c.lattice.ensures in
    rw (← bottom)
    (fill_by_all (λ s. labeled (lowest_child d s) c.bottom-bottom.result) c.loop-s.pointers d.head.states no_pointer (omega (arith, c.loop-s.auto.pointers, c.requires))
    (λ k l. c.loop-s.invariant k (omega (arith, c.loop-s-test.false, c.loop-s.auto.s-end, c.requires))))
