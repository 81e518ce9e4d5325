use Rattle.std.proofs.Common.{length}
use Rattle.design.specs.Model.{owned}
use Rattle.actions.specs.Memory.{memory_of}
use Rattle.machine.proofs.Good.{good_start, goes_on as refused_no_more, start_lent}
use Rattle.machine.proofs.steps.start.Goals as goal

pub returns-clause-goes_on : goal.returns-clause-goes_on
returns-clause-goes_on g c none =
    let d = owned c.args.design.now.records in
    let m = (g.L.Lattice.model c.args.design.now.lattice).joins in
    let lent = start_lent m d c.args.cells.now (length c.args.pointers.now) none in
    refused_no_more m d (memory_of c.args.cells.now c.set_pointers.new.pointers)
    (rw c.set_pointers.ensures (good_start m (g.met.L.Lattice.lawful c.args.design.now.lattice).joins d c.args.cells.now lent.0 lent.2))
