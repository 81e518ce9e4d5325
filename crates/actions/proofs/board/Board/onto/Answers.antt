use Rattle.std.proofs.Common.{refl}
use Rattle.lattice.specs.Laws.{join_level}
use Rattle.actions.proofs.Evaluating.{joined_onto}
use Rattle.actions.proofs.board.Board.onto.Goals as goal

pub returns : goal.returns
returns g c =
    let design = c.args.self.now.design.now in
    let m = (g.L.Lattice.model design.lattice).joins in
    let laws = (g.met.L.Lattice.lawful design.lattice).joins in
    rw (c.join_all.ensures.value, c.lattice.ensures)
    (record { value = rw (joined_onto m laws c.args.level c.args.read.level c.requires) refl; level = join_level m laws _ _ })
