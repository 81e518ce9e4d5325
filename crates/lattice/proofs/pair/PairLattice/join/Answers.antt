use Rattle.lattice.specs.Laws.{join-level}
use Rattle.lattice.specs.PairLaws.{paired-fits}
use Rattle.lattice.proofs.pair.PairLattice.join.Goals as goal

pub whole-requires : goal.whole-requires
whole-requires g c =
    let e = c.in-Some.ensures in
    let left = g.met.L.Lattice.lawful c.args.self.now.left in
    let right = g.met.R.Lattice.lawful c.args.self.now.right in
    (e.2, paired-fits _ _ left.joins right.joins _ _ _ _ _ e.0 e.1 c.join.ensures c.join-in-Some.ensures (join-level _ left.joins _ _) (join-level _ right.joins _ _))
