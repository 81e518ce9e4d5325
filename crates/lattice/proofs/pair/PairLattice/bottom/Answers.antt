use Rattle.lattice.specs.PairLaws.{paired_fits}
use Rattle.lattice.proofs.pair.PairLattice.bottom.Goals as goal

pub whole-requires : goal.whole-requires
whole-requires g c =
    let e = c.in-Some.ensures in
    let left = g.met.L.Lattice.lawful c.args.self.now.left in
    let right = g.met.R.Lattice.lawful c.args.self.now.right in
    (e.2, paired_fits _ _ left.joins right.joins _ _ _ _ _ e.0 e.1 c.bottom.ensures c.bottom-in-Some.ensures left.joins.bounds.least_level right.joins.bounds.least_level)
