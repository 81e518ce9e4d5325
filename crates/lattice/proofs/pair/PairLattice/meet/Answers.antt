use Rattle.lattice.specs.Laws.{meet_level}
use Rattle.lattice.specs.PairLaws.{paired_fits}
use Rattle.lattice.proofs.pair.PairLattice.meet.Goals as goal

pub whole-requires : goal.whole-requires
whole-requires g c =
    let e = c.in-Some.ensures in
    let left = g.met.L.Lattice.lawful c.args.self.now.left in
    let right = g.met.R.Lattice.lawful c.args.self.now.right in
    (e.2, paired_fits _ _ left.joins right.joins _ _ _ _ _ e.0 e.1 c.meet.ensures c.meet-in-Some.ensures (meet_level _ (left) _ _) (meet_level _ (right) _ _))
