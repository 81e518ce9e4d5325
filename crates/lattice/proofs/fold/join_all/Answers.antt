use Rattle.std.proofs.Common.{rules}
use Rattle.lattice.proofs.FoldLaws.{joined_least}
use Rattle.lattice.proofs.fold.join_all.Goals as goal

pub returns-clause-least : goal.returns-clause-least
returns-clause-least g c =
    λ l. let least = joined_least (g.L.Lattice.model c.args.lattice.now).joins (g.met.L.Lattice.lawful c.args.lattice.now).joins c.args.levels.now l in search rules
