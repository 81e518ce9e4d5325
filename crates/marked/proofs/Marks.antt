-- The worked cases, by computing. Assumes nothing.
use Rattle.std.proofs.Common.{refl}
use Rattle.members.specs.Members.{members}
use Rattle.search.specs.First.{first}
use Rattle.search.specs.Sum.{sum_below}
use Rattle.shape.specs.Rank.{ranked_by, ranked}
use Rattle.design.specs.Chains.{reach}
use Rattle.machine.specs.Cycle.{exec}
use Rattle.actions.specs.Formulas.{value_of, leaf_levels}
use Rattle.actions.specs.Memory.{change_each}
use Rattle.table.specs.Rows.{breaks, column, columns}
use Rattle.marked.specs.Cases.{Marked}

pub marked : Marked
unfolding first sum_below ranked_by ranked reach members value_of leaf_levels change_each exec breaks column columns
marked = (refl, (refl, (refl, (refl, (refl, (refl, (refl, (refl, (refl, (refl, (refl, (refl, (refl, (refl, (refl, tt)))))))))))))))
