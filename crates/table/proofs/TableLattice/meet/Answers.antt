use Rattle.std.proofs.Common.{rules}
use Rattle.search.proofs.Firsts.{lowest_or}
use Rattle.table.proofs.TableLattice.meet.Goals as goal

pub returns-then-is_level : goal.returns-then-is_level
returns-then-is_level c = search (rules, lowest_or)
