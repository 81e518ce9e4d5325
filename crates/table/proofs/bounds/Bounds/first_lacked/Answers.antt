use Rattle.std.proofs.Common.{rules}
use Rattle.search.proofs.Firsts.{lowest_or}
use Rattle.table.proofs.bounds.Bounds.first_lacked.Goals as goal

pub returns : goal.returns
returns c = search (rules, lowest_or)
