-- The reports that a cycle has made, in the table that it was lent for them. Assumes nothing.
use Rattle.std.specs.Prelude.{◌≡◌, ◌≤◌, List, length, take, drop}
use Rattle.records.specs.declared.Report.{Report}
use Rattle.machine.specs.declared.chains.Log.{Log}

abbrev pub logged : Log → List Report
logged x = take x.count x.table.now

-- What is left as it was: the table that was lent, and its entries past the reports that were made.
pub record Leaves (a b : Log) : Type 0 where
  pub table : b.table.ghost_name ≡ a.table.ghost_name
  pub long : length b.table.now ≡ length a.table.now
  pub grows : a.count ≤ b.count
  pub fits : b.count ≤ length b.table.now
  pub rest : drop b.count b.table.now ≡ drop b.count a.table.now
