use Rattle.std.proofs.Common.{arith}
use Rattle.table.specs.Orders.{width_is}
use Rattle.table.proofs.TableLattice.width.Goals as goal

pub returns-in-0-to-2 : goal.returns-in-0-to-2
returns-in-0-to-2 c = width_is c.args.self.now.relation.count 0 (omega arith) (λ l. omega arith) (omega arith)

pub returns-in-3-to-4 : goal.returns-in-3-to-4
returns-in-3-to-4 c = width_is c.args.self.now.relation.count 1 (omega arith) (λ l. omega arith) (omega arith)

pub returns-in-5-to-8 : goal.returns-in-5-to-8
returns-in-5-to-8 c = width_is c.args.self.now.relation.count 2 (omega arith) (λ l. omega arith) (omega arith)

pub returns-in_default : goal.returns-in_default
returns-in_default c = width_is c.args.self.now.relation.count 3 (omega arith) (λ l. omega arith) (omega arith)
