use Rattle.std.proofs.Common.{ap, ◌∙◌, length, arith}
use Rattle.members.specs.Members.{members}
use Rattle.members.proofs.Lowest.{no_members, takes_lowest}
use Rattle.members.proofs.MembersIterator.next.Goals as goal

pub returns-then-self-eq0-clause-steps : goal.returns-then-self-eq0-clause-steps
returns-then-self-eq0-clause-steps c = let none = ap members c.if-self-eq0.true ∙ no_members in (none, none)

pub returns-clause-steps : goal.returns-clause-steps
returns-clause-steps c = takes_lowest c.args.self.now.rest (omega arith) (omega arith)

pub returns-clause-goes : goal.returns-clause-goes
returns-clause-goes c =
    let fewer = ap length (takes_lowest c.args.self.now.rest (omega arith) (omega arith)) in
    record { on = λ _. (tt, tt, omega (arith, fewer)); keeps = tt; rests = λ _. tt }
