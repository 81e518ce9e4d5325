use Rattle.design.specs.Model.{owned}
use Rattle.machine.specs.Links.{rank_of}
use Rattle.machine.proofs.chains.+run_chain.Given as goal

abbrev pub decreases-run_chain : goal.decreases-run_chain
decreases-run_chain g l = rank_of (owned l.board.now.design.now.records) l.link
