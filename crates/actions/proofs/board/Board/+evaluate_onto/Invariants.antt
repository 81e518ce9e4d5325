use Rattle.actions.specs.Formulas.{named_below}
use Rattle.actions.proofs.Evaluating.{height}
use Rattle.actions.proofs.board.Board.+evaluate_onto.Given as goal

abbrev pub decreases-evaluate_onto : goal.decreases-evaluate_onto
decreases-evaluate_onto g l = height (named_below l.bound l.e)
