use Rattle.std.proofs.Common.{◌≡◌}
use Rattle.members.specs.Members.{members}
use Rattle.rules.specs.Rules.{cells_below}
use Rattle.design.specs.Model.{owned}
use Rattle.actions.specs.Lent.{SameLenders}
use Rattle.actions.specs.Memory.{no_cell, raised}
use Rattle.actions.proofs.Changing.{Left}
use Rattle.actions.proofs.board.Board.raise_cells.Given as goal

abbrev pub invariant-loop-x : goal.invariant-loop-x
invariant-loop-x g l =
    record {
      left : Left no_cell (cells_below (owned l.self.design.now.records)) (λ _. raised (g.L.Lattice.model l.self.design.now.lattice).joins l.k) (members l.x-iterator.rest) (members l.registers) l.memory.cells.now l.fn.memory.cells.now;
      others : l.memory.pointers.now ≡ l.fn.memory.pointers.now;
      lends : SameLenders l.fn.memory l.memory;
    }
