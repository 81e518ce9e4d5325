use Rattle.std.proofs.Common.{◌≡◌}
use Rattle.members.specs.Members.{members}
use Rattle.design.specs.Model.{owned}
use Rattle.actions.specs.Actions.{pointer_after}
use Rattle.actions.specs.Lent.{SameLenders}
use Rattle.actions.specs.Memory.{no_pointer}
use Rattle.actions.proofs.Changing.{Left}
use Rattle.actions.proofs.board.Board.move_pointers.Given as goal

abbrev pub invariant-loop-t : goal.invariant-loop-t
invariant-loop-t g l =
    record {
      left : Left no_pointer (λ t. t) (λ t _. pointer_after (g.L.Lattice.model l.self.design.now.lattice).joins (owned l.self.design.now.records) l.s l.target l.context t) (members l.t-iterator.rest) (members l.initial.t-iterator.rest) l.memory.pointers.now l.fn.memory.pointers.now;
      others : l.memory.cells.now ≡ l.fn.memory.cells.now;
      lends : SameLenders l.fn.memory l.memory;
    }
