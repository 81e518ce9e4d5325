use Rattle.std.proofs.Common.{◌≡◌}
use Rattle.members.specs.Members.{members}
use Rattle.actions.specs.Lent.{SameLenders}
use Rattle.actions.specs.Memory.{no_pointer, raised}
use Rattle.actions.proofs.Changing.{Left}
use Rattle.actions.proofs.board.Board.raise_pointers.Given as goal

abbrev pub invariant-loop-s : goal.invariant-loop-s
invariant-loop-s g l =
    record {
      left : Left no_pointer (λ t. t) (λ _. raised (g.L.Lattice.model l.self.design.now.lattice).joins l.k) (members l.s-iterator.rest) (members l.states) l.memory.pointers.now l.fn.memory.pointers.now;
      others : l.memory.cells.now ≡ l.fn.memory.cells.now;
      lends : SameLenders l.fn.memory l.memory;
    }
