use Rattle.std.proofs.Common.{max, ap, ◌∙◌}
use Rattle.shape.specs.Shape.{Design, register_at}
use Rattle.design.specs.Model.{owned}
use Rattle.design.proofs.Kept.{formed_none, formed_parts}
use Rattle.actions.proofs.Slots.{slot_small}
use Rattle.actions.proofs.board.Board.slot.Goals as goal

pub overflow_add-result : goal.overflow_add-result
overflow_add-result g c =
    let d : Design = owned c.args.self.now.design.now.records in
    record {
      fits = slot_small d (formed_parts d (formed_none d c.args.self.now.design.now.formed)).0 c.args.self.now.design.now.exact.1 c.args.x c.args.index _ _ c.first_cell.ensures
          (c.max-cells.ensures ∙ ap (λ n. max n 1) (ap (λ r. r.cells) (c.register.ensures ∙ ap (λ y. register_at y c.args.x) c.tables.ensures)));
    }
