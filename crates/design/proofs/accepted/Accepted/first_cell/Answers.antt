use Rattle.std.proofs.Common.{◌≡◌, ℕ, length, vec_len, sym, ap, ◌∙◌, arith}
use Rattle.std.proofs.lemmas.List.FromFn.{length-map-range_with_len}
use Rattle.rules.specs.Rules.{cells_below}
use Rattle.shape.specs.Shape.{Design}
use Rattle.design.specs.Facts.{WorkedOut, register_of}
use Rattle.design.specs.declared.facts.Facts.{Facts}
use Rattle.design.specs.Model.{owned}
use Rattle.design.proofs.Kept.{formed_none, formed_parts}
use Rattle.design.proofs.Mapped.{kept_on}
use Rattle.design.proofs.Sums.{all_cells_few, first_past}
use Rattle.design.proofs.accepted.Accepted.first_cell.Goals as goal

-- the number of all cells
all_cells : (d : Design) (f : Facts) → WorkedOut d f → vec_len f.cells ≡ cells_below d d.head.registers
all_cells d f w = f.cells.ok.0 ∙ ap length w.by_cell ∙ length-map-range_with_len (register_of d) 0 (cells_below d d.head.registers)

pub overflow_cast-cells : goal.overflow_cast-cells
overflow_cast-cells g c =
    let d : Design = owned c.args.self.now.records in
    let all = all_cells d c.args.self.now.facts c.args.self.now.worked in
    let sized = (formed_parts d (formed_none d c.args.self.now.formed)).0 in
    omega (arith, c.len-cells.ensures, all_cells_few d sized d.head.registers (omega arith))

pub returns : goal.returns
returns g c =
    let d : Design = owned c.args.self.now.records in
    let x : ℕ = c.args.x in
    let all = all_cells d c.args.self.now.facts c.args.self.now.worked in
    kept_on (cells_below d) d.head.registers x _ _ _ _ c.record_at.ensures c.deref.ensures.value c.args.self.now.worked.by_register
    (λ l. first_past d c.args.self.now.exact.1 x l ∙ sym (c.len-cells.ensures ∙ all))
