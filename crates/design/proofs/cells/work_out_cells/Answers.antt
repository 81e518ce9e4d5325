use Rattle.std.proofs.Common.{◌≡◌, ℕ, suc, map, length, vec_items, vec_len, sym, refl, ap, ◌∙◌, add-one, arith}
use Rattle.std.specs.List.{range_with_len}
use Rattle.std.proofs.lemmas.Grind.{common_steps}
use Rattle.std.proofs.lemmas.List.FromFn.{length-map-range_with_len}
use Rattle.rules.specs.Rules.{cells_below}
use Rattle.shape.specs.Shape.{Design}
use Rattle.shape.specs.View.{view}
use Rattle.design.specs.Facts.{register_of}
use Rattle.design.proofs.Sums.{cells_none, cells_more, cells_filled}
use Rattle.design.proofs.cells.work_out_cells.Goals as goal

pub loop-x-init : goal.loop-x-init
loop-x-init c = grind (arith, common_steps, cells_none (view c.args.formed.tables))

pub loop-x-preserved : goal.loop-x-preserved
loop-x-preserved c =
    let d : Design = view c.args.formed.tables in
    let x : ℕ = c.loop-x.x in
    let wide = ap (λ r. r.cells) c.register.ensures in
    let more = cells_more d x in
    let far : vec_len c.loop-x.cells ≡ cells_below d x = c.loop-x.cells.ok.0 ∙ ap length c.loop-x.invariant ∙ length-map-range_with_len (register_of d) 0 (cells_below d x) in
    let long : length (vec_items c.resize.new.self) ≡ cells_below d (suc x) = omega (arith, c.in_ok-resize.ensures.len, c.len.ensures, c.resize.new.self.ok.0) in
    let places = c.in_ok-resize.ensures.by_index in
    cells_filled d x (vec_items c.loop-x.cells) (vec_items c.resize.new.self) (omega arith) c.loop-x.invariant long
    (λ k l. places.0 k 0 (omega arith) (omega arith)) (λ k l q. places.1 k 0 refl (omega arith) (omega arith))
    ∙ ap (λ (n : ℕ). map (register_of d) (range_with_len 0 (cells_below d n))) (sym (add-one x))
