use Rattle.std.proofs.Common.{true, false, sym, refl, ap, ◌∙◌, arith}
use lib.Bits.{bit_or, or_zero_r}
use Rattle.std.proofs.lemmas.Nat.{one_shl}
use Rattle.lattice.specs.Bit.{bit}
use Rattle.table.specs.Rows.{column}
use Rattle.table.proofs.Fill.{column_more}
use Rattle.table.proofs.relation.Relation.column.Goals as goal
use Rattle.table.proofs.relation.Relation.column.Goals.{then-has, else-has}

pub loop-i-init : goal.loop-i-init
unfolding column
loop-i-init c = refl

pub loop-i-preserved : goal.loop-i-preserved
loop-i-preserved c =
    let more = column_more _ c.args.j c.loop-i.i c.loop-i.all c.if-has.all in
    let read = ap (λ x. bit x c.args.j) c.row.ensures in
    elim c.if-has.branch [
      | then-has w ↦ more true c.loop-i.invariant (w.if-has.ensures ∙ read) (w.all-is ∙ ap (bit_or c.loop-i.all) (one_shl c.loop-i.i 32 (omega arith)))
      | else-has w ↦ more false c.loop-i.invariant (w.if-has.ensures ∙ read) (w.all-is ∙ sym (or_zero_r c.loop-i.all))
    ]
