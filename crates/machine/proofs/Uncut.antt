-- Nothing of an accepted design is cut off in its trees. Assumes nothing.
use Rattle.std.proofs.Common.{◌≡◌, ℕ, ◌<◌, Bool, true, false, cond, not, ◌&&◌, eqb, ltb, Some, None, Option, refl, ap, ◌∙◌, ap₂}
use Rattle.std.proofs.lemmas.Bool.{and_parts, both_ways, cond-true, not-false}
use Rattle.rules.specs.Rules.{expressions_kind, linked, expression_linked, indexes, names, operands}
use Rattle.records.specs.declared.Expression.{Expression}
use Rattle.records.specs.declared.Operator.{Operator}
use Rattle.records.specs.declared.Operator.TheVariants.{Constant, Input, Read, Add, Subtract, And, Or, Xor, ShiftLeft, ShiftRight, Equal, Less}
use Rattle.shape.specs.Shape.{Design, register_at, expression_at, given}
use Rattle.design.proofs.Kept.{neither, none_breaks}
use Rattle.actions.specs.Formulas.{constant, apply, read, operand, formula_as, formula_at, formula_below}
use Rattle.actions.proofs.Evaluating.{opened_at}
use Rattle.machine.specs.Links.{Whole}
use Rattle.machine.proofs.Opening.{opens, opens_states}

expressions_linked : (d : Design) → linked d ≡ None → (n : ℕ) → n < d.head.expressions → expression_linked d n ≡ true
expressions_linked d e n l =
    not-false (expression_linked d n) (none_breaks 4 expressions_kind d.head.expressions (λ k. not (expression_linked d k)) (neither _ _ (neither _ _ e).0).1 n l)

module _ (d : Design) (n : ℕ) where
  -- an operand that is named below n is not cut off
  below : (j : ℕ) → ltb j n ≡ true → formula_below d n j ≡ formula_at d j
  below j e = cond-true (ltb j n) (formula_at d j) (constant 0) e

  named : (o : Option ℕ) → names n o ≡ true → operand (formula_below d n) o ≡ operand (formula_at d) o
  named None e = refl
  named (Some j) e = below j e

  indexed : (b : Bool) (o : Option ℕ) → cond b (not (given o)) (names n o) ≡ true → operand (formula_below d n) o ≡ operand (formula_at d) o
  indexed b None e = refl
  indexed true (Some j) e = absurd (both_ways false refl e)
  indexed false (Some j) e = below j e

  both : (x : Expression) → operands n x ≡ true → apply x.op (operand (formula_below d n) (Some x.a)) (operand (formula_below d n) x.b) ≡ apply x.op (operand (formula_at d) (Some x.a)) (operand (formula_at d) x.b)
  both x e =
      let parts = and_parts (ltb x.a n) (names n x.b) e in
      ap₂ (apply x.op) (below x.a parts.0) (named x.b parts.1)

  -- what is asked of an expression's fields, by its operator
  abbrev asked : Expression → Operator → Bool
  asked x Constant = not (given x.b)
  asked x Input = ltb x.a d.head.ports && not (given x.b)
  asked x Read = ltb x.a d.head.registers && indexes d n x.a x.b
  asked x Add = operands n x
  asked x Subtract = operands n x
  asked x And = operands n x
  asked x Or = operands n x
  asked x Xor = operands n x
  asked x ShiftLeft = operands n x
  asked x ShiftRight = operands n x
  asked x Equal = operands n x
  asked x Less = operands n x

  uncut : (x : Expression) (op : Operator) → asked x op ≡ true → formula_as op (formula_below d n) x ≡ formula_as op (formula_at d) x
  uncut x Constant e = refl
  uncut x Input e = refl
  uncut x Read e = ap (read x.a) (indexed (eqb (register_at d x.a).cells 1) x.b (and_parts (ltb x.a d.head.registers) (indexes d n x.a x.b) e).1)
  uncut x Add e = both x e
  uncut x Subtract e = both x e
  uncut x And e = both x e
  uncut x Or e = both x e
  uncut x Xor e = both x e
  uncut x ShiftLeft e = both x e
  uncut x ShiftRight e = both x e
  uncut x Equal e = both x e
  uncut x Less e = both x e

pub whole : (d : Design) → linked d ≡ None → Whole d
whole d links =
    record {
      chains = opens d links;
      states = opens_states d links;
      formulas = λ n l. opened_at d n ∙ uncut d n (expression_at d n) (expression_at d n).op (expressions_linked d links n l);
    }
