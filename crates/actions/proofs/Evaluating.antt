-- What an expression is worth, from what its operands are. Assumes nothing.
use Rattle.std.proofs.Common.{[], ◌∷◌, ◌≡◌, ℕ, suc, ◌<◌, Bool, true, false, cond, ltb, List, Some, None, fold, Option, unwrap_or, sym, refl, ap, ◌∙◌, arith}
use Rattle.std.proofs.lemmas.Bool.{cond-true, lt-ltb}
use Rattle.std.proofs.lemmas.Option.{none-some}
use Rattle.std.proofs.lemmas.List.Sums.{fold-append}
use Rattle.lattice.specs.Folds.{joined}
use Rattle.lattice.specs.Model.{Joins, JoinLaws}
use Rattle.records.specs.declared.Labeled.{Labeled}
use Rattle.records.specs.declared.Expression.{Expression}
use Rattle.records.specs.declared.Operator.{Operator}
use Rattle.records.specs.declared.Operator.TheVariants.{Constant, Input, Read}
use Rattle.shape.specs.Shape.{Design, port_at, expression_at}
use Rattle.rules.proofs.Ranking.{ranked_is}
use Rattle.actions.specs.Formulas.{Formula, constant, input, read, apply, operand, applied_as, formula_as, formula_node, formula_at, formula_of, formula_below, named_below, input_at, read_at, value_of, leaf_levels}
use Rattle.actions.specs.Memory.{labeled}
use Rattle.actions.specs.Values.{applied, cut}

-- how high above the constants a named expression is
abbrev pub height : Option ℕ → ℕ
height None = 0
height (Some n) = suc n

-- a level joined with another code from bottom on
pub joined_onto : (m : Joins) → JoinLaws m → (level other : ℕ) → m.level level ≡ true → joined m (level ∷ other ∷ []) ≡ m.join level other
joined_onto m laws level other h =
    ap (λ x. m.join x other)
    (laws.order.antisymmetric _ _ (laws.bounds.below m.bottom level level (laws.bounds.least_flows level h) (laws.order.reflexive level h)) (laws.bounds.right m.bottom level laws.bounds.least_level h))

-- every other operator has two operands
pub as_applied : (op : Operator) (formula : ℕ → Formula) (x : Expression) → (op ≡ Constant → ⊥) → (op ≡ Input → ⊥) → (op ≡ Read → ⊥) → formula_as op formula x ≡ applied_as formula x
as_applied op formula x a b c = grind (arith, a, b, c)

module _ (d : Design) where
  -- an expression, from its record
  pub opened_at : (n : ℕ) → formula_at d n ≡ formula_as (expression_at d n).op (formula_below d n) (expression_at d n)
  opened_at n = ranked_is (λ k. k) (constant 0) (formula_node d) n

  by_bool : (b : Bool) (j n : ℕ) → cond b (Some j) None ≡ Some n → cond b (formula_at d j) (constant 0) ≡ formula_at d n
  by_bool true j n e = ap (λ o. formula_at d (unwrap_or o 0)) e
  by_bool false j n e = absurd (none-some n e)

  -- an expression that is named below a bound
  pub opened : (bound n : ℕ) (e : Option ℕ) → named_below bound e ≡ Some n → operand (formula_below d bound) e ≡ formula_as (expression_at d n).op (formula_below d n) (expression_at d n)
  opened bound n None h = absurd (none-some n h)
  opened bound n (Some j) h = by_bool (ltb j bound) j n h ∙ opened_at n

  -- the same, by the expression and its operator
  pub opened_as : (bound n : ℕ) (e : Option ℕ) (x : Expression) (op : Operator) → named_below bound e ≡ Some n → x ≡ expression_at d n → x.op ≡ op → operand (formula_below d bound) e ≡ formula_as op (formula_below d n) x
  opened_as bound n e x op h p q =
      opened bound n e h ∙ ap (λ y. formula_as y.op (formula_below d n) y) (sym p) ∙ ap (λ o. formula_as o (formula_below d n) x) q

  shut : (b : Bool) (j : ℕ) → cond b (Some j) None ≡ None → cond b (formula_at d j) (constant 0) ≡ constant 0
  shut true j e = absurd (none-some j (sym e))
  shut false j e = refl

  pub closed : (bound : ℕ) (e : Option ℕ) → named_below bound e ≡ None → operand (formula_below d bound) e ≡ constant 0
  closed bound None h = refl
  closed bound (Some j) h = shut (ltb j bound) j h

  -- every expression of 32 bits is below 2 ^ 32
  pub all_below : (e : Option ℕ) → ((n : ℕ) → e ≡ Some n → n < 4294967296) → operand (formula_below d 4294967296) e ≡ formula_of d e
  all_below None h = refl
  all_below (Some n) h = cond-true (ltb n 4294967296) (formula_at d n) (constant 0) (lt-ltb n 4294967296 (h n refl))

module _ (d : Design) (inputs cells : List (Labeled ℕ)) (m : Joins) where
  -- the value, and a level joined with those of the leaves
  abbrev pub worth : ℕ → Formula → Labeled ℕ
  worth level f = labeled (value_of d inputs cells f) (fold m.join level (leaf_levels d inputs cells f))

  pub constant_worth : (level n : ℕ) (f : Formula) → f ≡ constant n → labeled n level ≡ worth level f
  unfolding value_of leaf_levels
  constant_worth level n f e = ap (worth level) (sym e)

  pub input_worth : (level p : ℕ) (f : Formula) (got r : Labeled ℕ) → f ≡ input p → got ≡ labeled (cut (port_at d p).width (input_at d inputs cells p).value) (input_at d inputs cells p).level → r ≡ labeled got.value (m.join level got.level) → r ≡ worth level f
  unfolding value_of leaf_levels
  input_worth level p f got r e h k = rw (k, h, e) refl

  pub read_worth : (level x : ℕ) (i f : Formula) (index got r : Labeled ℕ) → f ≡ read x i → index ≡ worth level i → got ≡ read_at d inputs cells x index.value → r ≡ labeled got.value (m.join index.level got.level) → r ≡ worth level f
  unfolding value_of leaf_levels
  read_worth level x i f index got r e h k l = rw (l, k, h, e, fold-append m.join level (leaf_levels d inputs cells i)) refl

  pub apply_worth : (level : ℕ) (op : Operator) (a b f : Formula) (left right : Labeled ℕ) → f ≡ apply op a b → left ≡ worth level a → right ≡ worth left.level b → labeled (applied op left.value right.value) right.level ≡ worth level f
  unfolding value_of leaf_levels
  apply_worth level op a b f left right e h k = rw (k, h, e, fold-append m.join level (leaf_levels d inputs cells a)) refl
