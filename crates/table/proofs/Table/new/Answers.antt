use Rattle.std.proofs.Common.{◌≡◌, ℕ, ◌≤◌, Bool, true, List, length, take, [], ◌∷◌, nat_lt, nat_le, ◌&&◌, Ok, Err, Option, Result, ap, ap₂, ◌∙◌, sym, arith}
use Rattle.std.proofs.lemmas.Bool.{le-ltb, le-leb, cond-true, cond-false}
use Rattle.lattice.specs.Faults.{Refusal, refuse, lattice_kind, Answers, refusal}
use Rattle.table.specs.Rows.{rows_of, order_verdict, table_verdict}
use Rattle.table.specs.declared.relation.Relation.{Relation}
use Rattle.table.proofs.Table.new.Goals as goal

-- an answer by a verdict is one by an equal verdict, and may say less of what it accepts
by_equal : {X F : Type 0} (says : F → Option Refusal) (v w : Option Refusal) (P Q : X → Type 0) (r : Result X F) → w ≡ v → ((x : X) → P x → Q x) → Answers says v P r → Answers says w Q r
by_equal says v w P Q (Ok x) e f a = (e ∙ a.0, f x a.1)
by_equal says v w P Q (Err g) e f a = e ∙ a

-- enough rows, and as many levels as there may be
counted : (n : ℕ) (lent : List ℕ) → n ≤ length lent → 1 ≤ n → n ≤ 16 → table_verdict n lent ≡ order_verdict n (rows_of (take n lent))
counted n lent long some few =
    let ranged : (nat_le 1 n && nat_le n 16) ≡ true = ap₂ (λ (a b : Bool). a && b) (le-leb 1 n some) (le-leb n 16 few) in
    cond-false (nat_lt (length lent) n) (refuse 2 (lattice_kind ∷ [])) _ (le-ltb (length lent) n long)
    ∙ cond-true (nat_le 1 n && nat_le n 16) (order_verdict n (rows_of (take n lent))) (refuse 3 (lattice_kind ∷ n ∷ [])) ranged

pub returns : goal.returns
returns c =
    let n : ℕ = c.args.count in
    let lent : List ℕ = c.args.rows.now in
    let same : order_verdict n (rows_of (take n lent)) ≡ order_verdict c.copied.result.count (rows_of c.copied.result.rows) = ap₂ order_verdict (sym c.copied.ensures.count) (sym c.copied.ensures.rows) in
    by_equal refusal _ _ _ _ c.of.result (counted n lent (omega arith) (omega arith) (omega arith) ∙ same)
    (λ t e. (ap (λ (x : Relation). x.count) e ∙ c.copied.ensures.count, ap (λ (x : Relation). rows_of x.rows) e ∙ c.copied.ensures.rows)) c.of.ensures
