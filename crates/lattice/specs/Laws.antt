-- What the laws of every lattice share. Assumes nothing.
use Rattle.std.specs.Prelude.{◌≡◌, ℕ, Bool, true, false, ◌&&◌, refl}
use Rattle.std.proofs.Common.{sym, subst}
use Rattle.std.proofs.lemmas.Bool.{and_from, and_parts, cond-true, cond-false}
use Rattle.lattice.specs.Model.{Joins, Model, Order, Bounds, JoinLaws, Lawful, turned, strict}

pub turned_order : {level : ℕ → Bool} {flows : ℕ → ℕ → Bool} → Order level flows → Order level (turned flows)
turned_order o =
    record {
      from_level = λ a b h. o.to_level b a h;
      to_level = λ a b h. o.from_level b a h;
      reflexive = o.reflexive;
      antisymmetric = λ a b h k. o.antisymmetric a b k h;
      transitive = λ a b c h k. o.transitive c b a k h;
    }

module _ (level : ℕ → Bool) (other : ℕ) (op : ℕ → ℕ → ℕ) where
  strict_at : (a b : ℕ) → level a ≡ true → level b ≡ true → strict level other op a b ≡ op a b
  strict_at a b h k = cond-true (level a && level b) (op a b) other (and_from (level a) (level b) h k)

  pub strict_else : (a b : ℕ) → (level a && level b) ≡ false → strict level other op a b ≡ other
  strict_else a b h = cond-false (level a && level b) (op a b) other h

  -- what is answered where a code is no level is no part of the laws of a bound
  pub strict_bounds : {flows : ℕ → ℕ → Bool} {least : ℕ} → Order level flows → Bounds level flows least op → Bounds level flows least (strict level other op)
  strict_bounds {flows} o k =
      record {
        least_level = k.least_level;
        least_flows = k.least_flows;
        left = λ a b p q. subst (λ x. flows a x ≡ true) (sym (strict_at a b p q)) (k.left a b p q);
        right = λ a b p q. subst (λ x. flows b x ≡ true) (sym (strict_at a b p q)) (k.right a b p q);
        below =
            λ a b c p q.
            subst (λ x. flows x c ≡ true) (sym (strict_at a b (o.from_level a c p) (o.from_level b c q))) (k.below a b c p q);
      }

-- whatever the codes are, a join and a meet are levels
answer_level : (level : ℕ → Bool) (op : ℕ → ℕ → ℕ) (other a b : ℕ) → ((level a && level b) ≡ true → level (op a b) ≡ true) → ((level a && level b) ≡ false → op a b ≡ other) → level other ≡ true → level (op a b) ≡ true
answer_level level op other a b yes' no' p = go (level a && level b) refl
  where
    go : (t : Bool) → (level a && level b) ≡ t → level (op a b) ≡ true
    go true e = yes' e
    go false e = subst (λ x. level x ≡ true) (sym (no' e)) p

pub join_level : (m : Joins) → JoinLaws m → (a b : ℕ) → m.level (m.join a b) ≡ true
join_level m h a b =
    answer_level m.level m.join m.bottom a b
    (λ e. h.order.to_level _ _ (h.bounds.left a b (and_parts (m.level a) (m.level b) e).0 (and_parts (m.level a) (m.level b) e).1))
    (h.join_else a b) h.bounds.least_level

pub meet_level : (m : Model) → Lawful m → (a b : ℕ) → m.joins.level (m.meet a b) ≡ true
meet_level m h a b =
    answer_level m.joins.level m.meet m.joins.bottom a b
    (λ e. h.joins.order.from_level _ _ (h.bounds.left a b (and_parts (m.joins.level a) (m.joins.level b) e).0 (and_parts (m.joins.level a) (m.joins.level b) e).1))
    (h.meet_else a b) h.joins.bounds.least_level
