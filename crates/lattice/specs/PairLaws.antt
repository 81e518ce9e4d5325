-- Pairs of levels keep the laws, and so does an order turned round. Assumes nothing.
use Rattle.std.specs.Prelude.{◌≡◌, ℕ, ◌+◌, ◌*◌, ◌^◌, ◌<◌, ◌≤◌, Bool, true, false, ◌==◌, refl}
use Rattle.std.proofs.Common.{sym, ap₂, ◌∙◌, subst, subst₂, lt_of_lt_of_le, mul_comm, arith, pow-add, pow_mono}
use Rattle.std.proofs.Math.Pow.{split, high, low}
use Rattle.std.proofs.lemmas.Nat.{mul-add-lt}
use Rattle.std.proofs.lemmas.Bool.{and_from, and_parts, eqb-true, leb-true}
use Rattle.lattice.specs.Model.{Joins, Model, Order, Bounds, JoinLaws, Lawful, turned}
use Rattle.lattice.specs.Pairs.{paired, left_of, right_of, each_level, each_flows, each_op, narrow, single, product, pair_if, pair_model, reversed}
use Rattle.lattice.specs.Laws.{turned_order, strict_bounds, strict_else}

pub reversed_lawful : (m : Model) → Lawful m → Lawful (reversed m)
reversed_lawful m h =
    record {
      joins =
          record {
            order = turned_order h.joins.order;
            bounds = strict_bounds m.joins.level m.top m.meet (turned_order h.joins.order) h.bounds;
            join_else = strict_else m.joins.level m.top m.meet;
            fits = h.joins.fits;
            width_low = h.joins.width_low;
            width_high = h.joins.width_high;
          };
      bounds = strict_bounds m.joins.level m.top m.joins.join h.joins.order h.joins.bounds;
      meet_else = strict_else m.joins.level m.top m.joins.join;
    }

single_order : Order single.joins.level single.joins.flows
single_order =
    record {
      from_level = λ a b h. (and_parts (a == 0) (b == 0) h).0;
      to_level = λ a b h. (and_parts (a == 0) (b == 0) h).1;
      reflexive = λ a p. and_from (a == 0) (a == 0) p p;
      antisymmetric = λ a b h k. eqb-true a 0 (and_parts (a == 0) (b == 0) h).0 ∙ sym (eqb-true b 0 (and_parts (a == 0) (b == 0) h).1);
      transitive = λ a b c h k. and_from (a == 0) (c == 0) (and_parts (a == 0) (b == 0) h).0 (and_parts (b == 0) (c == 0) k).1;
    }

single_bounds : Bounds single.joins.level single.joins.flows 0 (λ a b. 0)
single_bounds =
    record {
      least_level = refl;
      least_flows = λ a p. p;
      left = λ a b p q. and_from (a == 0) true p refl;
      right = λ a b p q. and_from (b == 0) true q refl;
      below = λ a b c h k. (and_parts (a == 0) (c == 0) h).1;
    }

single_meets : Bounds single.joins.level (turned single.joins.flows) 0 (λ a b. 0)
single_meets =
    record {
      least_level = refl;
      least_flows = λ a p. and_from (a == 0) true p refl;
      left = λ a b p q. p;
      right = λ a b p q. q;
      below = λ a b c h k. and_from (c == 0) true (and_parts (c == 0) (a == 0) h).0 refl;
    }

single_lawful : Lawful single
single_lawful =
    record {
      joins =
          record {
            order = single_order;
            bounds = single_bounds;
            join_else = λ a b h. refl;
            fits = λ a p. subst (λ (x : ℕ). x < 2) (sym (eqb-true a 0 p)) (omega arith);
            width_low = omega arith;
            width_high = omega arith;
          };
      bounds = single_meets;
      meet_else = λ a b h. refl;
    }

module _ (w : ℕ) (p q : ℕ → Bool) (f g : ℕ → ℕ → Bool) where
  flows_parts : (a b : ℕ) → each_flows w f g a b ≡ true → (f (left_of w a) (left_of w b) ≡ true) × (g (right_of w a) (right_of w b) ≡ true)
  flows_parts a b h = and_parts (f (left_of w a) (left_of w b)) (g (right_of w a) (right_of w b)) h

  flows_both : (a b : ℕ) → f (left_of w a) (left_of w b) ≡ true → g (right_of w a) (right_of w b) ≡ true → each_flows w f g a b ≡ true
  flows_both a b h k = and_from (f (left_of w a) (left_of w b)) (g (right_of w a) (right_of w b)) h k

  level_parts : (a : ℕ) → each_level w p q a ≡ true → (p (left_of w a) ≡ true) × (q (right_of w a) ≡ true)
  level_parts a h = and_parts (p (left_of w a)) (q (right_of w a)) h

  level_both : (a : ℕ) → p (left_of w a) ≡ true → q (right_of w a) ≡ true → each_level w p q a ≡ true
  level_both a h k = and_from (p (left_of w a)) (q (right_of w a)) h k

  whole_again : (a b : ℕ) → left_of w a ≡ left_of w b → right_of w a ≡ right_of w b → a ≡ b
  whole_again a b h k = sym (split a w) ∙ ap₂ (λ (x y : ℕ). x * 2 ^ w + y) h k ∙ split b w

  each_order : Order p f → Order q g → Order (each_level w p q) (each_flows w f g)
  each_order o r =
      record {
        from_level = λ a b h. level_both a (o.from_level _ _ (flows_parts a b h).0) (r.from_level _ _ (flows_parts a b h).1);
        to_level = λ a b h. level_both b (o.to_level _ _ (flows_parts a b h).0) (r.to_level _ _ (flows_parts a b h).1);
        reflexive = λ a h. flows_both a a (o.reflexive _ (level_parts a h).0) (r.reflexive _ (level_parts a h).1);
        antisymmetric =
            λ a b h k.
            whole_again a b (o.antisymmetric _ _ (flows_parts a b h).0 (flows_parts b a k).0)
            (r.antisymmetric _ _ (flows_parts a b h).1 (flows_parts b a k).1);
        transitive =
            λ a b c h k.
            flows_both a c (o.transitive _ _ _ (flows_parts a b h).0 (flows_parts b c k).0)
            (r.transitive _ _ _ (flows_parts a b h).1 (flows_parts b c k).1);
      }

  module _ (fits : (b : ℕ) → q b ≡ true → b < 2 ^ w) where
    to_pair : (a x y : ℕ) → q y ≡ true → f (left_of w a) x ≡ true → g (right_of w a) y ≡ true → each_flows w f g a (paired w x y) ≡ true
    to_pair a x y e h k =
        flows_both a (paired w x y) (rw (high x w (fits y e)) h) (rw (low x w (fits y e)) k)

    from_pair : (x y c : ℕ) → q y ≡ true → f x (left_of w c) ≡ true → g y (right_of w c) ≡ true → each_flows w f g (paired w x y) c ≡ true
    from_pair x y c e h k =
        flows_both (paired w x y) c (rw (high x w (fits y e)) h) (rw (low x w (fits y e)) k)

    level_pair : (x y : ℕ) → p x ≡ true → q y ≡ true → each_level w p q (paired w x y) ≡ true
    level_pair x y h k = level_both (paired w x y) (rw (high x w (fits y k)) h) (rw (low x w (fits y k)) k)

    each_bounds : (l r : ℕ) (m n : ℕ → ℕ → ℕ) → Order q g → Bounds p f l m → Bounds q g r n → Bounds (each_level w p q) (each_flows w f g) (paired w l r) (each_op w m n)
    each_bounds l r m n o x y =
        record {
          least_level = level_pair l r x.least_level y.least_level;
          least_flows = λ a h. from_pair l r a y.least_level (x.least_flows _ (level_parts a h).0) (y.least_flows _ (level_parts a h).1);
          left = λ a b h k. to_pair a _ _ (bound a b h k) (x.left _ _ (level_parts a h).0 (level_parts b k).0) (y.left _ _ (level_parts a h).1 (level_parts b k).1);
          right = λ a b h k. to_pair b _ _ (bound a b h k) (x.right _ _ (level_parts a h).0 (level_parts b k).0) (y.right _ _ (level_parts a h).1 (level_parts b k).1);
          below =
              λ a b c h k.
              from_pair _ _ c (o.from_level _ _ (y.below _ _ _ (flows_parts a c h).1 (flows_parts b c k).1))
              (x.below _ _ _ (flows_parts a c h).0 (flows_parts b c k).0) (y.below _ _ _ (flows_parts a c h).1 (flows_parts b c k).1);
        }
      where
        bound : (a b : ℕ) → each_level w p q a ≡ true → each_level w p q b ≡ true → q (n (right_of w a) (right_of w b)) ≡ true
        bound a b h k = o.to_level _ _ (y.left _ _ (level_parts a h).1 (level_parts b k).1)

-- a level of the left part over a level of the right part takes both widths
pub paired_below : (v w x y : ℕ) → x < 2 ^ v → y < 2 ^ w → paired w x y < 2 ^ (v + w)
paired_below v w x y h k = subst (λ n. paired w x y < n) (mul_comm (2 ^ w) (2 ^ v) ∙ sym (pow-add 2 v w)) (mul-add-lt x (2 ^ w) y (2 ^ v) h k)

pub product_lawful : (l r : Model) → Lawful l → Lawful r → l.joins.width + r.joins.width ≤ 32 → Lawful (product l r)
product_lawful l r h k narrow' =
    record {
      joins =
          record {
            order = order;
            bounds = strict_bounds level bottom _ order (each_bounds w p q f g k.joins.fits _ _ l.joins.join r.joins.join k.joins.order h.joins.bounds k.joins.bounds);
            join_else = strict_else level bottom _;
            fits = λ a e. subst (λ (x : ℕ). x < 2 ^ (l.joins.width + w)) (split a w) (paired_below l.joins.width w (left_of w a) (right_of w a) (h.joins.fits _ (level_parts w p q f g a e).0) (k.joins.fits _ (level_parts w p q f g a e).1));
            width_low = omega (arith, h.joins.width_low);
            width_high = narrow';
          };
      bounds = strict_bounds level bottom _ (turned_order order) (each_bounds w p q (turned f) (turned g) k.joins.fits _ _ l.meet r.meet (turned_order k.joins.order) h.bounds k.bounds);
      meet_else = strict_else level bottom _;
    }
  where
    w : ℕ
    w = r.joins.width

    p : ℕ → Bool
    p = l.joins.level

    q : ℕ → Bool
    q = r.joins.level

    f : ℕ → ℕ → Bool
    f = l.joins.flows

    g : ℕ → ℕ → Bool
    g = r.joins.flows

    level : ℕ → Bool
    level = each_level w p q

    bottom : ℕ
    bottom = paired w l.joins.bottom r.joins.bottom

    order : Order level (each_flows w f g)
    order = each_order w p q f g h.joins.order k.joins.order

pub pair_lawful : (l r : Model) → Lawful l → Lawful r → Lawful (pair_model l r)
pair_lawful l r h k = go (narrow l.joins r.joins) refl
  where
    go : (b : Bool) → narrow l.joins r.joins ≡ b → Lawful (pair_if b l r)
    go true e = product_lawful l r h k (leb-true (l.joins.width + r.joins.width) 32 e)
    go false e = single_lawful

-- what the parts answer fits together into 32 bits
pub paired_fits : (l r : Joins) → JoinLaws l → JoinLaws r → (w x y a b : ℕ) → w ≡ r.width → l.width + w ≤ 32 → x ≡ a → y ≡ b → l.level a ≡ true → r.level b ≡ true → paired w x y < 2 ^ 32
paired_fits l r h k w x y a b e fit d d' p q =
    lt_of_lt_of_le (paired_below l.width w x y (subst (λ n. n < 2 ^ l.width) (sym d) (h.fits a p)) (subst₂ (λ n v. n < 2 ^ v) (sym d') (sym e) (k.fits b q))) (pow_mono fit)
