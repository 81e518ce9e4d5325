-- A number and what parts it from the next piece, as one piece. Assumes nothing.
use Rattle.std.proofs.Common.{◌≡◌, ◌≢◌, ℕ, suc, ◌+◌, ◌^◌, ◌<◌, ◌≤◌, ◌⊎◌, List, [], ◌∷◌, ◌++◌, length, get_or, take, drop, Some, None, Err, decimal, sym, refl, ap, ◌∙◌, subst, inl, inr, ⊎_elim, append_assoc, arith, length-append}
use Rattle.std.specs.Str.Parse.{AllDigits}
use Rattle.std.proofs.lemmas.Fmt.{decimal_nonempty, digits_decimal, decimal_injective}
use Rattle.std.proofs.lemmas.List.{length-take-le, take-append-drop, drop_more, drop_all}
use Rattle.std.proofs.lemmas.Str.Parse.{digit_from_value}
use Rattle.std.proofs.lemmas.Bool.{cases_eq, cases_lt}
use Rattle.reader.specs.Format.{largest, Optional, optional}
use Rattle.reader.specs.Pieces.{shared, Leaves, Extends, Strips, Longest, Parting}
use Rattle.reader.proofs.Shared.{shared_same, shared_apart, shared_nil, shared_append, shared_comm}
use Rattle.reader.proofs.Sequences.{Apart, Free, shared_parts}
use Rattle.reader.proofs.Numbers.{own, digit_behind, digit_extends, longest_written}

-- how two texts stand to each other
data Split (a b : List ℕ) : Type 0 where
  same : a ≡ b → Split a b
  longer : (x : ℕ) (t : List ℕ) → a ≡ b ++ (x ∷ t) → Split a b
  shorter : (x : ℕ) (t : List ℕ) → b ≡ a ++ (x ∷ t) → Split a b
  apart : Apart a b → Split a b

push : (x y : ℕ) (a b : List ℕ) → x ≡ y → Split a b → Split (x ∷ a) (y ∷ b)
push x y a b e (same h) = same (ap (λ z. z ∷ a) e ∙ ap (λ t. y ∷ t) h)
push x y a b e (longer z t h) = longer z t (ap (λ u. u ∷ a) e ∙ ap (λ u. y ∷ u) h)
push x y a b e (shorter z t h) = shorter z t (ap (λ u. u ∷ b) (sym e) ∙ ap (λ u. x ∷ u) h)
push x y a b e (apart h) = let q = shared_same x y a b e in apart (omega (arith, q, h.0), omega (arith, q, h.1))

split : (a b : List ℕ) → Split a b
split [] [] = same refl
split [] (y ∷ b) = shorter y b refl
split (x ∷ a) [] = longer x a refl
split (x ∷ a) (y ∷ b) =
    ⊎_elim (λ e. push x y a b e (split a b)) (λ f. let q = shared_apart x y a b f in apart (omega (arith, q), omega (arith, q))) (cases_eq x y)

-- no digit stands where the parting text is due
parted : (after : List ℕ) (x : ℕ) (u : List ℕ) → Parting after → 48 ≤ x → shared after (x ∷ u) ≡ 0
parted [] x u h low = absurd (omega (arith, h.some))
parted (a ∷ after) x u h low = shared_apart a x after u (λ e. omega (arith, h.first))

parted_right : (after : List ℕ) (x : ℕ) (u : List ℕ) → Parting after → 48 ≤ x → shared (x ∷ u) after ≡ 0
parted_right after x u h low = shared_comm (x ∷ u) after ∙ parted after x u h low

-- the text of a number that goes on beyond another text, and of one that stops before it
shared_longer : (d p after r : List ℕ) (x : ℕ) (t : List ℕ) → d ≡ p ++ (x ∷ t) → shared (d ++ after) (p ++ r) ≡ length p + shared (x ∷ (t ++ after)) r
shared_longer d p after r x t e =
    ap (λ u. shared (u ++ after) (p ++ r)) e ∙ ap (λ u. shared u (p ++ r)) (append_assoc p (x ∷ t) after) ∙ shared_append p (x ∷ (t ++ after)) r

shared_shorter : (d p after r : List ℕ) (x : ℕ) (t : List ℕ) → p ≡ d ++ (x ∷ t) → shared (d ++ after) (p ++ r) ≡ length d + shared after (x ∷ (t ++ r))
shared_shorter d p after r x t e =
    ap (λ u. shared (d ++ after) (u ++ r)) e ∙ ap (λ u. shared (d ++ after) u) (append_assoc d (x ∷ t) r) ∙ shared_append d after (x ∷ (t ++ r))

module _ (after : List ℕ) (limit : ℕ) (parting : Parting after) (h : limit < 2 ^ 64) where
  pub number_free : Free (λ w. w ≤ limit) (λ w. decimal w ++ after)
  number_free v w okv okw = go (split (decimal v) (decimal w))
    where
      digit : (u : ℕ) (p t : List ℕ) (x : ℕ) → u ≤ limit → decimal u ≡ p ++ (x ∷ t) → 48 ≤ x
      digit u p t x ok e =
          (digit_behind p t x (subst (AllDigits 10) e (digits_decimal own u (omega arith)))).0

      lengths : (u : ℕ) → length (decimal u ++ after) ≡ length (decimal u) + length after
      lengths u = length-append (decimal u) after

      go : Split (decimal v) (decimal w) → (v ≡ w) ⊎ Apart (decimal v ++ after) (decimal w ++ after)
      go (same e) = inl (decimal_injective v w (omega arith) (omega arith) e)
      go (longer x t e) =
          let q = shared_longer (decimal v) (decimal w) after after x t e in
          let z = parted_right after x (t ++ after) parting (digit v (decimal w) t x okv e) in
          let l = ap length e ∙ length-append (decimal w) (x ∷ t) in
          inr (omega (arith, q, z, l, lengths v, parting.some), omega (arith, q, z, lengths w, parting.some))
      go (shorter x t e) =
          let q = shared_shorter (decimal v) (decimal w) after after x t e in
          let z = parted after x (t ++ after) parting (digit w (decimal v) t x okw e) in
          let l = ap length e ∙ length-append (decimal v) (x ∷ t) in
          inr (omega (arith, q, z, lengths v, parting.some), omega (arith, q, z, l, lengths w, parting.some))
      go (apart e) =
          let q = shared_parts (decimal v) (decimal w) after after e in
          inr (omega (arith, q, e.0, lengths v), omega (arith, q, e.1, lengths w))

  module _ (s : List ℕ) (v n : ℕ) (l : Longest s limit v n) where
    front_length : length (take n s) ≡ n
    front_length = length-take-le n s l.inside

    halves : take n s ++ drop n s ≡ s
    halves = take-append-drop n s

    -- a number that goes on beyond the longest one shares no more than that
    stopped : (x : ℕ) (u : List ℕ) → Extends v n x limit → shared (x ∷ u) (drop n s) ≡ 0
    stopped x u ext =
        ⊎_elim
        (λ more. rw (drop_more s n 0 more) (shared_apart x (get_or s n 0) u (drop (n + 1) s) (λ e. l.ends more (subst (λ y. Extends v n y limit) e ext))))
        (λ past. rw (drop_all n s past) (shared_nil (x ∷ u)))
        (cases_lt n (length s))

    beyond : (w : ℕ) → w ≤ limit → (decimal w ≡ take n s) ⊎ ((shared (decimal w ++ after) s ≤ n) × (shared (decimal w ++ after) s < length (decimal w ++ after)))
    beyond w ok = go (split (decimal w) (take n s))
      where
        size : length (decimal w ++ after) ≡ length (decimal w) + length after
        size = length-append (decimal w) after

        whole : shared (decimal w ++ after) (take n s ++ drop n s) ≡ shared (decimal w ++ after) s
        whole = ap (λ u. shared (decimal w ++ after) u) halves

        go : Split (decimal w) (take n s) → (decimal w ≡ take n s) ⊎ ((shared (decimal w ++ after) s ≤ n) × (shared (decimal w ++ after) s < length (decimal w ++ after)))
        go (same e) = inl e
        go (longer x t e) =
            let raw = digit_extends w limit (take n s) t x ok (omega arith) e in
            let ext : Extends v n x limit =
            record { low = raw.low; high = raw.high; lead = λ z. sym front_length ∙ raw.lead (l.says ∙ z); within = omega (arith, raw.within, l.says) } in
            let q = shared_longer (decimal w) (take n s) after (drop n s) x t e in
            let z = stopped x (t ++ after) ext in
            let k = ap length e ∙ length-append (take n s) (x ∷ t) in
            inr (omega (arith, q, z, whole, front_length), omega (arith, q, z, k, whole, size, front_length))
        go (shorter x t e) =
            let q = shared_shorter (decimal w) (take n s) after (drop n s) x t e in
            let digit = (digit_behind (decimal w) t x (subst (AllDigits 10) e l.digits)).0 in
            let z = parted after x (t ++ drop n s) parting digit in
            let k = ap length e ∙ length-append (decimal w) (x ∷ t) in
            inr (omega (arith, q, z, k, whole, front_length), omega (arith, q, z, whole, size, parting.some))
        go (apart e) =
            let q = shared_parts (decimal w) (take n s) after (drop n s) e in
            inr (omega (arith, q, e.1, whole, front_length), omega (arith, q, e.0, whole, size))

    -- no digit at all
    pub number_missing : n ≡ 0 → Leaves (λ w. w ≤ limit) (λ w. decimal w ++ after) s (length s)
    number_missing none =
        let at : (w : ℕ) → w ≤ limit → (shared (decimal w ++ after) s ≤ n) × (shared (decimal w ++ after) s < length (decimal w ++ after)) =
        λ w ok. ⊎_elim (λ e. absurd (omega (arith, decimal_nonempty w (omega arith), ap length e, front_length))) (λ b. b) (beyond w ok) in (
          0,
          omega arith,
          record {
            some = (0, omega arith, omega (arith, (at 0 (omega arith)).0));
            most = λ w ok. omega (arith, (at w ok).0);
            none = λ w ok. (at w ok).1;
          },
        )

    -- the number is there, and what parts it from the rest is not
    pub number_parts : 0 < n → (left : ℕ) → Strips after (drop n s) (Err left) → Leaves (λ w. w ≤ limit) (λ w. decimal w ++ after) s left
    number_parts some left stop =
        let written : decimal v ≡ take n s = longest_written s limit v n h l some in
        let at_same : (w : ℕ) → decimal w ≡ take n s → shared (decimal w ++ after) s ≡ n + shared after (drop n s) =
        λ w e.
        ap (λ u. shared (u ++ after) s) e ∙ ap (λ u. shared (take n s ++ after) u) (sym halves)
        ∙ shared_append (take n s) after (drop n s) ∙ ap (λ i. i + shared after (drop n s)) front_length in (
          n + shared after (drop n s),
          omega (arith, stop.0, front_length, sym (length-append (take n s) (drop n s)) ∙ ap length halves),
          record {
            some = (v, l.within, at_same v written);
            most = λ w ok. ⊎_elim (λ e. omega (arith, at_same w e)) (λ b. omega (arith, b.0)) (beyond w ok);
            none =
                λ w ok.
                ⊎_elim (λ e. omega (arith, at_same w e, ap length e, front_length, length-append (decimal w) after, stop.1)) (λ b. b.1) (beyond w ok);
          },
        )

    pub number_reads : 0 < n → (rest : List ℕ) → drop n s ≡ after ++ rest → s ≡ (decimal v ++ after) ++ rest
    number_reads some rest e =
        sym halves ∙ ap (λ u. u ++ drop n s) (sym (longest_written s limit v n h l some)) ∙ ap (λ u. decimal v ++ u) e ∙ sym (append_assoc (decimal v) after rest)

-- no number begins with `-`
dashed : (w : ℕ) (after u : List ℕ) → w ≤ largest → (shared (decimal w ++ after) (45 ∷ u) ≡ 0) × (0 < length (decimal w ++ after))
dashed w after u ok = go (decimal w) (digits_decimal own w (omega arith)) (decimal_nonempty w (omega arith))
  where
    go : (d : List ℕ) → AllDigits 10 d → 0 < length d → (shared (d ++ after) (45 ∷ u) ≡ 0) × (0 < length (d ++ after))
    go [] ds some = absurd (omega arith)
    go (x ∷ d) ds some = (shared_apart x 45 (d ++ after) u (λ e. omega (arith, (digit_from_value x ds.0).0)), omega arith)

module _ (after : List ℕ) (parting : Parting after) where
  -- `-` is there, and what parts it from the rest is not
  pub optional_dash : (s r : List ℕ) (left : ℕ) → s ≡ 45 ∷ r → Strips after r (Err left) → Leaves Optional (λ o. optional o ++ after) s left
  optional_dash s r left is stop =
      let here : shared (45 ∷ after) s ≡ suc (shared after r) = ap (λ u. shared (45 ∷ after) u) is ∙ shared_same 45 45 after r refl in
      let number : (n : ℕ) → n ≤ largest → (shared (decimal n ++ after) s ≡ 0) × (0 < length (decimal n ++ after)) =
      λ n ok. (ap (λ u. shared (decimal n ++ after) u) is ∙ (dashed n after r ok).0, (dashed n after r ok).1) in (
        suc (shared after r),
        omega (arith, stop.0, ap length is),
        record {
          some = (None, tt, here);
          most = elim [ None ↦ λ ok. omega (arith, here) | Some n ↦ λ ok. omega (arith, (number n ok).0) ];
          none = elim [ None ↦ λ ok. omega (arith, here, stop.1) | Some n ↦ λ ok. omega (arith, (number n ok).0, (number n ok).1) ];
        },
      )

  -- no `-`, and no number either
  pub optional_digits : (s : List ℕ) (left : ℕ) → ((r : List ℕ) → s ≢ 45 ∷ r) → Leaves (λ w. w ≤ largest) (λ w. decimal w ++ after) s left → Leaves Optional (λ o. optional o ++ after) s left
  optional_digits s left other h =
      let st = h.2 in
      let here : shared (45 ∷ after) s ≡ 0 = undashed s other in (
        h.0,
        h.1,
        record {
          some = (Some st.some.0, st.some.1, st.some.2);
          most = elim [ None ↦ λ ok. omega (arith, here) | Some n ↦ λ ok. st.most n ok ];
          none = elim [ None ↦ λ ok. omega (arith, here) | Some n ↦ λ ok. st.none n ok ];
        },
      )
    where
      undashed : (u : List ℕ) → ((r : List ℕ) → u ≢ 45 ∷ r) → shared (45 ∷ after) u ≡ 0
      undashed [] f = shared_nil (45 ∷ after)
      undashed (y ∷ u) f = shared_apart 45 y after u (λ e. f u (ap (λ z. z ∷ u) (sym e)))

  pub optional_free : Free Optional (λ o. optional o ++ after)
  optional_free None None _ _ = inl refl
  optional_free None (Some n) _ ok = let d = dashed n after after ok in let c = shared_comm (45 ∷ after) (decimal n ++ after) in inr (omega (arith, d.0, c), omega (arith, d.0, d.1, c))
  optional_free (Some n) None ok _ = let d = dashed n after after ok in inr (omega (arith, d.0, d.1), omega (arith, d.0))
  optional_free (Some m) (Some n) okm okn = ⊎_elim (λ e. inl (ap Some e)) inr (number_free after largest parting (omega arith) m n okm okn)
