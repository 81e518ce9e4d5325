-- A key read byte by byte. Assumes nothing.
use Rattle.std.proofs.Common.{◌≡◌, ℕ, suc, ◌+◌, ◌-◌, Bool, true, ◌&&◌, eqb, ltb, List, [], ◌∷◌, ◌++◌, length, get_or, take, drop, sym, ap, ◌∙◌, arith}
use Rattle.std.proofs.lemmas.List.{drop_more, take_rest}
use Rattle.std.proofs.lemmas.Bool.{and_parts, eqb-true, ltb-true}
use Rattle.reader.specs.declared.sections.Section.{Section}
use Rattle.reader.specs.Reading.{due_key}

-- the bytes of a key stand in a text from index i on
abbrev pub stands : List ℕ → ℕ → List ℕ → Bool
stands [] i text = true
stands (k ∷ ks) i text = (ltb i (length text) && eqb (get_or text i 0) k) && stands ks (suc i) text

stands_front : (ks : List ℕ) (i : ℕ) (text : List ℕ) → stands ks i text ≡ true → drop i text ≡ ks ++ drop (i + length ks) text
stands_front [] i text h = ap (λ n. drop n text) (omega arith)
stands_front (k ∷ ks) i text h =
    let p = and_parts (ltb i (length text) && eqb (get_or text i 0) k) (stands ks (suc i) text) h in
    let q = and_parts (ltb i (length text)) (eqb (get_or text i 0) k) p.0 in
    let one : i + 1 ≡ suc i = omega arith in
    let all : suc i + length ks ≡ i + suc (length ks) = omega arith in
    drop_more text i 0 (ltb-true i (length text) q.0)
    ∙ ap (λ x. x ∷ drop (i + 1) text) (eqb-true (get_or text i 0) k q.1)
    ∙ ap (λ n. k ∷ drop n text) one
    ∙ ap (λ t. k ∷ t) (stands_front ks (suc i) text p.1)
    ∙ ap (λ n. k ∷ (ks ++ drop n text)) all

-- the key of the section that the text is in, and the rest
pub key_front : {s t : Section} (text : List ℕ) → s ≡ t → stands (due_key t) 0 text ≡ true → text ≡ due_key s ++ take (length text - length (due_key t)) (drop (length (due_key t)) text)
key_front {s} {t} text e h =
    let n = length (due_key t) in
    let all : 0 + n ≡ n = omega arith in
    stands_front (due_key t) 0 text h ∙ ap (λ i. due_key t ++ drop i text) all ∙ ap (λ u. due_key t ++ u) (sym (take_rest text n))
    ∙ ap (λ (u : Section). due_key u ++ take (length text - n) (drop n text)) (sym e)
