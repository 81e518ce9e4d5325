-- Readings one after another. Assumes nothing.
use Rattle.std.proofs.Common.{◌≡◌, ℕ, ◌+◌, ◌<◌, List, [], ◌∷◌, ◌++◌, length, IsErrAnd, Ok, Err, Result, sym, refl, ap, ◌∙◌, subst, arith, append_assoc, length-append}
use Rattle.std.proofs.lemmas.List.{length_push}
use Rattle.std.proofs.lemmas.Result.{err_from_is_err_and}
use Rattle.records.specs.declared.faults.LineFault.{LineFault}
use Rattle.reader.specs.declared.Reader.{Reader}
use Rattle.reader.specs.declared.sections.Line.{Line}
use Rattle.reader.specs.Reading.{Answered}
use Rattle.rules.specs.declared.faults.DesignFault.{DesignFault}
use Rattle.rules.specs.declared.faults.DesignFault.TheVariants.{Line as OfLine, Lattice, ShortTable, Broken, WrongLength, Memory}
use Rattle.draft.specs.Reading.{Lines, kept, kept_all, Gives, AllKept, Stopped, Kept, headed}

pub gives_none : (r : Reader) → Gives r [] r
unfolding Gives
gives_none r = refl

pub gives_one : (r s : Reader) (line : Line) → Answered r (Ok line) s → Gives r (line ∷ []) s
unfolding Gives
gives_one r s line h = (s, h, refl)

pub gives_append : (r m s : Reader) (xs ys : List Line) → Gives r xs m → Gives m ys s → Gives r (xs ++ ys) s
unfolding Gives
gives_append r m s [] ys g h = subst (λ (x : Reader). Gives x ys s) g h
gives_append r m s (x ∷ xs) ys g h = (g.0, g.1, gives_append g.0 m s xs ys g.2 h)

pub gives_push : (r m s : Reader) (xs : List Line) (line : Line) → Gives r xs m → Answered m (Ok line) s → Gives r (xs ++ line ∷ []) s
gives_push r m s xs line g h = gives_append r m s xs (line ∷ []) g (gives_one m s line h)

pub kept_none : (d : Lines) → kept_all [] d ≡ d
unfolding kept_all
kept_none d = refl

pub kept_append : (xs ys : List Line) (d : Lines) → kept_all (xs ++ ys) d ≡ kept_all ys (kept_all xs d)
unfolding kept_all
kept_append [] ys d = refl
kept_append (x ∷ xs) ys d = kept_append xs ys (kept x d)

kept_one : (line : Line) (d : Lines) → kept_all (line ∷ []) d ≡ kept line d
unfolding kept_all
kept_one line d = refl

-- the exit of a `?`
exit : {T : Type 0} (due : List Line → ℕ) (r : Reader) (d : Lines) (x : Result T DesignFault) (f : DesignFault) (s : Reader) (e : Lines) → IsErrAnd x (λ y. y ≡ f) → Stopped due r d f s e → Kept due r d x s e
exit {T} due r d x f s e out stop =
    let p = err_from_is_err_and x out in
    subst (λ (y : Result T DesignFault). Kept due r d y s e) (sym p.1) (subst (λ (g : DesignFault). Stopped due r d g s e) (sym p.2) stop)

module _ (r : Reader) (d : Lines) where
  pub at_start : AllKept (λ _. 0) r d r d
  at_start = record { lines = []; all = refl; given = gives_none r; keeps = sym (kept_none d) }

  module _ (n : ℕ) (m : Reader) (c : Lines) (so_far : AllKept (λ _. n) r d m c) where
    pub one_more : (s : Reader) (e : Lines) (line : Line) → Answered m (Ok line) s → e ≡ kept line c → AllKept (λ _. n + 1) r d s e
    one_more s e line h k =
        record {
          lines = so_far.lines ++ line ∷ [];
          all = length_push so_far.lines line ∙ ap (λ x. x + 1) so_far.all;
          given = gives_push r m s so_far.lines line so_far.given h;
          keeps = k ∙ ap (kept line) so_far.keeps ∙ sym (kept_append so_far.lines (line ∷ []) d ∙ kept_one line (kept_all so_far.lines d));
        }

    -- the next line is refused, or there is no memory for it
    module _ {T : Type 0} (count : ℕ) (below : n < count) (x : Result T DesignFault) (s : Reader) where
      pub no_line : (f : LineFault) → Answered m (Err f) s → IsErrAnd x (λ y. y ≡ OfLine f) → Kept (λ _. count) r d x s c
      no_line f h out =
          exit (λ _. count) r d x (OfLine f) s c out (record {
            lines = so_far.lines;
            fewer = omega (arith, so_far.all);
            last = m;
            given = so_far.given;
            refused = h;
            keeps = so_far.keeps;
          })

      pub no_memory : (e : Lines) (line : Line) → Answered m (Ok line) s → e ≡ c → IsErrAnd x (λ y. y ≡ Memory) → Kept (λ _. count) r d x s e
      no_memory e line h same out =
          exit (λ _. count) r d x Memory s e out (record {
            lines = so_far.lines;
            line = line;
            fewer = omega (arith, so_far.all);
            given = gives_push r m s so_far.lines line so_far.given h;
            keeps = same ∙ so_far.keeps;
          })

-- one line, and then as many as the draft then says
module _ (more : Lines → ℕ) (r : Reader) (d : Lines) where
  headed_due : (c : Lines) (xs ys : List Line) → length xs ≡ 1 → c ≡ kept_all xs d → headed more d (xs ++ ys) ≡ 1 + more c
  headed_due c [] ys e k = absurd (omega arith)
  headed_due c (x ∷ []) ys e k = ap (λ v. 1 + more v) (sym (k ∙ kept_one x d))
  headed_due c (x ∷ y ∷ zs) ys e k = absurd (omega arith)

  first_due : (xs : List Line) → length xs < 1 → length xs < headed more d xs
  first_due [] h = h
  first_due (x ∷ xs) h = absurd (omega arith)

  first_stops : (f : DesignFault) (s : Reader) (e : Lines) → Stopped (λ _. 1) r d f s e → Stopped (headed more d) r d f s e
  first_stops (OfLine f) s e h =
      record {
        lines = h.lines;
        fewer = first_due h.lines h.fewer;
        last = h.last;
        given = h.given;
        refused = h.refused;
        keeps = h.keeps;
      }
  first_stops (Lattice f) s e h = h
  first_stops (ShortTable kind) s e h = h
  first_stops (Broken b) s e h = h
  first_stops (WrongLength n) s e h = h
  first_stops Memory s e h =
      record {
        lines = h.lines;
        line = h.line;
        fewer = first_due h.lines h.fewer;
        given = h.given;
        keeps = h.keeps;
      }

  -- the first line is not read and kept
  pub no_head : {T : Type 0} (x : Result T DesignFault) (f : DesignFault) (s : Reader) (e : Lines) → IsErrAnd x (λ y. y ≡ f) → Stopped (λ _. 1) r d f s e → Kept (headed more d) r d x s e
  no_head x f s e out stop = exit (headed more d) r d x f s e out (first_stops f s e stop)

  -- it is, and then the others are read or not
  module _ (m : Reader) (c : Lines) (head : AllKept (λ _. 1) r d m c) where
    keeps_both : (ys : List Line) (e : Lines) → e ≡ kept_all ys c → e ≡ kept_all (head.lines ++ ys) d
    keeps_both ys e k = k ∙ ap (kept_all ys) head.keeps ∙ sym (kept_append head.lines ys d)

    due : (ys : List Line) → headed more d (head.lines ++ ys) ≡ 1 + more c
    due ys = headed_due c head.lines ys head.all head.keeps

    headed_all : (s : Reader) (e : Lines) → AllKept (λ _. more c) m c s e → AllKept (headed more d) r d s e
    headed_all s e h =
        record {
          lines = head.lines ++ h.lines;
          all = omega (arith, length-append head.lines h.lines, head.all, h.all, due h.lines);
          given = gives_append r m s head.lines h.lines head.given h.given;
          keeps = keeps_both h.lines e h.keeps;
        }

    headed_rest : (f : DesignFault) (s : Reader) (e : Lines) → Stopped (λ _. more c) m c f s e → Stopped (headed more d) r d f s e
    headed_rest (OfLine f) s e h =
        record {
          lines = head.lines ++ h.lines;
          fewer = omega (arith, length-append head.lines h.lines, head.all, h.fewer, due h.lines);
          last = h.last;
          given = gives_append r m h.last head.lines h.lines head.given h.given;
          refused = h.refused;
          keeps = keeps_both h.lines e h.keeps;
        }
    headed_rest (Lattice f) s e h = h
    headed_rest (ShortTable kind) s e h = h
    headed_rest (Broken b) s e h = h
    headed_rest (WrongLength n) s e h = h
    headed_rest Memory s e h =
        record {
          lines = head.lines ++ h.lines;
          line = h.line;
          fewer = omega (arith, length-append head.lines h.lines, head.all, h.fewer, due h.lines);
          given = subst (λ (ls : List Line). Gives r ls s) (sym (append_assoc head.lines h.lines (h.line ∷ [])))
              (gives_append r m s head.lines (h.lines ++ h.line ∷ []) head.given h.given);
          keeps = keeps_both h.lines e h.keeps;
        }

    pub headed_kept : {T : Type 0} → (x : Result T DesignFault) (s : Reader) (e : Lines) → Kept (λ _. more c) m c x s e → Kept (headed more d) r d x s e
    headed_kept (Ok x) s e h = headed_all s e h
    headed_kept (Err f) s e h = headed_rest f s e h
