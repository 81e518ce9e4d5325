-- Lines read one after another. Assumes nothing.
use Rattle.std.proofs.Common.{◌≡◌, ℕ, ◌+◌, ◌-◌, true, false, List, [], ◌∷◌, ◌++◌, length, Ok, Err, sym, refl, ap, ◌∙◌, subst, append_assoc, arith}
use Rattle.std.specs.List.{flat_map}
use Rattle.std.proofs.lemmas.List.{append-nil, length_push}
use Rattle.std.proofs.lemmas.List.Concat.{flat_map-append}
use Rattle.std.proofs.lemmas.Bool.{cond-false, false≢true}
use Rattle.records.specs.declared.faults.LineFault.{LineFault}
use Rattle.reader.specs.declared.Reader.{Reader}
use Rattle.reader.specs.declared.sections.Line.{Line}
use Rattle.reader.specs.declared.sections.Section.{Section}
use Rattle.reader.specs.Format.{write, Goes}
use Rattle.reader.specs.Texts.{ends, Run, Run.none, Run.more, Whole, Exact}
use Rattle.reader.specs.Reading.{Opens, Answered}
use Rattle.reader.proofs.Answering.{end_section}
use Rattle.reader.proofs.Unambiguous.{exact}

-- a reader has come through lines of the text to where it is
abbrev pub Reached : List ℕ → Reader → Type 0
Reached text r = (ls : List Line) × Run Section.Levels ls r.section × (text ≡ flat_map write ls ++ r.rest.now) × (r.line ≡ length ls + 1)

run_push : {s t : Section} (u : Section) (ls : List Line) (l : Line) → Run s ls t → Goes t (record { line = l; next = u }) → ends l ≡ false → Run s (ls ++ l ∷ []) u
run_push u [] l none g f = more g f none
run_push u (x ∷ ls) l (more h e r) g f = more h e (run_push u ls l r g f)

joined_push : (ls : List Line) (l : Line) → flat_map write (ls ++ l ∷ []) ≡ flat_map write ls ++ write l
joined_push ls l = flat_map-append write ls (l ∷ []) ∙ ap (λ u. flat_map write ls ++ u) (append-nil (write l))

at_end : (l : Line) → ends l ≡ true → l ≡ Line.End
at_end (Line.Levels n) e = absurd (false≢true e)
at_end (Line.Row n) e = absurd (false≢true e)
at_end (Line.Head h) e = absurd (false≢true e)
at_end (Line.Port p) e = absurd (false≢true e)
at_end (Line.Register r) e = absurd (false≢true e)
at_end (Line.State s) e = absurd (false≢true e)
at_end (Line.Expression x) e = absurd (false≢true e)
at_end (Line.Command c) e = absurd (false≢true e)
at_end (Line.Cell c) e = absurd (false≢true e)
at_end (Line.Input i) e = absurd (false≢true e)
at_end Line.End e = refl

module _ (text : List ℕ) where
  pub reached_start : (r : Reader) → Opens text (Ok r) → Reached text r
  reached_start r o = ([], subst (λ (s : Section). Run Section.Levels [] s) (sym o.3) none, sym o.1, o.2)

  pub reached_more : (a b : Reader) (l : Line) → Reached text a → Answered a (Ok l) b → ends l ≡ false → Reached text b
  reached_more a b l at h e = (
    at.0 ++ l ∷ [],
    run_push b.section at.0 l at.1 h.1 e,
    at.2 ∙ ap (λ u. flat_map write at.0 ++ u) h.0.written ∙ sym (append_assoc (flat_map write at.0) (write l) b.rest.now)
        ∙ ap (λ u. u ++ b.rest.now) (sym (joined_push at.0 l)),
    omega (arith, h.2, cond-false {A = ℕ} (ends l) 0 1 e, at.3, length_push at.0 l),
  )

  pub whole_end : (a b : Reader) (l : Line) → Reached text a → Answered a (Ok l) b → ends l ≡ true → Exact text (Ok (b.line - 1))
  whole_end a b l at h' e =
      let h = subst (λ (x : Line). Answered a (Ok x) b) (at_end l e) h' in
      exact text (Ok (b.line - 1)) (
        at.0,
        subst (λ (s : Section). Run Section.Levels at.0 s) (end_section a.section (record { line = Line.End; next = b.section }) h.1 refl) at.1,
        at.2 ∙ ap (λ u. flat_map write at.0 ++ u) (h.0.written ∙ h.0.nothing refl) ∙ append-nil (flat_map write at.0),
        omega (arith, h.2, at.3),
      )

  pub whole_fault : (a b : Reader) (f : LineFault) → Reached text a → Answered a (Err f) b → Exact text (Err f)
  whole_fault a b f at h =
      exact text (Err f)
      (subst (λ (x : LineFault). Whole text (Err x)) (sym h.1.2) (at.0, (a.section, at.1, (a.rest.now, at.2, at.3, (h.1.0, h.1.1, refl)))))
