-- Reading to the end. Assumes nothing.
use Rattle.std.proofs.Common.{◌≡◌, ℕ, ◌+◌, ◌-◌, ◌<◌, ◌≢◌, true, false, IsErrAnd, Ok, Err, Result, refl, sym, ap, subst, arith}
use Rattle.std.proofs.lemmas.Bool.{cond-false, both_ways}
use Rattle.std.proofs.lemmas.Result.{err_from_is_err_and}
use Rattle.records.specs.declared.faults.LineFault.{LineFault}
use Rattle.reader.specs.declared.Reader.{Reader}
use Rattle.reader.specs.declared.sections.Line.{Line}
use Rattle.reader.specs.Reading.{Answered, ends, most_bytes}
use Rattle.draft.specs.Reading.{Ended}

-- a line that ends the text, and one that does not
pub ended : (l : Line) → ends l ≡ true → l ≡ Line.End
ended (Line.Levels n) e = absurd (both_ways false refl e)
ended (Line.Row n) e = absurd (both_ways false refl e)
ended (Line.Head h) e = absurd (both_ways false refl e)
ended (Line.Port p) e = absurd (both_ways false refl e)
ended (Line.Register r) e = absurd (both_ways false refl e)
ended (Line.State s) e = absurd (both_ways false refl e)
ended (Line.Expression x) e = absurd (both_ways false refl e)
ended (Line.Command c) e = absurd (both_ways false refl e)
ended (Line.Cell c) e = absurd (both_ways false refl e)
ended (Line.Input i) e = absurd (both_ways false refl e)
ended Line.End e = refl

pub goes_on : (l : Line) → ends l ≡ false → l ≢ Line.End
goes_on l e same = both_ways (ends l) e (ap ends same)

-- how many lines there may be still
abbrev pub left : Reader → ℕ
left r = most_bytes + 1 - r.line

pub left_falls : (a b : Reader) (l : Line) → Answered a (Ok l) b → ends l ≡ false → left b < left a
left_falls a b l h more = omega (arith, h.2, b.short, cond-false {A = ℕ} (ends l) 0 1 more)

-- the exit of a `?`
pub ended_exit : {T : Type 0} (r s : Reader) (x : Result T LineFault) (f : LineFault) → IsErrAnd x (λ y. y ≡ f) → Ended {T = T} r (Err f) s → Ended r x s
ended_exit {T} r s x f out h =
    let p = err_from_is_err_and x out in
    subst (λ (y : Result T LineFault). Ended r y s) (sym p.1) (subst (λ (g : LineFault). Ended {T = T} r (Err g) s) (sym p.2) h)
