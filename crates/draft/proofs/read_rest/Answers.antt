use Rattle.std.proofs.Common.{◌≢◌, [], ◌∷◌, ◌++◌, Ok, sym, subst}
use Rattle.std.proofs.lemmas.List.Elements.{All-nil, All-push}
use Rattle.reader.specs.declared.sections.Line.{Line}
use Rattle.reader.specs.Reading.{Answered}
use Rattle.draft.proofs.Readings.{gives_none, gives_push}
use Rattle.draft.proofs.Ends.{ended, goes_on, left_falls, ended_exit}
use Rattle.draft.proofs.read_rest.Goals as goal

pub loop-init : goal.loop-init
loop-init c = ([], All-nil (λ (x : Line). x ≢ Line.End), gives_none c.args.reader.now)

pub loop-preserved : goal.loop-preserved
loop-preserved c =
    let i = c.loop.invariant in
    let line = c.in_ok-read_line.field-0 in (
      i.0 ++ line ∷ [],
      All-push (λ (x : Line). x ≢ Line.End) i.0 line i.1 (goes_on line (sym c.if-not-is_end.ensures)),
      gives_push c.args.reader.now c.loop.reader c.read_line.new.self i.0 line i.2 c.in_ok-read_line.ensures,
    )

pub loop-smaller : goal.loop-smaller
loop-smaller c = left_falls c.loop.reader c.read_line.new.self c.in_ok-read_line.field-0 c.in_ok-read_line.ensures (sym c.if-not-is_end.ensures)

pub returns : goal.returns
returns c =
    let i = c.loop.invariant in
    let a = c.loop.reader in
    let b = c.read_line.new.self in
    let line = c.in_ok-read_line.field-0 in (
      i.0,
      i.1,
      gives_push c.args.reader.now a b i.0 Line.End i.2
          (subst (λ (l : Line). Answered a (Ok l) b) (ended line (sym c.if-not-is_end.ensures)) c.in_ok-read_line.ensures),
    )

pub returns-in_err-read_line : goal.returns-in_err-read_line
returns-in_err-read_line c =
    let i = c.loop.invariant in
    ended_exit c.args.reader.now c.read_line.new.self c.from_residual.result c.in_err-read_line.field-0.0 c.from_residual.ensures.1
    (i.0, i.1, (c.loop.reader, i.2, c.in_err-read_line.ensures))
