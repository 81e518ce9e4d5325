use Rattle.std.proofs.Common.{ℕ, subst}
use Rattle.draft.proofs.Readings.{headed_kept, no_head}
use Rattle.draft.specs.Reading.{Kept, records_of, view}
use Rattle.draft.proofs.Draft.read_records.Goals as goal

pub returns : goal.returns
returns c =
    let m = c.read_lines.new.reader in
    let d = view c.read_lines.new.self in
    let x = c.read_lines-2.result in
    let s = c.read_lines-2.new.reader in
    let e = view c.read_lines-2.new.self in
    headed_kept records_of c.args.reader.now (view c.args.self.now) m d c.in_ok-read_lines.ensures x s e
    (subst (λ (n : ℕ). Kept (λ _. n) m d x s e) c.record_count.ensures c.read_lines-2.ensures)

pub returns-in_err-read_lines : goal.returns-in_err-read_lines
returns-in_err-read_lines c =
    no_head records_of c.args.reader.now (view c.args.self.now) c.from_residual.result c.in_err-read_lines.field-0.0
    c.read_lines.new.reader (view c.read_lines.new.self) c.from_residual.ensures.1 c.in_err-read_lines.ensures
