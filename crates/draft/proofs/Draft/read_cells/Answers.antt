use Rattle.std.proofs.Common.{ℕ, subst}
use Rattle.draft.specs.Reading.{Kept, view}
use Rattle.draft.proofs.Draft.read_cells.Goals as goal

pub returns : goal.returns
returns c =
    let d = view c.args.self.now in
    let e = view c.read_lines.new.self in
    subst (λ (n : ℕ). Kept (λ _. n) c.args.reader.now d c.read_lines.result c.read_lines.new.reader e) c.cell_count.ensures c.read_lines.ensures
