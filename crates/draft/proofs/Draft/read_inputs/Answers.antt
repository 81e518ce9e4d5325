use Rattle.std.proofs.Common.{ℕ, List, subst}
use Rattle.records.specs.declared.Labeled.{Labeled}
use Rattle.draft.specs.Reading.{Kept, view}
use Rattle.draft.proofs.Draft.read_inputs.Goals as goal

pub returns : goal.returns
returns c =
    let d = view c.args.self.now in
    let e = view c.read_lines.new.self in
    let x = c.read_lines.result in
    subst (λ (inputs : List (Labeled ℕ)). Kept (λ _. d.design.head.ports) c.args.reader.now (record d { inputs = inputs }) x c.read_lines.new.reader e) c.clear.ensures.items
    (subst (λ (n : ℕ). Kept (λ _. n) c.args.reader.now (record d { inputs = c.clear.new.self.items }) x c.read_lines.new.reader e) c.from.ensures c.read_lines.ensures)
