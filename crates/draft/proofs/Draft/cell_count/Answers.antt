use Rattle.std.proofs.Common.{rules, ◌≡◌, ℕ, ◌+◌, ◌-◌, ◌^◌, min, map, fold, ◌∙◌}
use Rattle.std.proofs.iter.runs.Made.{chains}
use Rattle.records.specs.declared.Register.{Register}
use Rattle.draft.proofs.Saturated.{saturated}
use Rattle.draft.proofs.Draft.cell_count.Goals as goal

pub returns : goal.returns
returns c =
    let e : c.fold.result ≡ fold (λ (s y : ℕ). min (s + y) (2 ^ 64 - 1)) 0 (map (λ (x : Register). x.cells) c.args.self.now.registers.items) = search (rules, chains) in
    e ∙ saturated (λ (x : Register). x.cells) (2 ^ 64 - 1) c.args.self.now.registers.items
