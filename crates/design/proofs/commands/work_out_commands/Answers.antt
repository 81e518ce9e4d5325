use Rattle.std.proofs.Common.{◌≡◌, ℕ, ◌<◌, ◌≤◌, min, cond, ltb, List, map, get_or, vec_items, ◌∙◌, arith}
use Rattle.std.specs.List.{range_with_len}
use Rattle.std.proofs.lemmas.Bool.Decides.{nat_tests}
use Rattle.std.proofs.lemmas.Result.{IfOk-weaker}
use Rattle.shape.specs.Shape.{Design, owner_of}
use Rattle.shape.specs.View.{view}
use Rattle.design.specs.Facts.{command_facts, facts_in}
use Rattle.design.specs.declared.facts.CommandFacts.{CommandFacts}
use Rattle.design.proofs.Mapped.{map_same}
use Rattle.design.proofs.commands.work_out_commands.Goals as goal

-- the entries of the commands that are there
owners_at : (n : ℕ) (owner : ℕ → ℕ) (owners : List ℕ) → n ≤ 256 → ((k : ℕ) → get_or owners k 0 ≡ cond (ltb k (min n 256)) (owner k) 0) → (k : ℕ) → k < n → get_or owners k 0 ≡ owner k
owners_at n owner owners few owned k l =
    let here = owned k in
    grind (arith, nat_tests)

pub work_out_reaches-registers-requires : goal.work_out_reaches-registers-requires
work_out_reaches-registers-requires c = owners_at _ _ _ c.args.formed.few_commands c.owners-owners.ensures

pub work_out_reaches-pointers-requires : goal.work_out_reaches-pointers-requires
work_out_reaches-pointers-requires c = owners_at _ _ _ c.args.formed.few_commands c.owners-owners.ensures

pub returns : goal.returns
returns c =
    IfOk-weaker c.collect_facts.result (λ v. vec_items v ≡ map found (range_with_len 0 n)) (λ v. vec_items v ≡ map (command_facts d) (range_with_len 0 n))
    (λ v e. e ∙ map_same found (command_facts d) n same)
    c.collect_facts.ensures
  where
    d : Design
    d = view c.args.formed.tables

    n : ℕ
    n = d.head.commands

    found : ℕ → CommandFacts
    found = facts_in c.owners-owners.result c.work_out_reaches-registers.result c.work_out_reaches-pointers.result

    same : (k : ℕ) → k < n → found k ≡ command_facts d k
    same k l =
        let owner = owners_at n (owner_of d) c.owners-owners.result c.args.formed.few_commands c.owners-owners.ensures k l in
        let registers = c.work_out_reaches-registers.ensures k l in
        let pointers = c.work_out_reaches-pointers.ensures k l in
        cc
