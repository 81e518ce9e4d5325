use Rattle.std.proofs.Common.{◌≡◌, ℕ, sym, refl, ap, ◌∙◌, arith, rules}
use Rattle.std.proofs.lemmas.Bool.Decides.{nat_tests}
use Rattle.shape.specs.Shape.{Design}
use Rattle.shape.specs.View.{view}
use Rattle.design.specs.Chains.{by_goto, moved}
use Rattle.design.specs.Facts.{state_facts, no_state_facts, state_kept}
use Rattle.design.specs.declared.facts.StateFacts.{StateFacts}
use Rattle.design.proofs.Mapped.{kept_read}
use Rattle.design.proofs.Reaching.{moved_past}
use Rattle.design.proofs.commands.PointersOwn.reached.Goals as goal

pub returns-in-Goto : goal.returns-in-Goto
returns-in-Goto c =
    ap (λ (f : StateFacts). f.moved) read ∙ kept ∙ sym (ap (by_goto (moved d s)) c.in-Goto.is)
  where
    d : Design
    d = view c.args.self.now.formed.tables

    s : ℕ
    s = c.args.s

    read : c.record_at.result ≡ state_kept d s
    read = kept_read (state_facts d) d.head.states s no_state_facts _ _ _ _ c.record_at.ensures refl c.args.self.now.worked (search rules)

    kept : (state_kept d s).moved ≡ moved d s
    kept =
        let past = moved_past d c.args.self.now.formed.links c.args.self.now.formed.exact.2 s in
        grind (arith, nat_tests)
