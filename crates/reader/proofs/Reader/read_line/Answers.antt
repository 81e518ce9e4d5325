use Rattle.std.proofs.Common.{◌≡◌, ℕ, List, Bor, true, false, is_ok, MatchResult, Ok, Err, Result, refl, sym, ap, subst, arith}
use Rattle.std.proofs.lemmas.Bool.{both_ways}
use Rattle.reader.specs.declared.sections.Step.{Step}
use Rattle.records.specs.declared.faults.LineFault.{LineFault}
use Rattle.reader.specs.Texts.{Due}
use Rattle.reader.proofs.Answering.{moved}
use Rattle.reader.proofs.Reader.read_line.Goals as goal

-- what `map_err` hands on was there
abbrev handed : {T : Type 0} (E D : Type 0) → T → Result T D → Result T E
handed E D q (Ok x) = Ok x
handed E D q (Err e) = Ok q

came : {T E : Type 0} (D : Type 0) (r : Result T E) (q : T) (Q : E → Type 0) → MatchResult r (λ x. ◌≡◌ {A = Result T D} (Ok q) (Ok x)) Q → is_ok r ≡ true → r ≡ Ok q
came {T} {E} D (Ok x) q Q h v = sym (ap (handed E D q) h)
came D (Err e) q Q h v = absurd (both_ways false refl v)

pub invariant_of-self : goal.invariant_of-self
invariant_of-self c =
    let q : Step × Bor (List ℕ) = (c.in_ok-step.step, c.in_ok-step.rest) in
    let there : c.due.result ≡ Ok q = came LineFault c.due.result q _ c.in_ok-step.ensures.cases (sym c.in_ok-step.ensures.variant) in
    let m = moved c.args.self.now.section c.args.self.now.rest.now q (subst (Due c.args.self.now.section c.args.self.now.rest.now) there c.due.ensures) in
    record { short = grind arith; counted = grind arith }
