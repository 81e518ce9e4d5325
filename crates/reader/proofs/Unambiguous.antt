-- No text can be read in two ways, so that a text that is as due is never refused. Assumes nothing.
use Rattle.std.proofs.Common.{◌≡◌, ℕ, suc, ◌-◌, false, ◌⊎◌, List, [], ◌∷◌, ◌++◌, length, Ok, Err, Result, sym, refl, ap, ◌∙◌, subst, inl, ⊎_elim, append_assoc, arith}
use Rattle.std.specs.List.{flat_map}
use Rattle.std.proofs.lemmas.List.{append_cancel_left}
use Rattle.std.proofs.lemmas.Bool.{both_ways}
use Rattle.records.specs.declared.faults.LineFault.{LineFault}
use Rattle.records.specs.declared.faults.LineFault.TheVariants.{NotDue, TooLong}
use Rattle.reader.specs.declared.sections.Line.{Line}
use Rattle.reader.specs.declared.sections.Section.{Section}
use Rattle.reader.specs.declared.sections.Step.{Step}
use Rattle.reader.specs.Format.{key, values, write, Goes, inputs, cells, commands, expressions, states, registers, ports, rows, planned, counted}
use Rattle.reader.specs.Pieces.{shared}
use Rattle.reader.specs.Texts.{ends, Refused, Run, Run.none, Run.more, Whole, Exact}
use Rattle.reader.proofs.Shared.{shared_append}
use Rattle.reader.proofs.Sequences.{Apart, shared_parts}
use Rattle.reader.proofs.Grammar.{line_free, levels_kind, row_kind, head_kind, port_kind, register_kind, state_kind, expression_kind, command_kind, cell_kind, input_kind}
use Rattle.reader.proofs.Answering.{keyed}

due_free : (s : Section) (p q : Step) → Goes s p → Goes s q → (p ≡ q) ⊎ Apart (values p.line) (values q.line)
due_free Section.Levels p q g h = line_free levels_kind rows p q g h
due_free (Section.Rows n) p q g h = line_free row_kind (λ _. rows (n - 1)) p q g h
due_free Section.Head p q g h = line_free head_kind (λ x. ports (planned x) x.ports) p q g h
due_free (Section.Ports a) p q g h = line_free port_kind (λ _. ports a.plan (a.left - 1)) p q g h
due_free (Section.Registers a) p q g h = line_free register_kind (λ r. registers (counted a.plan r) (a.left - 1)) p q g h
due_free (Section.States a) p q g h = line_free state_kind (λ _. states a.plan (a.left - 1)) p q g h
due_free (Section.Expressions a) p q g h = line_free expression_kind (λ _. expressions a.plan (a.left - 1)) p q g h
due_free (Section.Commands a) p q g h = line_free command_kind (λ _. commands a.plan (a.left - 1)) p q g h
due_free (Section.Cells n x) p q g h = line_free cell_kind (λ _. cells x (n - 1)) p q g h
due_free (Section.Inputs n) p q g h = line_free input_kind (λ _. inputs (n - 1)) p q g h
due_free Section.End p q g h = inl (g ∙ sym h)

-- texts that stand apart begin no common text
never_both : (a b t u : List ℕ) → Apart a b → a ++ t ≡ b ++ u → ⊥
never_both a b t u apart e =
    let whole = ap (λ x. shared (a ++ t) x) (sym e) ∙ shared_append a t t in
    omega (arith, apart.0, shared_parts a b t u apart, whole)

-- at most one due line stands at the beginning of a text
sole_line : (s : Section) (p q : Step) (t u : List ℕ) → Goes s p → Goes s q → write p.line ++ t ≡ write q.line ++ u → (p ≡ q) × (t ≡ u)
sole_line s p q t u g h e =
    ⊎_elim
    (λ same. (same, append_cancel_left (write q.line) t u (ap (λ (x : Step). write x.line ++ t) (sym same) ∙ e)))
    (λ apart.
    let k : key p.line ≡ key q.line = keyed s p g ∙ sym (keyed s q h) in
    let f : key q.line ++ (values p.line ++ t) ≡ key q.line ++ (values q.line ++ u) =
    ap (λ x. x ++ (values p.line ++ t)) (sym k) ∙ sym (append_assoc (key p.line) (values p.line) t) ∙ e ∙ append_assoc (key q.line) (values q.line) u in
    absurd (never_both (values p.line) (values q.line) t u apart (append_cancel_left (key q.line) (values p.line ++ t) (values q.line ++ u) f)))
    (due_free s p q g h)

-- no line but the end is due at the end
end_only : (s : Section) (p : Step) → s ≡ Section.End → Goes s p → ends p.line ≡ false → ⊥
end_only s p e g f =
    let at : p ≡ record { line = Line.End; next = Section.End } = subst (λ (x : Section). Goes x p) e g in
    both_ways (ends p.line) f (ap (λ (x : Step). ends x.line) at)

same_runs : {s u v : Section} (ls ms : List Line) → Run s ls u → Run s ms v → u ≡ Section.End → v ≡ Section.End → flat_map write ls ≡ flat_map write ms → length ls ≡ length ms
same_runs [] [] none none e f h = refl
same_runs {s} [] (m ∷ ms) none (more g x r) e f h = absurd (end_only s _ e g x)
same_runs {s} (l ∷ ls) [] (more g x r) none e f h = absurd (end_only s _ f g x)
same_runs {s} {u} {v} (l ∷ ls) (m ∷ ms) (more g x r) (more g' x' r') e f h =
    let d = sole_line s _ _ (flat_map write ls) (flat_map write ms) g g' h in
    ap suc (same_runs ls ms r (subst (λ (y : Section). Run y ms v) (sym (ap (λ (y : Step). y.next) d.0)) r') e f d.1)

no_refusal : {s u v : Section} (ls ms : List Line) → Run s ls u → Run s ms v → u ≡ Section.End → (rest : List ℕ) (k : ℕ) → flat_map write ls ≡ flat_map write ms ++ rest → Refused v rest k → ⊥
no_refusal {s} [] [] none none e rest k h refused =
    refused.none (record { line = Line.End; next = Section.End }) [] (subst (λ (x : Section). Goes x (record { line = Line.End; next = Section.End })) (sym e) refl)
    (record { written = sym h; nothing = λ _. refl })
no_refusal {s} [] (m ∷ ms) none (more g x r) e rest k h refused = end_only s _ e g x
no_refusal {s} (l ∷ ls) [] (more g x r) none e rest k h refused =
    refused.none _ (flat_map write ls) g (record { written = sym h; nothing = λ y. absurd (both_ways (ends l) x y) })
no_refusal {s} {u} {v} (l ∷ ls) (m ∷ ms) (more g x r) (more g' x' r') e rest k h refused =
    let d = sole_line s _ _ (flat_map write ls) (flat_map write ms ++ rest) g g' (h ∙ append_assoc (write m) (flat_map write ms) rest) in
    no_refusal ls ms r (subst (λ (y : Section). Run y ms v) (sym (ap (λ (y : Step). y.next) d.0)) r') e rest k d.1 refused

pub exact : (text : List ℕ) (r : Result ℕ LineFault) → Whole text r → Exact text r
exact text (Ok n) w = (
  w,
  λ ls run is short. ap Ok (w.3 ∙ same_runs w.0 ls w.1 run refl refl (sym w.2 ∙ is)),
)
exact text (Err TooLong) w = (w, λ ls run is short. absurd (omega arith))
exact text (Err (NotDue line byte)) w = (
  w,
  λ ls run is short. absurd (no_refusal ls w.0 run w.1.1 refl w.1.2.0 w.1.2.3.0 (sym is ∙ w.1.2.1) w.1.2.3.1),
)
