-- From the pieces of a line to what the reader answers. Assumes nothing.
use Rattle.std.proofs.Common.{◌≡◌, ℕ, ◌+◌, ◌-◌, ◌*◌, ◌^◌, ◌<◌, ◌≤◌, true, cond, List, [], ◌++◌, length, None, Ok, Err, Result, sym, refl, ap, ◌∙◌, subst, append_assoc, zero-le, arith, length-append, Bor}
use Rattle.std.proofs.lemmas.List.{append-nil}
use Rattle.std.proofs.lemmas.Bool.{both_ways}
use Rattle.records.specs.declared.Mode.TheVariants.{Enforced}
use Rattle.records.specs.declared.Operator.TheVariants.{Constant}
use Rattle.records.specs.declared.Action.TheVariants.{Set}
use Rattle.reader.specs.declared.sections.Line.{Line}
use Rattle.reader.specs.declared.sections.Plan.{Plan}
use Rattle.reader.specs.declared.sections.Section.{Section}
use Rattle.reader.specs.declared.sections.Step.{Step}
use Rattle.reader.specs.Format.{key, values, write, Goes, inputs, cells, commands, expressions, states, registers, ports, rows, planned, counted}
use Rattle.reader.specs.Pieces.{shared, Leaves, Reads, Strips}
use Rattle.reader.specs.Texts.{ends, cells_so_far, Due, due_key}
use Rattle.reader.proofs.Shared.{shared_append, shared_short, shared_none}

-- a line that is due begins with the key that is due
pub keyed : (s : Section) (p : Step) → Goes s p → key p.line ≡ due_key s
keyed Section.Levels p g = ap (λ (q : Step). key q.line) g.2
keyed (Section.Rows n) p g = ap (λ (q : Step). key q.line) g.2
keyed Section.Head p g = ap (λ (q : Step). key q.line) g.2
keyed (Section.Ports a) p g = ap (λ (q : Step). key q.line) g.2
keyed (Section.Registers a) p g = ap (λ (q : Step). key q.line) g.2
keyed (Section.States a) p g = ap (λ (q : Step). key q.line) g.2
keyed (Section.Expressions a) p g = ap (λ (q : Step). key q.line) g.2
keyed (Section.Commands a) p g = ap (λ (q : Step). key q.line) g.2
keyed (Section.Cells n x) p g = ap (λ (q : Step). key q.line) g.2
keyed (Section.Inputs n) p g = ap (λ (q : Step). key q.line) g.2
keyed Section.End p g = ap (λ (q : Step). key q.line) g

-- the end is due in the last section alone
pub end_section : (s : Section) (p : Step) → Goes s p → ends p.line ≡ true → s ≡ Section.End
end_section Section.Levels p g e = absurd (both_ways (ends p.line) (ap (λ (q : Step). ends q.line) g.2) e)
end_section (Section.Rows n) p g e = absurd (both_ways (ends p.line) (ap (λ (q : Step). ends q.line) g.2) e)
end_section Section.Head p g e = absurd (both_ways (ends p.line) (ap (λ (q : Step). ends q.line) g.2) e)
end_section (Section.Ports a) p g e = absurd (both_ways (ends p.line) (ap (λ (q : Step). ends q.line) g.2) e)
end_section (Section.Registers a) p g e = absurd (both_ways (ends p.line) (ap (λ (q : Step). ends q.line) g.2) e)
end_section (Section.States a) p g e = absurd (both_ways (ends p.line) (ap (λ (q : Step). ends q.line) g.2) e)
end_section (Section.Expressions a) p g e = absurd (both_ways (ends p.line) (ap (λ (q : Step). ends q.line) g.2) e)
end_section (Section.Commands a) p g e = absurd (both_ways (ends p.line) (ap (λ (q : Step). ends q.line) g.2) e)
end_section (Section.Cells n x) p g e = absurd (both_ways (ends p.line) (ap (λ (q : Step). ends q.line) g.2) e)
end_section (Section.Inputs n) p g e = absurd (both_ways (ends p.line) (ap (λ (q : Step). ends q.line) g.2) e)
end_section Section.End p g e = refl

-- in each section some line is due
some_due : (s : Section) → (p : Step) × Goes s p
some_due Section.Levels = (_, (0, zero-le, refl))
some_due (Section.Rows n) = (_, (0, zero-le, refl))
some_due Section.Head =
    (_, (record { ports = 0; registers = 0; states = 0; expressions = 0; commands = 0; cycles = 0 }, (zero-le, zero-le, zero-le, zero-le, zero-le, zero-le), refl))
some_due (Section.Ports a) = (_, (record { width = 0 }, zero-le, refl))
some_due (Section.Registers a) = (_, (record { width = 0; cells = 0; mode = Enforced; floor = None }, (zero-le, zero-le, tt), refl))
some_due (Section.States a) = (_, (record { parent = None; mode = Enforced; level = None; first = 0 }, (tt, tt, zero-le), refl))
some_due (Section.Expressions a) = (_, (record { op = Constant; a = 0; b = None }, (zero-le, tt), refl))
some_due (Section.Commands a) = (_, (record { action = Set; x = None; i = None; e = None; next = None; alt = None }, (tt, tt, tt, tt, tt), refl))
some_due (Section.Cells n x) = (_, (record { value = 0; level = 0 }, (zero-le, zero-le), refl))
some_due (Section.Inputs n) = (_, (record { value = 0; level = 0 }, (zero-le, zero-le), refl))
some_due Section.End = (_, refl)

-- a text that begins another is shared whole
shared_begun : (a text after : List ℕ) → text ≡ a ++ after → shared a text ≡ length a
shared_begun a text after e =
    let q = ap (λ u. shared u (a ++ after)) (sym (append-nil a)) ∙ shared_append a [] after in
    ap (λ u. shared a u) e ∙ q ∙ omega (arith, shared_none after)

module _ (s : Section) (text : List ℕ) where
  -- a line that is due is the key and what follows it
  apart_at : (p : Step) → Goes s p → write p.line ≡ due_key s ++ values p.line
  apart_at p g = ap (λ u. u ++ values p.line) (keyed s p g)

  long : (p : Step) → Goes s p → length (write p.line) ≡ length (due_key s) + length (values p.line)
  long p g = ap length (apart_at p g) ∙ length-append (due_key s) (values p.line)

  -- no line that is due stands here
  stopped : (left : ℕ) → Leaves (Goes s) (λ p. write p.line) text left → Due s text (Err left)
  stopped left h =
      let st = h.2 in (
        h.0,
        h.1,
        record {
          some = st.some;
          most = st.most;
          none = λ p after g x. omega (arith, st.none p g, shared_begun (write p.line) text after x.written);
        },
      )

  -- the key is there, and a line other than the end
  pub valued : (value : List ℕ) (r : Result (Step × Bor (List ℕ)) ℕ) → 0 < length (due_key s) → text ≡ due_key s ++ value → Reads (Goes s) (λ p. values p.line) value r → Due s text r
  valued value (Ok q) some e h = (
    h.0,
    record {
      written =
          e ∙ ap (λ u. due_key s ++ u) h.1 ∙ sym (append_assoc (due_key s) (values q.0.line) q.1.now)
          ∙ ap (λ u. u ++ q.1.now) (sym (apart_at q.0 h.0));
      nothing = λ x. absurd (omega (arith, some, ap (λ (y : Section). length (due_key y)) (end_section s q.0 h.0 x)));
    },
  )
  valued value (Err left) some e h =
      let st = h.2 in
      let at : (p : Step) → Goes s p → shared (write p.line) text ≡ length (due_key s) + shared (values p.line) value =
      λ p g.
      ap (λ u. shared u text) (apart_at p g) ∙ ap (λ u. shared (due_key s ++ values p.line) u) e
      ∙ shared_append (due_key s) (values p.line) value in
      stopped left (
        length (due_key s) + h.0,
        omega (arith, h.1, ap length e, length-append (due_key s) value),
        record {
          some = (st.some.0, st.some.1, at st.some.0 st.some.1 ∙ ap (λ n. length (due_key s) + n) st.some.2);
          most = λ p g. omega (arith, at p g, st.most p g);
          none = λ p g. omega (arith, at p g, long p g, st.none p g);
        },
      )

  -- another key, or none
  pub unkeyed : (k : List ℕ) (left : ℕ) → k ≡ due_key s → Strips k text (Err left) → Due s text (Err left)
  unkeyed k left is strips =
      let h = subst (λ u. Strips u text (Err left)) is strips in
      let at : (p : Step) → Goes s p → shared (write p.line) text ≡ shared (due_key s) text =
      λ p g. ap (λ u. shared u text) (apart_at p g) ∙ shared_short (due_key s) (values p.line) text h.1 in
      let due = some_due s in
      stopped left (
        shared (due_key s) text,
        h.0,
        record {
          some = (due.0, due.1, at due.0 due.1);
          most = λ p g. omega (arith, at p g);
          none = λ p g. omega (arith, at p g, long p g, h.1);
        },
      )

-- more text, where the end is due
pub past_end : (text : List ℕ) → 0 < length text → Due Section.End text (Err (length text))
past_end text more = (
  0,
  omega arith,
  record {
    some = (record { line = Line.End; next = Section.End }, refl, shared_none text);
    most = λ p g. omega (arith, ap (λ (q : Step). shared (write q.line) text) g, shared_none text);
    none =
        λ p after g x.
        let at : ends p.line ≡ true = ap (λ (q : Step). ends q.line) g in
        let nil : write p.line ≡ [] = ap (λ (q : Step). write q.line) g in
        omega (arith, more, ap length x.written, length-append (write p.line) after, ap length nil, ap length (x.nothing at));
  },
)

-- the cells counted so far do not grow by a passed section
few_inputs : (n : ℕ) → cells_so_far (inputs n) ≤ 0
few_inputs n = grind arith

module _ (p : Plan) where
  few_cells : (n : ℕ) → cells_so_far (cells p.head n) ≤ 0
  few_cells n = grind (arith, few_inputs)

  few_commands : (n : ℕ) → cells_so_far (commands p n) ≤ 0
  few_commands n = grind (arith, few_cells)

  few_expressions : (n : ℕ) → cells_so_far (expressions p n) ≤ 0
  few_expressions n = grind (arith, few_commands)

  few_states : (n : ℕ) → cells_so_far (states p n) ≤ 0
  few_states n = grind (arith, few_expressions)

  few_registers : (n : ℕ) → cells_so_far (registers p n) ≤ p.cells
  few_registers n = grind (arith, few_states)

  few_ports : (n : ℕ) → cells_so_far (ports p n) ≤ p.cells
  few_ports n = grind (arith, few_registers)

few_rows : (n : ℕ) → cells_so_far (rows n) ≤ 0
few_rows n = grind arith

-- a line that is not the end takes some bytes
some_text : (l : Line) → cond (ends l) 0 1 ≤ length (key l)
some_text (Line.Levels n) = omega arith
some_text (Line.Row n) = omega arith
some_text (Line.Head h) = omega arith
some_text (Line.Port p) = omega arith
some_text (Line.Register r) = omega arith
some_text (Line.State s) = omega arith
some_text (Line.Expression x) = omega arith
some_text (Line.Command c) = omega arith
some_text (Line.Cell c) = omega arith
some_text (Line.Input i) = omega arith
some_text Line.End = omega arith

-- one line counts less than 2 ^ 32 cells, and the end none
abbrev Few : Section → Step → Type 0
Few s p = cells_so_far p.next ≤ cells_so_far s + cond (ends p.line) 0 1 * 2 ^ 32

few : (s : Section) (p : Step) → Goes s p → Few s p
few Section.Levels p g = subst (Few Section.Levels) (sym g.2) (omega (arith, few_rows g.0))
few (Section.Rows n) p g = subst (Few (Section.Rows n)) (sym g.2) (omega (arith, few_rows (n - 1)))
few Section.Head p g = subst (Few Section.Head) (sym g.2) (omega (arith, few_ports (planned g.0) g.0.ports))
few (Section.Ports a) p g = subst (Few (Section.Ports a)) (sym g.2) (omega (arith, few_ports a.plan (a.left - 1)))
few (Section.Registers a) p g = subst (Few (Section.Registers a)) (sym g.2) (omega (arith, few_registers (counted a.plan g.0) (a.left - 1), g.1.1))
few (Section.States a) p g = subst (Few (Section.States a)) (sym g.2) (omega (arith, few_states a.plan (a.left - 1)))
few (Section.Expressions a) p g = subst (Few (Section.Expressions a)) (sym g.2) (omega (arith, few_expressions a.plan (a.left - 1)))
few (Section.Commands a) p g = subst (Few (Section.Commands a)) (sym g.2) (omega (arith, few_commands a.plan (a.left - 1)))
few (Section.Cells n x) p g = subst (Few (Section.Cells n x)) (sym g.2) (omega (arith, few_cells (planned x) (n - 1)))
few (Section.Inputs n) p g = subst (Few (Section.Inputs n)) (sym g.2) (omega (arith, few_inputs (n - 1)))
few Section.End p g = subst (Few Section.End) (sym g) (omega arith)

-- what a line takes and counts
pub moved : (s : Section) (text : List ℕ) (q : Step × Bor (List ℕ)) → Due s text (Ok q) → (length q.1.now + cond (ends q.0.line) 0 1 ≤ length text) × (cells_so_far q.0.next ≤ cells_so_far s + cond (ends q.0.line) 0 1 * 2 ^ 32)
moved s text q h = (
  omega (arith, some_text q.0.line, ap length h.1.written, length-append (write q.0.line) q.1.now, length-append (key q.0.line) (values q.0.line)),
  few s q.0 h.0,
)
