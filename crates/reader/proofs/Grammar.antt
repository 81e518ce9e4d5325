-- The pieces of each kind of line, joined. Assumes nothing.
use Rattle.std.proofs.Common.{◌≡◌, ℕ, ◌+◌, ◌^◌, ◌<◌, ◌≤◌, ◌⊎◌, List, [], ◌∷◌, ◌++◌, length, IsErrAnd, None, codes, decimal, Option, Result, sym, refl, ap, ◌∙◌, subst, inl, inr, ⊎_elim, suc-le-suc, zero-le, arith, lit<, length-append, Bor}
use Rattle.records.specs.declared.Head.{Head}
use Rattle.records.specs.declared.Port.{Port}
use Rattle.records.specs.declared.Register.{Register}
use Rattle.records.specs.declared.State.{State}
use Rattle.records.specs.declared.Expression.{Expression}
use Rattle.records.specs.declared.Command.{Command}
use Rattle.records.specs.declared.Labeled.{Labeled}
use Rattle.records.specs.declared.Mode.{Mode}
use Rattle.records.specs.declared.Mode.TheVariants.{Enforced}
use Rattle.records.specs.declared.Operator.{Operator}
use Rattle.records.specs.declared.Operator.TheVariants.{Constant}
use Rattle.records.specs.declared.Action.{Action}
use Rattle.records.specs.declared.Action.TheVariants.{Set}
use Rattle.reader.specs.declared.sections.Line.{Line}
use Rattle.reader.specs.declared.sections.Section.{Section}
use Rattle.reader.specs.declared.sections.Step.{Step}
use Rattle.reader.specs.Format.{largest, Optional, optional, mode, operator, action, values, Of, HeadFits, PortFits, RegisterFits, StateFits, ExpressionFits, CommandFits, LabeledFits}
use Rattle.reader.specs.Pieces.{shared, Leaves, Reads, Parting}
use Rattle.reader.proofs.Shared.{shared_append}
use Rattle.reader.proofs.Sequences.{Apart, Free, Both, joint, shared_parts, fails_first, fails_second, reads_both, exit}
use Rattle.reader.proofs.NumberPieces.{number_free, optional_free}
use Rattle.reader.proofs.Choosing.{mode_free, operator_free, action_free}

-- Texts of values, none of which begins another: how the reading of one of them may stop in a text, piece by piece, and how
-- it passes through.
pub record Piece (V : Type 0) : Type 1 where
  pub ok : V → Type 0
  pub text : V → List ℕ
  pub free : Free ok text
  pub some : V
  pub fits : ok some
  pub Exits : List ℕ → ℕ → Type 0
  pub stops : (s : List ℕ) (left : ℕ) → Exits s left → Leaves ok text s left
  pub Passes : List ℕ → V → List ℕ → Type 0
  pub reads : (s : List ℕ) (v : V) (t : List ℕ) → Passes s v t → ok v × (s ≡ text v ++ t)

-- a piece that is read in one
abbrev pub one : {V : Type 0} (ok : V → Type 0) (text : V → List ℕ) → Free ok text → (v : V) → ok v → Piece V
one ok text free v fits =
    record {
      ok = ok;
      text = text;
      free = free;
      some = v;
      fits = fits;
      Exits = λ s left. Leaves ok text s left;
      stops = λ s left h. h;
      Passes = λ s v t. ok v × (s ≡ text v ++ t);
      reads = λ s v t h. h;
    }

module _ {A B : Type 0} (ok_a : A → Type 0) (a : A → List ℕ) (ok_b : B → Type 0) (b : B → List ℕ) where
  pub both_free : Free ok_a a → Free ok_b b → Free (Both ok_a ok_b) (joint a b)
  both_free f g v w okv okw =
      let long : (x : A) (y : B) → length (a x ++ b y) ≡ length (a x) + length (b y) = λ x y. length-append (a x) (b y) in
      ⊎_elim
      (λ same.
      let e : shared (a v.0 ++ b v.1) (a w.0 ++ b w.1) ≡ length (a w.0) + shared (b v.1) (b w.1) =
      ap (λ (x : A). shared (a x ++ b v.1) (a w.0 ++ b w.1)) same ∙ shared_append (a w.0) (b v.1) (b w.1) in
      ⊎_elim
      (λ same'. inl (ap {B = A × B} (λ (x : A). (x, v.1)) same ∙ ap {B = A × B} (λ (y : B). (w.0, y)) same'))
      (λ apart. inr (omega (arith, e, apart.0, long v.0 v.1, ap (λ (x : A). length (a x)) same), omega (arith, e, apart.1, long w.0 w.1)))
      (g v.1 w.1 okv.1 okw.1))
      (λ apart.
      let e = shared_parts (a v.0) (a w.0) (b v.1) (b w.1) apart in
      inr (omega (arith, e, apart.0, long v.0 v.1), omega (arith, e, apart.1, long w.0 w.1)))
      (f v.0 w.0 okv.0 okw.0)

abbrev pub as_one : {V : Type 0} → Piece V → Piece V
as_one p = one p.ok p.text p.free p.some p.fits

-- two pieces, the second from where the first ends
abbrev pub pair : {A B : Type 0} → Piece A → Piece B → Piece (A × B)
pair {A} {B} p q =
    record {
      ok = Both p.ok q.ok;
      text = joint p.text q.text;
      free = both_free p.ok p.text q.ok q.text p.free q.free;
      some = (p.some, q.some);
      fits = (p.fits, q.fits);
      Exits = λ s left. p.Exits s left ⊎ ((x : A) × (r : List ℕ) × p.Passes s x r × q.Exits r left);
      stops =
          λ s left h.
          ⊎_elim
          (λ first. fails_first p.ok p.text q.ok q.text s left (p.stops s left first) q.some q.fits)
          (λ second.
          let g = p.reads s second.0 second.1 second.2 in
          fails_second p.ok p.text q.ok q.text s left p.free second.0 g.0 second.1 g.1 (q.stops second.1 left second.3))
          h;
      Passes = λ s v t. (r : List ℕ) × p.Passes s v.0 r × q.Passes r v.1 t;
      reads =
          λ s v t h.
          let g = p.reads s v.0 h.0 h.1 in
          let g' = q.reads h.0 v.1 t h.2 in
          ((g.0, g'.0), reads_both p.ok p.text q.ok q.text s v.0 h.0 v.1 t g.1 g'.1);
    }

-- A record whose fields are the values of a piece.
pub record Made (P V : Type 0) : Type 1 where
  pub parts : Piece P
  pub ok : V → Type 0
  pub to : P → V
  pub from : V → P
  pub fits_to : (x : P) → parts.ok x → ok (to x)
  pub fits_from : (v : V) → ok v → parts.ok (from v)
  pub there : (x : P) → from (to x) ≡ x
  pub back : (v : V) → to (from v) ≡ v

module _ {P V : Type 0} (m : Made P V) where
  abbrev pub made_text : V → List ℕ
  made_text v = m.parts.text (m.from v)

  pub made_free : Free m.ok made_text
  made_free v w okv okw =
      ⊎_elim
      (λ same. inl (sym (m.back v) ∙ ap m.to same ∙ m.back w))
      inr
      (m.parts.free (m.from v) (m.from w) (m.fits_from v okv) (m.fits_from w okw))

  pub made_stops : (s : List ℕ) (left : ℕ) → m.parts.Exits s left → Leaves m.ok made_text s left
  made_stops s left h =
      let l = m.parts.stops s left h in
      let st = l.2 in (
        l.0,
        l.1,
        record {
          some = (m.to st.some.0, m.fits_to st.some.0 st.some.1, ap (λ (x : P). shared (m.parts.text x) s) (m.there st.some.0) ∙ st.some.2);
          most = λ v ok. st.most (m.from v) (m.fits_from v ok);
          none = λ v ok. st.none (m.from v) (m.fits_from v ok);
        },
      )

  pub made_reads : (s : List ℕ) (v : V) (t : List ℕ) → m.parts.Passes s (m.from v) t → m.ok v × (s ≡ made_text v ++ t)
  made_reads s v t h =
      let g = m.parts.reads s (m.from v) t h in
      (subst m.ok (m.back v) (m.fits_to (m.from v) g.0), g.1)

abbrev pub made : {P V : Type 0} → Made P V → Piece V
made m =
    record {
      ok = m.ok;
      text = made_text m;
      free = made_free m;
      some = m.to m.parts.some;
      fits = m.fits_to m.parts.some m.parts.fits;
      Exits = m.parts.Exits;
      stops = made_stops m;
      Passes = λ s v t. m.parts.Passes s (m.from v) t;
      reads = made_reads m;
    }

-- The pieces that stand in a line: a value, and what follows it.
abbrev pub number_piece : (limit : ℕ) (after : List ℕ) → limit < 2 ^ 64 → Parting after → Piece ℕ
number_piece limit after h p = one (λ n. n ≤ limit) (λ n. decimal n ++ after) (number_free after limit p h) 0 zero-le

abbrev pub optional_piece : (after : List ℕ) → Parting after → Piece (Option ℕ)
optional_piece after p = one Optional (λ o. optional o ++ after) (optional_free after p) None tt

abbrev pub mode_piece : List ℕ → Piece Mode
mode_piece after = one (λ _. Unit {0}) (λ m. mode m ++ after) (mode_free after) Enforced tt

abbrev pub operator_piece : List ℕ → Piece Operator
operator_piece after = one (λ _. Unit {0}) (λ o. operator o ++ after) (operator_free after) Constant tt

abbrev pub action_piece : List ℕ → Piece Action
action_piece after = one (λ _. Unit {0}) (λ a. action a ++ after) (action_free after) Set tt

-- the end of a line, and the beginning of the next pair
abbrev pub lf : List ℕ
lf = 10 ∷ []

pub lf_parts : Parting lf
lf_parts = record { some = lit< tt; first = lit< tt }

pub space_parts : (t : List ℕ) → Parting (32 ∷ t)
space_parts t = record { some = suc-le-suc zero-le; first = lit< tt }

-- a number and the end of the line; a number and the next key
abbrev pub last_number : Piece ℕ
last_number = number_piece largest lf (lit< tt) lf_parts

abbrev pub number : List ℕ → Piece ℕ
number next = number_piece largest (32 ∷ next) (lit< tt) (space_parts next)

abbrev pub last_optional : Piece (Option ℕ)
last_optional = optional_piece lf lf_parts

abbrev pub optional_number : List ℕ → Piece (Option ℕ)
optional_number next = optional_piece (32 ∷ next) (space_parts next)

-- A kind of line: the texts of its pieces are those of its lines.
pub record Kind (V : Type 0) : Type 1 where
  pub piece : Piece V
  pub line : V → Line
  pub same : (v : V) → values (line v) ≡ piece.text v

module _ {V : Type 0} (k : Kind V) (next : V → Section) where
  abbrev pub Lines : Step → Type 0
  Lines = Of k.line k.piece.ok next

  at : (p : Step) → (g : Lines p) → values p.line ≡ k.piece.text g.0
  at p g = ap (λ (q : Step). values q.line) g.2 ∙ k.same g.0

  line_stops : (s : List ℕ) (left : ℕ) → k.piece.Exits s left → Leaves Lines (λ p. values p.line) s left
  line_stops s left h =
      let l = k.piece.stops s left h in
      let st = l.2 in (
        l.0,
        l.1,
        record {
          some = (
            record { line = k.line st.some.0; next = next st.some.0 },
            (st.some.0, st.some.1, refl),
            ap (λ t. shared t s) (k.same st.some.0) ∙ st.some.2,
          );
          most = λ p ok. subst (λ t. shared t s ≤ l.0) (sym (at p ok)) (st.most ok.0 ok.1);
          none = λ p ok. subst (λ t. shared t s < length t) (sym (at p ok)) (st.none ok.0 ok.1);
        },
      )

  -- the exit of a `?` in the reader of a line, and its end
  pub line_exit : (s : List ℕ) (left : ℕ) (r : Result (Step × Bor (List ℕ)) ℕ) → IsErrAnd r (λ y. y ≡ left) → k.piece.Exits s left → Reads Lines (λ p. values p.line) s r
  line_exit s left r e h = exit (Reads Lines (λ p. values p.line) s) left r e (line_stops s left h)

  pub line_gives : (s : List ℕ) (v : V) (t : List ℕ) (after : Section) → k.piece.Passes s v t → after ≡ next v → Lines (record { line = k.line v; next = after }) × (s ≡ values (k.line v) ++ t)
  line_gives s v t after h e =
      let g = k.piece.reads s v t h in (
        (v, g.0, ap (λ (n : Section). record { line = k.line v; next = n }) e),
        g.1 ∙ ap (λ u. u ++ t) (sym (k.same v)),
      )

  -- lines of a kind that differ have values of which neither begins the other
  pub line_free : (p q : Step) → Lines p → Lines q → (p ≡ q) ⊎ Apart (values p.line) (values q.line)
  line_free p q g h =
      ⊎_elim
      (λ same. inl (g.2 ∙ ap {B = Step} (λ (v : V). record { line = k.line v; next = next v }) same ∙ sym h.2))
      (λ apart.
      inr
      (subst (λ (t : List ℕ). Apart t (values q.line)) (sym (at p g)) (subst (λ (t : List ℕ). Apart (k.piece.text g.0) t) (sym (at q h)) apart)))
      (k.piece.free g.0 h.0 g.1 h.1)

-- The kinds of lines.
abbrev pub levels_kind : Kind ℕ
levels_kind = record { piece = last_number; line = Line.Levels; same = λ _. refl }

abbrev pub row_kind : Kind ℕ
row_kind = record { piece = last_number; line = Line.Row; same = λ _. refl }

abbrev head_piece : Piece Head
head_piece =
    made
    (record {
      parts =
          pair (number (codes "registers=")) (pair (number (codes "states=")) (pair (number (codes "expressions=")) (
          pair (number (codes "commands=")) (pair (number (codes "cycles=")) (number_piece 10000 lf (lit< tt) lf_parts)))));
      ok = HeadFits;
      to = λ x. record { ports = x.0; registers = x.1.0; states = x.1.1.0; expressions = x.1.1.1.0; commands = x.1.1.1.1.0; cycles = x.1.1.1.1.1 };
      from = λ v. (v.ports, (v.registers, (v.states, (v.expressions, (v.commands, v.cycles)))));
      fits_to = λ x h. (h.0, h.1.0, h.1.1.0, h.1.1.1.0, h.1.1.1.1.0, h.1.1.1.1.1);
      fits_from = λ v h. (h.0, (h.1, (h.2, (h.3, (h.4, h.5)))));
      there = λ _. refl;
      back = λ _. refl;
    })

abbrev pub head_kind : Kind Head
head_kind = record { piece = head_piece; line = Line.Head; same = λ _. refl }

abbrev port_piece : Piece Port
port_piece =
    made
    (record {
      parts = last_number;
      ok = PortFits;
      to = λ x. record { width = x };
      from = λ v. v.width;
      fits_to = λ x h. h;
      fits_from = λ v h. h;
      there = λ _. refl;
      back = λ _. refl;
    })

abbrev pub port_kind : Kind Port
port_kind = record { piece = port_piece; line = Line.Port; same = λ _. refl }

abbrev register_piece : Piece Register
register_piece =
    made
    (record {
      parts = pair (number (codes "cells=")) (pair (number (codes "mode=")) (pair (mode_piece (codes " floor=")) last_optional));
      ok = RegisterFits;
      to = λ x. record { width = x.0; cells = x.1.0; mode = x.1.1.0; floor = x.1.1.1 };
      from = λ v. (v.width, (v.cells, (v.mode, v.floor)));
      fits_to = λ x h. (h.0, h.1.0, h.1.1.1);
      fits_from = λ v h. (h.0, (h.1, (tt, h.2)));
      there = λ _. refl;
      back = λ _. refl;
    })

abbrev pub register_kind : Kind Register
register_kind = record { piece = register_piece; line = Line.Register; same = λ _. refl }

abbrev state_piece : Piece State
state_piece =
    made
    (record {
      parts = pair (optional_number (codes "mode=")) (pair (mode_piece (codes " level=")) (pair (optional_number (codes "first=")) last_number));
      ok = StateFits;
      to = λ x. record { parent = x.0; mode = x.1.0; level = x.1.1.0; first = x.1.1.1 };
      from = λ v. (v.parent, (v.mode, (v.level, v.first)));
      fits_to = λ x h. (h.0, h.1.1.0, h.1.1.1);
      fits_from = λ v h. (h.0, (tt, (h.1, h.2)));
      there = λ _. refl;
      back = λ _. refl;
    })

abbrev pub state_kind : Kind State
state_kind = record { piece = state_piece; line = Line.State; same = λ _. refl }

abbrev expression_piece : Piece Expression
expression_piece =
    made
    (record {
      parts = pair (operator_piece (codes " a=")) (pair (number (codes "b=")) last_optional);
      ok = ExpressionFits;
      to = λ x. record { op = x.0; a = x.1.0; b = x.1.1 };
      from = λ v. (v.op, (v.a, v.b));
      fits_to = λ x h. (h.1.0, h.1.1);
      fits_from = λ v h. (tt, (h.0, h.1));
      there = λ _. refl;
      back = λ _. refl;
    })

abbrev pub expression_kind : Kind Expression
expression_kind = record { piece = expression_piece; line = Line.Expression; same = λ _. refl }

abbrev command_piece : Piece Command
command_piece =
    made
    (record {
      parts =
          pair (action_piece (codes " x=")) (pair (optional_number (codes "i=")) (pair (optional_number (codes "e=")) (
          pair (optional_number (codes "next=")) (pair (optional_number (codes "alt=")) last_optional))));
      ok = CommandFits;
      to = λ x. record { action = x.0; x = x.1.0; i = x.1.1.0; e = x.1.1.1.0; next = x.1.1.1.1.0; alt = x.1.1.1.1.1 };
      from = λ v. (v.action, (v.x, (v.i, (v.e, (v.next, v.alt)))));
      fits_to = λ x h. (h.1.0, h.1.1.0, h.1.1.1.0, h.1.1.1.1.0, h.1.1.1.1.1);
      fits_from = λ v h. (tt, (h.0, (h.1, (h.2, (h.3, h.4)))));
      there = λ _. refl;
      back = λ _. refl;
    })

abbrev pub command_kind : Kind Command
command_kind = record { piece = command_piece; line = Line.Command; same = λ _. refl }

abbrev pub labeled_piece : Piece (Labeled ℕ)
labeled_piece =
    made
    (record {
      parts = pair (number (codes "level=")) last_number;
      ok = LabeledFits;
      to = λ x. record { value = x.0; level = x.1 };
      from = λ v. (v.value, v.level);
      fits_to = λ x h. h;
      fits_from = λ v h. h;
      there = λ _. refl;
      back = λ _. refl;
    })

abbrev pub cell_kind : Kind (Labeled ℕ)
cell_kind = record { piece = as_one labeled_piece; line = Line.Cell; same = λ _. refl }

abbrev pub input_kind : Kind (Labeled ℕ)
input_kind = record { piece = as_one labeled_piece; line = Line.Input; same = λ _. refl }
