-- What a design that breaks no rule keeps: its sizes, and which records its links name. Assumes nothing.
use Rattle.std.proofs.Common.{◌≡◌, ℕ, ◌+◌, ◌<◌, ◌≤◌, Bool, true, false, cond, not, List, length, take, is_some, Some, None, Option, refl, arith, length-take-le}
use Rattle.std.proofs.lemmas.Bool.{not-false}
use Rattle.lattice.specs.Faults.{Refusal}
use Rattle.lattice.specs.Model.{Joins}
use Rattle.std.proofs.lemmas.Bool.Decides.{nat_tests}
use Rattle.search.proofs.Firsts.{first_before}
use Rattle.rules.specs.Rules.{◌⊳◌, sweep, ports_kind, registers_kind, states_kind, expressions_kind, commands_kind, cells_below, bad_register, sizes, linked, levels, placed, ended, shallow, state_linked, broken}
use Rattle.shape.specs.Shape.{Design, register_at}
use Rattle.design.specs.Verdict.{short_table, short, cut, well_formed, Exact}

pub neither : (a b : Option Refusal) → (a ⊳ b) ≡ None → (a ≡ None) × (b ≡ None)
neither None b e = (refl, e)
neither (Some r) b e = cc

-- of five causes, each
five : (a b c d e : Option Refusal) → (a ⊳ b ⊳ c ⊳ d ⊳ e) ≡ None → (a ≡ None) × (b ≡ None) × (c ≡ None) × (d ≡ None) × (e ≡ None)
five None None None None e h = (refl, refl, refl, refl, h)
five None None None (Some r) e h = cc
five None None (Some r) d e h = cc
five None (Some r) c d e h = cc
five (Some r) b c d e h = cc

-- of six causes, all but the third
but_third : (a b c d e f : Option Refusal) → (a ⊳ b ⊳ c ⊳ d ⊳ e ⊳ f) ≡ None → (a ⊳ b ⊳ d ⊳ e ⊳ f) ≡ None
but_third None None None d e f h = h
but_third None None (Some r) d e f h = cc
but_third None (Some r) c d e f h = cc
but_third (Some r) b c d e f h = cc

pub no_cause : (b : Bool) (r : Refusal) → cond b (Some r) None ≡ None → b ≡ false
no_cause true r e = cc
no_cause false r e = refl

pub none_breaks : (rule kind n : ℕ) (breaks : ℕ → Bool) → sweep rule kind n breaks ≡ None → (j : ℕ) → j < n → breaks j ≡ false
none_breaks rule kind n breaks e j l = first_before breaks n j (grind (arith, nat_tests))

pub record Sized (d : Design) : Type 0 where
  pub some_states : 2 ≤ d.head.states
  pub few_states : d.head.states ≤ 32
  pub few_registers : d.head.registers ≤ 32
  pub few_commands : d.head.commands ≤ 256

-- the rules without the one of levels, of a design that breaks none
pub formed_if : (m : Joins) (d : Design) → broken m d ≡ None → well_formed d ≡ None
formed_if m d e = but_third (sizes d) (linked d) (levels m d) (placed d) (ended d) (shallow d) e

-- as an accepted design states it
pub formed_none : (d : Design) → is_some (well_formed d) ≡ false → well_formed d ≡ None
formed_none d = none (well_formed d)
  where
    none : (o : Option Refusal) → is_some o ≡ false → o ≡ None
    none None e = refl
    none (Some r) e = cc

pub formed_parts : (d : Design) → well_formed d ≡ None → (sizes d ≡ None) × (linked d ≡ None) × (placed d ≡ None) × (ended d ≡ None) × (shallow d ≡ None)
formed_parts d e = five (sizes d) (linked d) (placed d) (ended d) (shallow d) e

pub sized_if : (d : Design) → sizes d ≡ None → Sized d
sized_if d e = record {
  some_states = grind (arith, nat_tests);
  few_states = grind (arith, nat_tests);
  few_registers = grind (arith, nat_tests);
  few_commands = grind (arith, nat_tests);
}

pub states_linked : (d : Design) → linked d ≡ None → (s : ℕ) → s < d.head.states → state_linked d s ≡ true
states_linked d e s l =
    let states = (neither _ _ (neither _ _ (neither _ _ e).0).0).1 in
    not-false (state_linked d s) (none_breaks 4 states_kind d.head.states (λ n. not (state_linked d n)) states s l)

-- all cells together are few
pub few_cells : (d : Design) → sizes d ≡ None → (x : ℕ) → x < d.head.registers → cells_below d x + (register_at d x).cells ≤ 1024
few_cells d e x l = within (none_breaks 3 registers_kind d.head.registers (bad_register d) (neither _ _ e).1 x l)
  where
    within : bad_register d x ≡ false → cells_below d x + (register_at d x).cells ≤ 1024
    within kept = grind (arith, nat_tests)

-- tables that are long enough, cut to what the head says
cut_long : {X : Type 0} (kind n : ℕ) (xs : List X) → short_table kind (length xs) n ≡ None → length (take n xs) ≡ n
cut_long kind n xs e = length-take-le n xs (grind (arith, nat_tests))

-- lent tables that are long enough, and d cut from them
pub exact_if : (lent d : Design) → short lent ≡ None → d ≡ cut lent → Exact d
exact_if lent d e cuts =
    let whole = five _ _ _ _ _ e in
    rw cuts (
      cut_long ports_kind lent.head.ports lent.ports whole.0,
      cut_long registers_kind lent.head.registers lent.registers whole.1,
      cut_long states_kind lent.head.states lent.states whole.2,
      cut_long expressions_kind lent.head.expressions lent.expressions whole.3,
      cut_long commands_kind lent.head.commands lent.commands whole.4,
    )
