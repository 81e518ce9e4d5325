-- Worked cases of the rules: what the definitions give, beside what is due. Assumes nothing.
use Rattle.std.specs.Prelude.{◌≡◌, ℕ, zero, suc, ◌+◌, List, [], ◌∷◌, ◌++◌, map, length, replicate, Some, None, codes, Option}
use Rattle.std.specs.List.{range_with_len, AllByRecursion}
use Rattle.lattice.specs.Faults.{Refusal, refuse}
use Rattle.lattice.specs.Model.{Model}
use Rattle.lattice.specs.Pairs.{pair_model, reversed}
use Rattle.records.specs.declared.Action.TheVariants.{Set, Tag, If, Goto, Fall}
use Rattle.records.specs.declared.Command.{Command}
use Rattle.records.specs.declared.Expression.{Expression}
use Rattle.records.specs.declared.Labeled.{Labeled}
use Rattle.records.specs.declared.Mode.TheVariants.{Enforced, Dynamic}
use Rattle.records.specs.declared.Operator.TheVariants.{Constant, Input, Read, Add}
use Rattle.records.specs.declared.Port.{Port}
use Rattle.records.specs.declared.Register.{Register}
use Rattle.records.specs.declared.Report.{Report}
use Rattle.records.specs.declared.State.{State}
use Rattle.shape.specs.Shape.{Design}
use Rattle.design.specs.Verdict.{verdict as accept_verdict}
use Rattle.machine.specs.Cycle.{Running, running, cycle}
use Rattle.actions.specs.Memory.{memory_of, labeled, no_pointer}
use Rattle.table.specs.Rows.{table_model, table_verdict, rows_of}

-- the last is of a design that runs: what acceptance says of it, and its memory and reports after a cycle
pub data Outcome : Type 0 where
  level : ℕ → Outcome
  verdict : Option Refusal → Outcome
  runs : Option Refusal → Running → Outcome

pub record Case : Type 0 where
  pub name : List ℕ
  pub given : Outcome
  pub due : Outcome

-- the lattice of a list of rows
abbrev table : ℕ → List ℕ → Model
table n rows = table_model n (rows_of rows)

-- two levels, 0 flowing to 1
abbrev two : Model
two = table 2 (3 ∷ 2 ∷ [])

abbrev join_of : Model → ℕ → ℕ → Outcome
join_of m a b = level (m.joins.join a b)

-- A design of n states below the root, one below the other: each falls to the next, and the last goes to itself.
abbrev tower_state : ℕ → State
tower_state zero = record { parent = None; mode = Enforced; level = Some 0; first = 0 }
tower_state (suc s) = record { parent = Some s; mode = Dynamic; level = None; first = suc s }

abbrev fall_command : Command
fall_command = record { action = Fall; x = None; i = None; e = None; next = None; alt = None }

abbrev goto_command : ℕ → Command
goto_command s = record { action = Goto; x = Some s; i = None; e = None; next = None; alt = None }

abbrev tower : ℕ → Design
tower n =
    record {
      head = record { ports = 0; registers = 1; states = n + 1; expressions = 0; commands = n + 1; cycles = 0 };
      ports = [];
      registers = record { width = 8; cells = 1; mode = Dynamic; floor = None } ∷ [];
      states = map tower_state (range_with_len 0 (n + 1));
      expressions = [];
      commands = replicate n fall_command ++ goto_command n ∷ [];
    }

abbrev accept_of : Design → Outcome
accept_of d = verdict (accept_verdict two.joins d)

-- the head of a design counts its records
abbrev design_of : List Port → List Register → List State → List Expression → List Command → Design
design_of ports registers states expressions commands =
    record {
      head =
          record {
            ports = length ports;
            registers = length registers;
            states = length states;
            expressions = length expressions;
            commands = length commands;
            cycles = 1;
          };
      ports = ports;
      registers = registers;
      states = states;
      expressions = expressions;
      commands = commands;
    }

abbrev constant : ℕ → Expression
constant n = record { op = Constant; a = n; b = None }

abbrev input : ℕ → Expression
input p = record { op = Input; a = p; b = None }

abbrev read : ℕ → Expression
read x = record { op = Read; a = x; b = None }

abbrev add : ℕ → ℕ → Expression
add a b = record { op = Add; a = a; b = Some b }

abbrev set_command : ℕ → ℕ → (next alt : Option ℕ) → Command
set_command x e next alt = record { action = Set; x = Some x; i = None; e = Some e; next = next; alt = alt }

abbrev tag_command : ℕ → ℕ → (next : Option ℕ) → Command
tag_command x k next = record { action = Tag; x = Some x; i = None; e = Some k; next = next; alt = None }

abbrev if_command : ℕ → (then_branch else_branch next : Option ℕ) → Command
if_command e then_branch else_branch next = record { action = If; x = then_branch; i = else_branch; e = Some e; next = next; alt = None }

-- The root falls to state 1, whose chain begins with command 1.
abbrev one_below : List State
one_below = tower_state 0 ∷ tower_state 1 ∷ []

-- A bench: a port, an enforced register 0 with floor 0, and a dynamic register 1. Its input is a 1 at level 1.
abbrev bench : List State → List Expression → List Command → Design
bench =
    design_of (record { width = 8 } ∷ [])
    (record { width = 8; cells = 1; mode = Enforced; floor = Some 0 } ∷ record { width = 8; cells = 1; mode = Dynamic; floor = None } ∷ [])

abbrev bench_inputs : List (Labeled ℕ)
bench_inputs = labeled 1 1 ∷ []

-- State 1 is the current child of the root, at level k; the states below the root are leaves.
abbrev pointers_at : ℕ → ℕ → List (Labeled (Option ℕ))
pointers_at k leaves = labeled (Some 1) k ∷ replicate leaves no_pointer

-- a cycle from state 1, its pointer at level 0
abbrev run_of : Design → (inputs cells : List (Labeled ℕ)) → (leaves : ℕ) → Outcome
run_of d inputs cells leaves =
    runs (accept_verdict two.joins d) (cycle two.joins d inputs (memory_of cells (pointers_at 0 leaves)))

abbrev ran : List (Labeled ℕ) → List (Labeled (Option ℕ)) → List Report → Outcome
ran cells pointers reports = runs None (running (memory_of cells pointers) reports)

-- the enforced register is set to the input
abbrev set_high : Design
set_high = bench one_below (input 0 ∷ []) (fall_command ∷ set_command 0 0 (Some 2) None ∷ goto_command 1 ∷ [])

-- or else the dynamic register to 7
abbrev set_high_else : Design
set_high_else =
    bench one_below (input 0 ∷ constant 7 ∷ [])
    (fall_command ∷ set_command 0 0 (Some 2) (Some 3) ∷ goto_command 1 ∷ set_command 1 1 None None ∷ [])

abbrev set_constant : Design
set_constant = bench one_below (constant 3 ∷ []) (fall_command ∷ set_command 0 0 (Some 2) None ∷ goto_command 1 ∷ [])

-- where the enforced register is not 0, the dynamic one is set to 7
abbrev set_if : Design
set_if =
    bench one_below (read 0 ∷ constant 7 ∷ [])
    (fall_command ∷ if_command 0 (Some 2) None (Some 3) ∷ set_command 1 1 None None ∷ goto_command 1 ∷ [])

abbrev tag_to : ℕ → Design
tag_to k = bench one_below [] (fall_command ∷ tag_command 0 k (Some 2) ∷ goto_command 1 ∷ [])

-- where the input is not 0, the enforced register is tagged 1
abbrev tag_if : Design
tag_if =
    bench one_below (input 0 ∷ [])
    (fall_command ∷ if_command 0 (Some 2) None (Some 3) ∷ tag_command 0 1 None ∷ goto_command 1 ∷ [])

-- where the input is not 0, state 1 goes to state 2, which is enforced at 0; else it stays
abbrev goto_if : Design
goto_if =
    bench (one_below ++ record { parent = Some 0; mode = Enforced; level = Some 0; first = 4 } ∷ []) (input 0 ∷ [])
    (fall_command ∷ if_command 0 (Some 2) (Some 3) None ∷ goto_command 2 ∷ goto_command 1 ∷ goto_command 2 ∷ [])

abbrev counter : Design
counter =
    design_of [] (record { width = 8; cells = 1; mode = Dynamic; floor = None } ∷ []) one_below (read 0 ∷ constant 1 ∷ add 0 1 ∷ [])
    (fall_command ∷ set_command 0 2 (Some 2) None ∷ goto_command 1 ∷ [])

abbrev pub cases : List Case
cases =
    record { name = codes "rows 15, 10, 12, 8: the join of 1 and 2"; given = join_of (table 4 (15 ∷ 10 ∷ 12 ∷ 8 ∷ [])) 1 2; due = level 3 }
    ∷ record { name = codes "two levels paired with two: the join of 2 and 1"; given = join_of (pair_model two two) 2 1; due = level 3 }
    ∷ record { name = codes "two levels reversed: the join of 0 and 1"; given = join_of (reversed two) 0 1; due = level 0 }
    ∷ record { name = codes "rows 1, 2: no join"; given = verdict (table_verdict 2 (1 ∷ 2 ∷ [])); due = verdict (refuse 10 (0 ∷ 1 ∷ [])) }
    ∷ record { name = codes "a state 8 below the root"; given = accept_of (tower 8); due = verdict None }
    ∷ record { name = codes "a state 9 below the root"; given = accept_of (tower 9); due = verdict (refuse 8 (2 ∷ 9 ∷ [])) }
    ∷ record {
      name = codes "an enforced cell at 0, set from 1: it keeps its value";
      given = run_of set_high bench_inputs (labeled 5 0 ∷ labeled 2 1 ∷ []) 1;
      due = ran (labeled 5 0 ∷ labeled 2 1 ∷ []) (pointers_at 0 1) (record { command = 1; level = 0 } ∷ []);
    }
    ∷ record {
      name = codes "the same with an alt: it runs";
      given = run_of set_high_else bench_inputs (labeled 5 0 ∷ labeled 2 1 ∷ []) 1;
      due = ran (labeled 5 0 ∷ labeled 7 0 ∷ []) (pointers_at 0 1) (record { command = 1; level = 0 } ∷ []);
    }
    ∷ record {
      name = codes "an enforced cell at 1, set to 3";
      given = run_of set_constant bench_inputs (labeled 5 1 ∷ labeled 2 1 ∷ []) 1;
      due = ran (labeled 3 1 ∷ labeled 2 1 ∷ []) (pointers_at 0 1) [];
    }
    ∷ record {
      name = codes "a branch not taken on a 0 at 1: what it sets is raised";
      given = run_of set_if bench_inputs (labeled 0 1 ∷ labeled 2 0 ∷ []) 1;
      due = ran (labeled 0 1 ∷ labeled 2 1 ∷ []) (pointers_at 0 1) [];
    }
    ∷ record {
      name = codes "a tag from 1 to 0: the value becomes 0";
      given = run_of (tag_to 0) bench_inputs (labeled 9 1 ∷ labeled 2 1 ∷ []) 1;
      due = ran (labeled 0 0 ∷ labeled 2 1 ∷ []) (pointers_at 0 1) [];
    }
    ∷ record {
      name = codes "a tag from 0 to 1: the value stays";
      given = run_of (tag_to 1) bench_inputs (labeled 9 0 ∷ labeled 2 1 ∷ []) 1;
      due = ran (labeled 9 1 ∷ labeled 2 1 ∷ []) (pointers_at 0 1) [];
    }
    ∷ record {
      name = codes "a tag in context 1, the floor at 0";
      given = run_of tag_if bench_inputs (labeled 9 0 ∷ labeled 2 0 ∷ []) 1;
      due = ran (labeled 9 0 ∷ labeled 2 0 ∷ []) (pointers_at 0 1) (record { command = 2; level = 1 } ∷ []);
    }
    ∷ record {
      name = codes "a goto in context 1 to a state at 0";
      given = run_of goto_if bench_inputs (labeled 9 0 ∷ labeled 2 0 ∷ []) 2;
      due = ran (labeled 9 0 ∷ labeled 2 0 ∷ []) (pointers_at 1 2) (record { command = 2; level = 1 } ∷ []);
    }
    ∷ record {
      name = codes "width 8: 255 at 1, set to itself + 1";
      given = run_of counter [] (labeled 255 1 ∷ []) 1;
      due = ran (labeled 0 1 ∷ []) (pointers_at 0 1) [];
    }
    ∷ []

abbrev pub Holds : Case → Type 0
Holds c = c.given ≡ c.due

-- every case comes out as due
abbrev pub Marked : Type 0
Marked = AllByRecursion Holds cases
