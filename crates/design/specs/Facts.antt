-- What is worked out of an accepted design once and kept beside its records. Assumes nothing.
use Rattle.std.specs.Prelude.{◌≡◌, ℕ, suc, cond, ltb, List, map, None, vec_items, nat_lt, slice_index}
use Rattle.std.specs.List.{range_with_len}
use Rattle.search.specs.First.{first}
use Rattle.rules.specs.Rules.{cells_below}
use Rattle.shape.specs.Shape.{Design, owner_of}
use Rattle.design.specs.Chains.{chain_at, children, descendants, lowest_child, moved, register_reach, pointer_reach}
use Rattle.design.specs.declared.facts.StateFacts.{StateFacts}
use Rattle.design.specs.declared.facts.CommandFacts.{CommandFacts}
use Rattle.design.specs.declared.facts.Facts.{Facts}

abbrev pub state_facts : Design → ℕ → StateFacts
state_facts d s =
    record {
      children = children d s;
      descendants = descendants d s;
      lowest_child = lowest_child d s;
      moved = moved d s;
    }

abbrev pub command_facts : Design → ℕ → CommandFacts
command_facts d k =
    record {
      owner = owner_of d k;
      registers = register_reach d (chain_at d (owner_of d k) k);
      pointers = pointer_reach d (chain_at d (owner_of d k) k);
    }

-- the same, read in a row of each kind
abbrev pub facts_in : (owners registers pointers : List ℕ) → ℕ → CommandFacts
facts_in owners registers pointers k =
    record {
      owner = slice_index owners k;
      registers = slice_index registers k;
      pointers = slice_index pointers k;
    }

-- the register of a cell; the cells of all registers are in one list, in register order
abbrev pub register_of : Design → ℕ → ℕ
register_of d j = first (λ x. ltb j (cells_below d (suc x))) d.head.registers

-- Past the last record there is nothing.
abbrev pub no_state_facts : StateFacts
no_state_facts = record { children = 0; descendants = 0; lowest_child = None; moved = 0 }

abbrev pub no_command_facts : CommandFacts
no_command_facts = record { owner = 0; registers = 0; pointers = 0 }

abbrev pub state_kept : Design → ℕ → StateFacts
state_kept d s = cond (nat_lt s d.head.states) (state_facts d s) no_state_facts

abbrev pub command_kept : Design → ℕ → CommandFacts
command_kept d k = cond (nat_lt k d.head.commands) (command_facts d k) no_command_facts

-- what is kept is what the definitions give, for each record and cell of the design
pub record WorkedOut (d : Design) (f : Facts) : Type 0 where
  pub by_state : vec_items f.states ≡ map (state_facts d) (range_with_len 0 d.head.states)
  pub by_command : vec_items f.commands ≡ map (command_facts d) (range_with_len 0 d.head.commands)
  pub by_register : vec_items f.firsts ≡ map (cells_below d) (range_with_len 0 d.head.registers)
  pub by_cell : vec_items f.cells ≡ map (register_of d) (range_with_len 0 (cells_below d d.head.registers))
