-- What a start and a step ask of the memory that they are lent, in the order in which it is tested. Assumes nothing.
use Rattle.std.specs.Prelude.{◌≡◌, ℕ, ◌^◌, Bool, true, cond, not, ◌&&◌, ◌||◌, List, [], ◌∷◌, ◌++◌, map, length, drop, is_some, Some, None, Ok, Err, Option, Result, ◌==◌, nat_le, nat_lt, slice_index_or}
use Rattle.std.specs.List.{range_with_len}
use Rattle.lattice.specs.Faults.{Refusal, refuse}
use Rattle.lattice.specs.Model.{Joins}
use Rattle.rules.specs.Rules.{◌⊳◌, sweep, states_kind, cells_kind, inputs_kind, cells_below, has_children}
use Rattle.records.specs.declared.Labeled.{Labeled}
use Rattle.records.specs.declared.Report.{Report}
use Rattle.shape.specs.Shape.{Design, register_at, is_child}
use Rattle.design.specs.Chains.{lowest_child}
use Rattle.design.specs.Facts.{register_of}
use Rattle.actions.specs.Memory.{no_cell, no_pointer, labeled}

abbrev pub all_cells : Design → ℕ
all_cells d = cells_below d d.head.registers

-- 12: lengths, with the length that is needed
abbrev pub exactly : ℕ → ℕ → Option Refusal
exactly needed len = cond (len == needed) None (refuse 12 (needed ∷ []))

abbrev pub at_least : ℕ → ℕ → Option Refusal
at_least needed len = cond (nat_le needed len) None (refuse 12 (needed ∷ []))

-- a cell's value is too wide for its register
abbrev pub too_wide : Design → List (Labeled ℕ) → ℕ → Bool
too_wide d cells j = not (nat_lt (slice_index_or cells j no_cell).value (2 ^ (register_at d (register_of d j)).width))

-- A pointer names a child of its state, and that of a leaf names none.
abbrev pub names_child : Design → ℕ → Option ℕ → Bool
names_child d s None = not (has_children d s)
names_child d s (Some t) = nat_lt t d.head.states && is_child d s t

-- no level, or one to which the floor does not flow
abbrev pub under_floor : Joins → Option ℕ → ℕ → Bool
under_floor m None level = not (m.level level)
under_floor m (Some floor) level = not (m.level level) || not (m.flows floor level)

module _ (m : Joins) (d : Design) where
  abbrev pub bad_level : List (Labeled ℕ) → ℕ → Bool
  bad_level cells j = under_floor m (register_at d (register_of d j)).floor (slice_index_or cells j no_cell).level

  abbrev pub bad_pointer : List (Labeled (Option ℕ)) → ℕ → Bool
  bad_pointer pointers s =
      not (m.level (slice_index_or pointers s no_pointer).level) || not (names_child d s (slice_index_or pointers s no_pointer).value)

  abbrev pub bad_input : List (Labeled ℕ) → ℕ → Bool
  bad_input inputs p = not (m.level (slice_index_or inputs p no_cell).level)

  -- 3: values; 5: levels and floors
  abbrev pub bad_cells : List (Labeled ℕ) → Option Refusal
  bad_cells cells = sweep 3 cells_kind (all_cells d) (too_wide d cells) ⊳ sweep 5 cells_kind (all_cells d) (bad_level cells)

  abbrev pub bad_pointers : List (Labeled (Option ℕ)) → Option Refusal
  bad_pointers pointers = sweep 5 states_kind d.head.states (bad_pointer pointers)

  abbrev pub bad_inputs : List (Labeled ℕ) → Option Refusal
  bad_inputs inputs = sweep 5 inputs_kind d.head.ports (bad_input inputs)

  abbrev pub start_verdict : List (Labeled ℕ) → ℕ → Option Refusal
  start_verdict cells pointers = exactly (all_cells d) (length cells) ⊳ exactly d.head.states pointers ⊳ bad_cells cells

  abbrev pub step_verdict : List (Labeled ℕ) → List (Labeled (Option ℕ)) → List (Labeled ℕ) → ℕ → Option Refusal
  step_verdict cells pointers inputs reports =
      exactly (all_cells d) (length cells) ⊳ exactly d.head.states (length pointers) ⊳ exactly d.head.ports (length inputs)
      ⊳ at_least d.head.commands reports
      ⊳ bad_cells cells
      ⊳ bad_pointers pointers
      ⊳ bad_inputs inputs

  -- Where the memory is good, a step is refused for its inputs and its report table alone.
  abbrev pub GoesOn : List (Labeled ℕ) → List (Labeled (Option ℕ)) → Type 0
  GoesOn cells pointers =
      (inputs : List (Labeled ℕ)) (reports : ℕ)
      → step_verdict cells pointers inputs reports ≡ (exactly d.head.ports (length inputs) ⊳ at_least d.head.commands reports ⊳ bad_inputs inputs)

  -- each pointer at the start: the lowest child at bottom, and none at bottom for a leaf
  abbrev pub first_pointers : List (Labeled (Option ℕ))
  first_pointers = map (λ s. labeled (lowest_child d s) m.bottom) (range_with_len 0 d.head.states)

-- The answer of a call: Ok exactly where there is no cause to refuse, else a fault that says the cause.
abbrev pub Decides : {F A : Type 0} → (F → Option Refusal) → Option Refusal → (A → Type 0) → Result A F → Type 0
Decides says verdict holds (Ok a) = (verdict ≡ None) × holds a
Decides says verdict holds (Err f) = (says f ≡ verdict) × (is_some verdict ≡ true)

-- what a call leaves: what it made, or where it refused what was there
abbrev pub left_by : {A : Type 0} → Option Refusal → A → A → A
left_by None made was = made
left_by (Some r) made was = was

-- the reports of a cycle at the head of the lent table, and the rest of it as it was
abbrev pub laid : List Report → List Report → List Report
laid reports table = reports ++ drop (length reports) table
