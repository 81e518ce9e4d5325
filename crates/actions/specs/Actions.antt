-- What each command does. Assumes nothing.
use Rattle.std.specs.Prelude.{ℕ, Bool, true, cond, ◌&&◌, List, [], ◌∷◌, Some, Option, ◌==◌}
use Rattle.std.specs.Option.{unwrap_or}
use Rattle.lattice.specs.Folds.{joined}
use Rattle.lattice.specs.Model.{Joins}
use Rattle.members.specs.Members.{members}
use Rattle.records.specs.declared.Command.{Command}
use Rattle.records.specs.declared.Action.{Action}
use Rattle.records.specs.declared.Action.TheVariants.{Set, Tag, If, Goto, Fall}
use Rattle.records.specs.declared.Labeled.{Labeled}
use Rattle.rules.specs.Rules.{cells_below}
use Rattle.shape.specs.Shape.{Design, register_at, state_at, enforced, holds}
use Rattle.design.specs.Chains.{lowest_child, moved}
use Rattle.actions.specs.declared.ways.Reach.{Reach}
use Rattle.actions.specs.declared.ways.Way.{Way}
use Rattle.actions.specs.declared.ways.Way.TheVariants.{On, Otherwise, Then, Else, Child}
use Rattle.actions.specs.Formulas.{formula_of, evaluated}
use Rattle.actions.specs.Memory.{Memory, memory_of, labeled, no_cell, no_pointer, slot, cell_at, pointer_at, with_pointers, put_cell, change_each, raised}
use Rattle.actions.specs.Values.{cut}

-- What a command does: the memory after it, and which of its other chains runs before what follows, and in which context.
pub record Done : Type 0 where
  pub memory : Memory
  pub way : Way

abbrev pub done : Memory → Way → Done
done memory way = record { memory = memory; way = way }

module _ (m : Joins) (d : Design) where
  -- Raising by k joins k to the level of each member: the cell of each dynamic register, and each pointer.
  abbrev pub raise_registers : ℕ → ℕ → List (Labeled ℕ) → List (Labeled ℕ)
  raise_registers k set cells = change_each no_cell (cells_below d) (λ _. raised m k) (members set) cells

  abbrev pub raise_pointers : ℕ → ℕ → List (Labeled (Option ℕ)) → List (Labeled (Option ℕ))
  raise_pointers k set pointers = change_each no_pointer (λ t. t) (λ _. raised m k) (members set) pointers

  abbrev pub raise : ℕ → Reach → Memory → Memory
  raise k reach memory =
      memory_of (raise_registers k reach.registers memory.cells) (raise_pointers k reach.pointers memory.pointers)

  -- The level of an enforced state bounds the context in which it is entered; a dynamic state is entered in any.
  abbrev pub admits : ℕ → ℕ → Bool
  admits t k = cond (enforced (state_at d t).mode) (m.flows k (unwrap_or (state_at d t).level 0)) true

  -- the context in which a state runs: its own level, or for a dynamic state that in which it is entered
  abbrev pub context_in : ℕ → ℕ → ℕ
  context_in t k = cond (enforced (state_at d t).mode) (unwrap_or (state_at d t).level 0) k

  -- After a goto the parent's pointer is the target; those of the state that is left and of its descendants start anew.
  abbrev pub pointer_after : ℕ → ℕ → ℕ → ℕ → Labeled (Option ℕ)
  pointer_after s target c t = labeled (cond (holds (state_at d s).parent t) (Some target) (lowest_child d t)) c

  abbrev pub move : ℕ → ℕ → ℕ → Memory → Memory
  move s target c memory =
      with_pointers (change_each no_pointer (λ t. t) (λ t _. pointer_after s target c t) (members (moved d s)) memory.pointers) memory

  -- A check at level k: alt's reach is raised first, whether it passes or not. Where it fails, alt runs at level k.
  abbrev pub checked : ℕ → Bool → Reach → (Memory → Memory) → Memory → Done
  checked k passes alt after memory =
      cond passes (done (after (raise k alt memory)) On) (done (raise k alt memory) (Otherwise k))

  -- A dynamic register takes the value, at the context joined with the level of the value.
  abbrev pub set_dynamic : ℕ → ℕ → ℕ → Labeled ℕ → Memory → Done
  set_dynamic x j c new memory =
      done (put_cell j (labeled (cut (register_at d x).width new.value) (joined m (c ∷ new.level ∷ []))) memory) On

  -- An enforced cell keeps its level, to which the context, the index and the value must flow.
  abbrev pub set_enforced : ℕ → ℕ → ℕ → ℕ → Labeled ℕ → Reach → Memory → Done
  set_enforced x j c index_level new alt memory =
      let level : ℕ = (cell_at memory j).level in
      checked (joined m (c ∷ index_level ∷ level ∷ []))
      ((m.flows c level && m.flows index_level level) && m.flows new.level level)
      alt
      (put_cell j (labeled (cut (register_at d x).width new.value) level))
      memory

  -- A tag gives a cell another level, no lower than the floor of its register. A value that must not be seen there becomes 0.
  abbrev pub retag : ℕ → ℕ → ℕ → ℕ → ℕ → Reach → Memory → Done
  retag x j c index_level level alt memory =
      let old : Labeled ℕ = cell_at memory j in
      let floor : ℕ = unwrap_or (register_at d x).floor 0 in
      let k : ℕ = joined m (c ∷ index_level ∷ []) in
      checked k (m.flows k floor && m.flows floor level) alt
      (put_cell j (labeled (cond (m.flows old.level level) old.value 0) level))
      memory

  -- Which branch runs may tell of the condition, so the reaches of both are raised.
  abbrev pub branch : ℕ → Labeled ℕ → Reach → Reach → Memory → Done
  branch c condition then_reach else_reach memory =
      let k : ℕ = joined m (c ∷ condition.level ∷ []) in
      done (raise k else_reach (raise k then_reach memory)) (cond (condition.value == 0) (Else k) (Then k))

  abbrev pub do_goto : ℕ → ℕ → ℕ → Reach → Memory → Done
  do_goto s target c alt memory = checked c (admits target c) alt (move s target c) memory

  -- What may be reached from a fall on, alt included, is raised before the child runs, or what runs otherwise.
  abbrev pub do_fall : ℕ → ℕ → Reach → Memory → Done
  do_fall s c here memory =
      let pointer : Labeled (Option ℕ) = pointer_at memory s in
      let t : ℕ = unwrap_or pointer.value 0 in
      let k : ℕ = joined m (c ∷ pointer.level ∷ []) in
      cond (admits t k) (done (raise (context_in t k) here memory) (Child t (context_in t k))) (done (raise k here memory) (Otherwise k))

  module _ (inputs : List (Labeled ℕ)) where
    abbrev pub evaluate : Memory → Option ℕ → Labeled ℕ
    evaluate memory e = evaluated d inputs memory.cells m (formula_of d e)

    abbrev pub do_set : Command → ℕ → Reach → Memory → Done
    do_set command c alt memory =
        let x : ℕ = unwrap_or command.x 0 in
        let index : Labeled ℕ = evaluate memory command.i in
        let new : Labeled ℕ = evaluate memory command.e in
        let j : ℕ = slot d x index.value in
        cond (enforced (register_at d x).mode) (set_enforced x j c index.level new alt memory) (set_dynamic x j c new memory)

    abbrev pub do_tag : Command → ℕ → Reach → Memory → Done
    do_tag command c alt memory =
        let x : ℕ = unwrap_or command.x 0 in
        let index : Labeled ℕ = evaluate memory command.i in
        retag x (slot d x index.value) c index.level (unwrap_or command.e 0) alt memory

    abbrev pub do_if : Command → ℕ → Reach → Reach → Memory → Done
    do_if command c then_reach else_reach memory = branch c (evaluate memory command.e) then_reach else_reach memory

    -- A command of state s in context c; `here` is the reach of the chain from it on.
    abbrev pub act : Action → ℕ → Command → (alt then_reach else_reach here : Reach) → ℕ → Memory → Done
    act Set s command alt then_reach else_reach here c memory = do_set command c alt memory
    act Tag s command alt then_reach else_reach here c memory = do_tag command c alt memory
    act If s command alt then_reach else_reach here c memory = do_if command c then_reach else_reach memory
    act Goto s command alt then_reach else_reach here c memory = do_goto s (unwrap_or command.x 0) c alt memory
    act Fall s command alt then_reach else_reach here c memory = do_fall s c here memory
