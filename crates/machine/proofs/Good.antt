-- A cycle that starts from a memory that a step accepts leaves a memory that a step accepts. Assumes nothing.
use Rattle.std.proofs.Common.{◌≡◌, ℕ, zero, suc, ◌+◌, ◌%◌, ◌^◌, ◌<◌, ◌≤◌, max, Bool, true, false, cond, not, ◌||◌, eqb, ltb, List, [], ◌∷◌, length, get_or, set, Some, None, fold, Option, unwrap_or, sym, refl, ap, ◌∙◌, subst, ⊎_elim, mod-lt, arith, length-set, get_or-set_other, get_or-set_same, pow_pos}
use Rattle.std.proofs.lemmas.Bool.Decides.{nat_tests}
use Rattle.std.proofs.lemmas.Bool.{not-false, not_from_true, ltb-true, lt-ltb, le-ltb, cases_eq, and_parts, and_from, or_parts, or_from, cond-true, cond-false, cond_both}
use Rattle.lattice.specs.Faults.{Refusal}
use Rattle.lattice.specs.Folds.{joined}
use Rattle.lattice.specs.Model.{Joins, JoinLaws}
use Rattle.lattice.proofs.FoldLaws.{joined_least}
use Rattle.lattice.specs.Laws.{join_level}
use Rattle.search.specs.First.{first, some_below}
use Rattle.search.specs.Sum.{sum_below}
use Rattle.search.proofs.Firsts.{first_is, first_passes}
use Rattle.members.specs.Members.{members}
use Rattle.records.specs.declared.Action.{Action}
use Rattle.records.specs.declared.Action.TheVariants.{Set, Tag, If, Goto, Fall}
use Rattle.records.specs.declared.Command.{Command}
use Rattle.records.specs.declared.Labeled.{Labeled}
use Rattle.records.specs.declared.Register.{Register}
use Rattle.rules.specs.Rules.{◌⊳◌, sweep, registers_kind, states_kind, commands_kind, cells_kind, sizes, bad_size, bad_width, bad_register, cells_below, linked, floor_placed, cell_named, names, fields_linked, command_linked, placed, action_placed, command_placed, has_children}
use Rattle.shape.specs.Shape.{Design, register_at, state_at, command_at, enforced, holds, given, alike, is_child, owner_of}
use Rattle.design.specs.Chains.{Chain, stop, run, chain_at, lowest_child, moved}
use Rattle.design.specs.Facts.{register_of}
use Rattle.std.proofs.lemmas.List.FromFn.{length-map-range_with_len, get_or-map-range_with_len}
use Rattle.design.proofs.Kept.{neither, none_breaks, sized_if}
use Rattle.actions.specs.declared.ways.Reach.{Reach}
use Rattle.actions.specs.declared.ways.Way.{Way}
use Rattle.actions.specs.declared.ways.Way.TheVariants.{On, Otherwise, Then, Else, Child}
use Rattle.machine.specs.Cycle.{Running, running}
use Rattle.actions.specs.Memory.{Memory, memory_of, labeled, no_cell, no_pointer, slot, cell_at, pointer_at, put_cell, change_each, raised}
use Rattle.actions.specs.Values.{cut}
use Rattle.actions.specs.Actions.{Done, done, raise, admits, context_in, pointer_after, move, checked, set_dynamic, set_enforced, retag, branch, do_goto, do_fall, evaluate, act}
use Rattle.machine.specs.Cycle.{reach_of, along, noted, exec, cycle}
use Rattle.machine.specs.Lending.{all_cells, exactly, at_least, start_verdict, step_verdict, first_pointers, bad_inputs, GoesOn, too_wide, under_floor, bad_level, names_child, bad_pointer, bad_cells, bad_pointers}
use Rattle.machine.proofs.Owned.{Owned}

-- the memory is as a step asks for it
pub record Good (m : Joins) (d : Design) (memory : Memory) : Type 0 where
  pub cells_fit : length memory.cells ≡ all_cells d
  pub pointers_fit : length memory.pointers ≡ d.head.states
  pub cells_good : bad_cells m d memory.cells ≡ None
  pub pointers_good : bad_pointers m d memory.pointers ≡ None

-- no cause and no cause make none
pub both_none : (a b : Option Refusal) → a ≡ None → b ≡ None → (a ⊳ b) ≡ None
both_none a b p q = grind (arith, p, q)

-- and back: where no record breaks a rule, its sweep refuses nothing
no_break : (rule kind n : ℕ) (breaks : ℕ → Bool) → ((j : ℕ) → j < n → breaks j ≡ false) → sweep rule kind n breaks ≡ None
no_break rule kind n breaks h =
    let last : first breaks n ≡ n = first_is breaks n n (omega arith) h (λ l. absurd (omega arith)) in
    cond-false (some_below breaks n) _ None (le-ltb (first breaks n) n (omega arith))

-- the lowest child of a state is a child of it, and a leaf has none
lowest_named : (d : Design) (t : ℕ) → names_child d t (lowest_child d t) ≡ true
lowest_named d t =
    cond_both (has_children d t) (Some (first (is_child d t) d.head.states)) None (λ o. names_child d t o ≡ true)
    (λ e. and_from _ _ e (first_passes (is_child d t) d.head.states (ltb-true _ _ e)))
    (λ e. ap not e)

-- Each entry of a list of n is fit for its place.
record Each {A : Type 0} (fits : ℕ → A → Type 0) (none : A) (n : ℕ) (xs : List A) : Type 0 where
  long : length xs ≡ n
  each : (j : ℕ) → j < n → fits j (get_or xs j none)

module _ {A : Type 0} (fits : ℕ → A → Type 0) (none : A) (n : ℕ) where
  -- a fit entry put in; past the end it changes nothing
  set_each : (j : ℕ) (x : A) (xs : List A) → Each fits none n xs → (j < n → fits j x) → Each fits none n (set xs j x)
  set_each j x xs h new =
      record {
        long = length-set xs j x ∙ h.long;
        each =
            λ i l.
            ⊎_elim (λ e. subst (λ k. fits k (get_or (set xs j x) k none)) (sym e) (subst (fits j) (sym (get_or-set_same xs j x none (omega (arith, h.long)))) (new (omega arith))))
            (λ ne. subst (fits i) (sym (get_or-set_other xs j i x none ne)) (h.each i l)) (cases_eq i j);
      }

  -- entries changed in turn, each from fit to fit
  change_each_fits : (place : ℕ → ℕ) (f : ℕ → A → A) → ((t : ℕ) (x : A) → fits (place t) x → fits (place t) (f t x)) → (ts : List ℕ) (xs : List A) → Each fits none n xs → Each fits none n (change_each none place f ts xs)
  unfolding change_each
  change_each_fits place f step [] xs h = h
  change_each_fits place f step (t ∷ ts) xs h =
      change_each_fits place f step ts (set xs (place t) (f t (get_or xs (place t) none)))
      (set_each (place t) (f t (get_or xs (place t) none)) xs h (λ l. step t (get_or xs (place t) none) (h.each (place t) l)))

-- A cell fits its register: its value is not too wide, and the floor flows to its level.
abbrev FitsIn : Joins → Design → Register → Labeled ℕ → Type 0
FitsIn m d r cell = (cell.value < 2 ^ r.width) × (under_floor m r.floor cell.level ≡ false)

abbrev CellFits : Joins → Design → ℕ → Labeled ℕ → Type 0
CellFits m d j cell = FitsIn m d (register_at d (register_of d j)) cell

abbrev PointerFits : Joins → Design → ℕ → Labeled (Option ℕ) → Type 0
PointerFits m d s pointer = (m.level pointer.level ≡ true) × (names_child d s pointer.value ≡ true)

record Fit (m : Joins) (d : Design) (memory : Memory) : Type 0 where
  cells : Each (CellFits m d) no_cell (all_cells d) memory.cells
  pointers : Each (PointerFits m d) no_pointer d.head.states memory.pointers

-- The two forms of a good memory.
module _ (m : Joins) (d : Design) (memory : Memory) where
  fit_if : Good m d memory → Fit m d memory
  fit_if g =
      let cells = neither _ _ g.cells_good in
      record {
        cells =
            record {
              long = g.cells_fit;
              each =
                  λ j l. (
                    ltb-true _ _ (not-false _ (none_breaks 3 cells_kind (all_cells d) (too_wide d memory.cells) cells.0 j l)),
                    none_breaks 5 cells_kind (all_cells d) (bad_level m d memory.cells) cells.1 j l,
                  );
            };
        pointers =
            record {
              long = g.pointers_fit;
              each =
                  λ s l.
                  let parts = or_parts _ _ (none_breaks 5 states_kind d.head.states (bad_pointer m d memory.pointers) g.pointers_good s l) in
                  (not-false _ parts.0, not-false _ parts.1);
            };
      }

  good_if : Fit m d memory → Good m d memory
  good_if f =
      record {
        cells_fit = f.cells.long;
        pointers_fit = f.pointers.long;
        cells_good =
            both_none _ _
            (no_break 3 cells_kind (all_cells d) (too_wide d memory.cells) (λ j l. not_from_true _ (lt-ltb _ _ (f.cells.each j l).0)))
            (no_break 5 cells_kind (all_cells d) (bad_level m d memory.cells) (λ j l. (f.cells.each j l).1));
        pointers_good =
            no_break 5 states_kind d.head.states (bad_pointer m d memory.pointers)
            (λ s l. or_from _ _ (not_from_true _ (f.pointers.each s l).0) (not_from_true _ (f.pointers.each s l).1));
      }

-- What of the rules a cycle needs.
record Ruled (d : Design) : Type 0 where
  some_states : 0 < d.head.states
  some_cells : (x : ℕ) → x < d.head.registers → 0 < (register_at d x).cells
  floors : (x : ℕ) → x < d.head.registers → floor_placed (register_at d x) ≡ true
  fields : (n : ℕ) → n < d.head.commands → fields_linked d n ≡ true
  places : (n : ℕ) → n < d.head.commands → action_placed d (owner_of d n) (command_at d n) (command_at d n).action ≡ true

not_zero : (n : ℕ) → eqb n 0 ≡ false → 0 < n
not_zero n e = grind (arith, nat_tests, e)

has_cells : (d : Design) → sizes d ≡ None → (x : ℕ) → x < d.head.registers → 0 < (register_at d x).cells
has_cells d sizes_hold x l =
    let r : Register = register_at d x in
    let good = (or_parts (bad_size r) _ (none_breaks 3 registers_kind d.head.registers (bad_register d) (neither _ _ sizes_hold).1 x l)).0 in
    not_zero r.cells (or_parts (bad_width r.width) (eqb r.cells 0) (or_parts _ _ good).0).1

floors_hold : (d : Design) → linked d ≡ None → (x : ℕ) → x < d.head.registers → floor_placed (register_at d x) ≡ true
floors_hold d links x l =
    let floors = (neither _ _ (neither _ _ (neither _ _ links).0).0).0 in
    not-false (floor_placed (register_at d x)) (none_breaks 4 registers_kind d.head.registers (λ n. not (floor_placed (register_at d n))) floors x l)

fields_hold : (d : Design) → linked d ≡ None → (n : ℕ) → n < d.head.commands → fields_linked d n ≡ true
fields_hold d links n l =
    (and_parts _ _ (and_parts _ _ (not-false (command_linked d n) (none_breaks 4 commands_kind d.head.commands (λ k. not (command_linked d k)) (neither _ _ links).1 n l))).0).0

ruled_if : (d : Design) → sizes d ≡ None → linked d ≡ None → placed d ≡ None → Ruled d
ruled_if d sizes_hold links places =
    record {
      some_states = omega (arith, (sized_if d sizes_hold).some_states);
      some_cells = has_cells d sizes_hold;
      floors = floors_hold d links;
      fields = fields_hold d links;
      places = λ n l. (and_parts _ _ (not-false (command_placed d (owner_of d) n) (none_breaks 6 commands_kind d.head.commands (λ k. not (command_placed d (owner_of d) k)) places n l))).0;
    }

-- The cell that an index names is one of its register.
sum_up : (f : ℕ → ℕ) (y x : ℕ) → y < x → sum_below f (suc y) ≤ sum_below f x
unfolding sum_below
sum_up f y zero l = absurd (omega arith)
sum_up f y (suc x) l = grind (arith, l, sum_up f y x)

sum_more : (f : ℕ → ℕ) (x : ℕ) → sum_below f (suc x) ≡ sum_below f x + f x
unfolding sum_below
sum_more f x = refl

index_below : (i c : ℕ) → 0 < c → i % max c 1 < c
index_below i c h = omega (arith, mod-lt i {m = max c 1} (omega arith))

slot_register : (d : Design) → Ruled d → (x i : ℕ) → x < d.head.registers → register_of d (slot d x i) ≡ x
slot_register d rules x i l =
    first_is (λ y. ltb (slot d x i) (cells_below d (suc y))) d.head.registers x (omega arith)
    (λ y h. le-ltb _ _ (omega (arith, sum_up (λ n. (register_at d n).cells) y x h)))
    (λ _. lt-ltb _ _ (omega (arith, sum_more (λ n. (register_at d n).cells) x, index_below i (register_at d x).cells (rules.some_cells x l))))

-- What the rules say of the fields of a command, by its action.
abbrev Needs : Design → ℕ → Command → Action → Type 0
Needs d s c Set = unwrap_or c.x 0 < d.head.registers
Needs d s c Tag = (unwrap_or c.x 0 < d.head.registers) × (enforced (register_at d (unwrap_or c.x 0)).mode ≡ true)
Needs d s c If = Unit {0}
Needs d s c Goto = (unwrap_or c.x 0 < d.head.states) × (alike (state_at d (unwrap_or c.x 0)).parent (state_at d s).parent ≡ true)
Needs d s c Fall = s < d.head.states

-- a field that names a record
names_below : (n : ℕ) (o : Option ℕ) → names n o ≡ true → unwrap_or o 0 < n
names_below n o e = grind (arith, nat_tests, e)

named : (d : Design) (c : Command) → cell_named d c ≡ true → unwrap_or c.x 0 < d.head.registers
named d c h = grind (arith, nat_tests, h)

needs_if : (d : Design) (s n : ℕ) (a : Action) → (command_at d n).action ≡ a → fields_linked d n ≡ true → action_placed d s (command_at d n) a ≡ true → s < d.head.states → Needs d s (command_at d n) a
needs_if d s n Set e fields placed l = named d (command_at d n) (and_parts _ _ (rw e at fields)).0
needs_if d s n Tag e fields placed l = (named d (command_at d n) (and_parts _ _ (rw e at fields)).0, placed)
needs_if d s n If e fields placed l = tt
needs_if d s n Goto e fields placed l = (names_below d.head.states (command_at d n).x (and_parts _ _ (rw e at fields)).0, (and_parts _ _ placed).1)
needs_if d s n Fall e fields placed l = l

module _ (m : Joins) (laws : JoinLaws m) (d : Design) where
  abbrev Level : ℕ → Type 0
  Level k = m.level k ≡ true

  -- A join of any codes is a level, and above those that are levels.
  folded_level : (start : ℕ) (levels : List ℕ) → Level start → Level (fold m.join start levels)
  folded_level start [] h = h
  folded_level start (x ∷ xs) h = folded_level (m.join start x) xs (join_level m laws start x)

  joined_level : (levels : List ℕ) → Level (joined m levels)
  joined_level levels = folded_level m.bottom levels laws.bounds.least_level

  joined_above : (a k : ℕ) → Level a → Level k → m.flows a (joined m (a ∷ k ∷ [])) ≡ true
  joined_above a k p q = (joined_least m laws (a ∷ k ∷ []) (p, (q, tt))).above.0

  -- a floor that flows to a level flows to a higher one
  floor_up : (o : Option ℕ) (a k : ℕ) → Level k → under_floor m o a ≡ false → under_floor m o (joined m (a ∷ k ∷ [])) ≡ false
  floor_up None a k q h = not_from_true (m.level (joined m (a ∷ k ∷ []))) (joined_level (a ∷ k ∷ []))
  floor_up (Some f) a k q h =
      let parts = or_parts (not (m.level a)) (not (m.flows f a)) h in
      let up : m.flows f (joined m (a ∷ k ∷ [])) ≡ true = laws.order.transitive f a _ (not-false (m.flows f a) parts.1) (joined_above a k (not-false (m.level a) parts.0) q) in
      or_from _ _ (not_from_true _ (joined_level (a ∷ k ∷ []))) (not_from_true _ up)

  -- Raising keeps a memory good.
  raise_fit : (k : ℕ) → Level k → (reach : Reach) (memory : Memory) → Fit m d memory → Fit m d (raise m d k reach memory)
  raise_fit k q reach memory f =
      record {
        cells =
            change_each_fits (CellFits m d) no_cell (all_cells d) (cells_below d) (λ _. raised m k)
            (λ t x h. (h.0, floor_up (register_at d (register_of d (cells_below d t))).floor x.level k q h.1))
            (members reach.registers) memory.cells f.cells;
        pointers =
            change_each_fits (PointerFits m d) no_pointer d.head.states (λ t. t) (λ _. raised m k)
            (λ t x h. (joined_level (x.level ∷ k ∷ []), h.1))
            (members reach.pointers) memory.pointers f.pointers;
      }

  -- a cell put in its place, if it fits there
  put_fit : (j : ℕ) (cell : Labeled ℕ) (memory : Memory) → Fit m d memory → (j < all_cells d → CellFits m d j cell) → Fit m d (put_cell j cell memory)
  put_fit j cell memory f new = record { cells = set_each (CellFits m d) no_cell (all_cells d) j cell memory.cells f.cells new; pointers = f.pointers }

  -- What a command leaves: a good memory, and a way in a context that is a level.
  abbrev WayFits : Way → Type 0
  WayFits On = Unit {0}
  WayFits (Otherwise k) = Level k
  WayFits (Then k) = Level k
  WayFits (Else k) = Level k
  WayFits (Child t k) = (t < d.head.states) × Level k

  record Did (did : Done) : Type 0 where
    memory : Fit m d did.memory
    way : WayFits did.way

  -- A check: what is raised stays good, and so must what is done where it passes.
  checked_did : (k : ℕ) → Level k → (passes : Bool) (alt : Reach) (after : Memory → Memory) (memory : Memory) → Fit m d memory → (passes ≡ true → (next : Memory) → Fit m d next → Fit m d (after next)) → Did (checked m d k passes alt after memory)
  checked_did k q passes alt after memory f keeps =
      cond_both passes (done (after (raise m d k alt memory)) On) (done (raise m d k alt memory) (Otherwise k)) Did
      (λ e. record { memory = keeps e (raise m d k alt memory) (raise_fit k q alt memory f); way = tt })
      (λ _. record { memory = raise_fit k q alt memory f; way = q })

  module _ (rules : Ruled d) where
    -- a value that is cut is not too wide
    cut_below : (width value : ℕ) → cut width value < 2 ^ width
    cut_below width value = mod-lt value (pow_pos width)

    -- what fits register x fits each cell of x, and back
    in_register : (x i : ℕ) → x < d.head.registers → (cell : Labeled ℕ) → FitsIn m d (register_at d x) cell → CellFits m d (slot d x i) cell
    in_register x i l cell h = subst (λ y. FitsIn m d (register_at d y) cell) (sym (slot_register d rules x i l)) h

    at_slot : (x i : ℕ) → x < d.head.registers → (cell : Labeled ℕ) → CellFits m d (slot d x i) cell → FitsIn m d (register_at d x) cell
    at_slot x i l cell h = subst (λ y. FitsIn m d (register_at d y) cell) (slot_register d rules x i l) h

    -- A dynamic register has no floor; a level to which the floor of an enforced one flows is not under it.
    no_floor : (r : Register) → floor_placed r ≡ true → enforced r.mode ≡ false → (k : ℕ) → Level k → under_floor m r.floor k ≡ false
    no_floor r h e k q = grind (arith, h, e, q)

    some_floor : (o : Option ℕ) (k : ℕ) → given o ≡ true → m.flows (unwrap_or o 0) k ≡ true → under_floor m o k ≡ false
    some_floor o k h e = grind (arith, h, e, laws.order.to_level (unwrap_or o 0) k e)

    -- A set cuts the value to the width; an enforced cell keeps its level, and a dynamic one, which has no floor, takes a join.
    set_did : (x i c index_level : ℕ) (new : Labeled ℕ) → x < d.head.registers → (alt : Reach) (memory : Memory) → Fit m d memory
        → Did (cond (enforced (register_at d x).mode) (set_enforced m d x (slot d x i) c index_level new alt memory) (set_dynamic m d x (slot d x i) c new memory))
    set_did x i c index_level new l alt memory f =
        cond_both (enforced (register_at d x).mode) (set_enforced m d x j c index_level new alt memory) (set_dynamic m d x j c new memory) Did
        (λ _. checked_did (joined m (c ∷ index_level ∷ old.level ∷ [])) (joined_level (c ∷ index_level ∷ old.level ∷ [])) _ alt _ memory f
        (λ _ next g. put_fit j (labeled value old.level) next g
        (λ h. in_register x i l (labeled value old.level) (cut_below r.width new.value, (at_slot x i l old (f.cells.each j h)).1))))
        (λ e. record {
          memory =
              put_fit j (labeled value level) memory f
              (λ _. in_register x i l (labeled value level)
              (cut_below r.width new.value, no_floor r (rules.floors x l) e level (joined_level (c ∷ new.level ∷ []))));
          way = tt;
        })
      where
        j : ℕ
        j = slot d x i

        r : Register
        r = register_at d x

        old : Labeled ℕ
        old = cell_at memory j

        value : ℕ
        value = cut r.width new.value

        level : ℕ
        level = joined m (c ∷ new.level ∷ [])

    -- A tag that passes gives a level to which the floor flows.
    tag_did : (x i c index_level level : ℕ) → x < d.head.registers → enforced (register_at d x).mode ≡ true → (alt : Reach) (memory : Memory) → Fit m d memory
        → Did (retag m d x (slot d x i) c index_level level alt memory)
    tag_did x i c index_level level l e alt memory f =
        checked_did (joined m (c ∷ index_level ∷ [])) (joined_level (c ∷ index_level ∷ [])) _ alt _ memory f
        (λ passes next g. put_fit j (labeled value level) next g
        (λ h. in_register x i l (labeled value level) (narrow h, some_floor r.floor level floored (and_parts _ _ passes).1)))
      where
        j : ℕ
        j = slot d x i

        r : Register
        r = register_at d x

        old : Labeled ℕ
        old = cell_at memory j

        value : ℕ
        value = cond (m.flows old.level level) old.value 0

        narrow : j < all_cells d → value < 2 ^ r.width
        narrow h =
            cond_both (m.flows old.level level) old.value 0 (λ v. v < 2 ^ r.width) (λ _. (at_slot x i l old (f.cells.each j h)).0)
            (λ _. pow_pos r.width)

        floored : given r.floor ≡ true
        floored = sym (cond-true (enforced r.mode) (given r.floor) (not (given r.floor)) e) ∙ rules.floors x l

    -- The branches of an if, in whichever context.
    branch_did : (c : ℕ) (condition : Labeled ℕ) (then_reach else_reach : Reach) (memory : Memory) → Fit m d memory → Did (branch m d c condition then_reach else_reach memory)
    branch_did c condition then_reach else_reach memory f =
        let k : ℕ = joined m (c ∷ condition.level ∷ []) in
        let q : Level k = joined_level (c ∷ condition.level ∷ []) in
        record {
          memory = raise_fit k q else_reach (raise m d k then_reach memory) (raise_fit k q then_reach memory f);
          way = cond_both (eqb condition.value 0) (Else k) (Then k) WayFits (λ _. q) (λ _. q);
        }

    -- After a goto each pointer names a child of its state.
    -- of two states with the same parent both are its children
    same_parent : (a b : Option ℕ) (t : ℕ) → alike a b ≡ true → holds b t ≡ true → holds a t ≡ true
    same_parent a b t h e = grind (arith, nat_tests, h, e)

    goto_did : (s target c : ℕ) → Level c → target < d.head.states → alike (state_at d target).parent (state_at d s).parent ≡ true → (alt : Reach) (memory : Memory) → Fit m d memory → Did (do_goto m d s target c alt memory)
    goto_did s target c q l same alt memory f =
        checked_did c q (admits m d target c) alt (move m d s target c) memory f
        (λ _ next g. record {
          cells = g.cells;
          pointers =
              change_each_fits (PointerFits m d) no_pointer d.head.states (λ t. t) (λ t _. pointer_after m d s target c t) (λ t _ _. (q, names t))
              (members (moved d s)) next.pointers g.pointers;
        })
      where
        names : (t : ℕ) → names_child d t (cond (holds (state_at d s).parent t) (Some target) (lowest_child d t)) ≡ true
        names t =
            cond_both (holds (state_at d s).parent t) (Some target) (lowest_child d t) (λ o. names_child d t o ≡ true)
            (λ e. and_from _ _ (lt-ltb target d.head.states l) (same_parent (state_at d target).parent (state_at d s).parent t same e))
            (λ _. lowest_named d t)

    -- A fall enters a state, in a context that is a level.
    child_below : (s : ℕ) (o : Option ℕ) → names_child d s o ≡ true → unwrap_or o 0 < d.head.states
    child_below s o e = grind (arith, nat_tests, e, rules.some_states)

    -- a state that admits a context runs in one that is a level
    entered : (t k : ℕ) → Level k → admits m d t k ≡ true → Level (context_in m d t k)
    entered t k q h =
        cond_both (enforced (state_at d t).mode) (unwrap_or (state_at d t).level 0) k Level
        (λ e. laws.order.to_level k _ (sym (cond-true (enforced (state_at d t).mode) _ _ e) ∙ h)) (λ _. q)

    fall_did : (s c : ℕ) → s < d.head.states → (here : Reach) (memory : Memory) → Fit m d memory → Did (do_fall m d s c here memory)
    fall_did s c l here memory f =
        cond_both (admits m d t k) (done (raise m d (context_in m d t k) here memory) (Child t (context_in m d t k))) (done (raise m d k here memory) (Otherwise k)) Did
        (λ e. record { memory = raise_fit (context_in m d t k) (entered t k q e) here memory f; way = (child_below s (pointer_at memory s).value (f.pointers.each s l).1, entered t k q e) })
        (λ _. record { memory = raise_fit k q here memory f; way = q })
      where
        t : ℕ
        t = unwrap_or (pointer_at memory s).value 0

        k : ℕ
        k = joined m (c ∷ (pointer_at memory s).level ∷ [])

        q : Level k
        q = joined_level (c ∷ (pointer_at memory s).level ∷ [])

    module _ (inputs : List (Labeled ℕ)) where
      -- each action, by the lemma of its kind
      act_did : (a : Action) (s : ℕ) (command : Command) → Needs d s command a → (alt then_reach else_reach here : Reach) (c : ℕ) → Level c → (memory : Memory) → Fit m d memory → Did (act m d inputs a s command alt then_reach else_reach here c memory)
      act_did Set s command l alt then_reach else_reach here c q memory f =
          let index : Labeled ℕ = evaluate m d inputs memory command.i in
          set_did (unwrap_or command.x 0) index.value c index.level (evaluate m d inputs memory command.e) l alt memory f
      act_did Tag s command l alt then_reach else_reach here c q memory f =
          let index : Labeled ℕ = evaluate m d inputs memory command.i in
          tag_did (unwrap_or command.x 0) index.value c index.level (unwrap_or command.e 0) l.0 l.1 alt memory f
      act_did If s command l alt then_reach else_reach here c q memory f =
          branch_did c (evaluate m d inputs memory command.e) then_reach else_reach memory f
      act_did Goto s command l alt then_reach else_reach here c q memory f = goto_did s (unwrap_or command.x 0) c q l.0 l.1 alt memory f
      act_did Fall s command l alt then_reach else_reach here c q memory f = fall_did s c l here memory f

      -- a run that keeps a memory good in every context that is a level
      abbrev Keeps : (ℕ → Running → Running) → Type 0
      Keeps runs = (c : ℕ) → Level c → (r : Running) → Fit m d r.memory → Fit m d (runs c r).memory

      -- the chain that a command chose
      along_fit : (alt then_branch else_branch : ℕ → Running → Running) (states : ℕ → ℕ → Running → Running) → Keeps alt → Keeps then_branch → Keeps else_branch → ((t : ℕ) → t < d.head.states → Keeps (states t)) → (way : Way) → WayFits way → (r : Running) → Fit m d r.memory → Fit m d (along alt then_branch else_branch states way r).memory
      along_fit alt then_branch else_branch states by_alt by_then by_else by_state On h r f = f
      along_fit alt then_branch else_branch states by_alt by_then by_else by_state (Otherwise k) h r f = by_alt k h r f
      along_fit alt then_branch else_branch states by_alt by_then by_else by_state (Then k) h r f = by_then k h r f
      along_fit alt then_branch else_branch states by_alt by_then by_else by_state (Else k) h r f = by_else k h r f
      along_fit alt then_branch else_branch states by_alt by_then by_else by_state (Child t k) h r f = by_state t h.0 k h.1 r f

      -- a command that stands in its own state has the fields that its action needs
      needs_of : (s n : ℕ) (command : Command) → n < d.head.commands → s < d.head.states → command ≡ command_at d n → s ≡ owner_of d n → Needs d s command command.action
      needs_of s n command l b e o =
          subst (λ c. Needs d s c c.action) (sym e)
          (needs_if d s n (command_at d n).action refl (rules.fields n l) (subst (λ t. action_placed d t (command_at d n) (command_at d n).action ≡ true) (sym o) (rules.places n l)) b)

      -- a chain, by its parts
      exec_fit : (chain : Chain) → Owned d chain → Keeps (exec m d inputs chain)
      unfolding exec Owned
      exec_fit stop own c q r f = f
      exec_fit (run s n command alt next then_branch else_branch states) own c q r f =
          let here : Reach = reach_of d (run s n command alt next then_branch else_branch states) in
          let did : Done = act m d inputs command.action s command (reach_of d alt) (reach_of d then_branch) (reach_of d else_branch) here c r.memory in
          let kept : Did did =
          act_did command.action s command (needs_of s n command own.0 own.1 own.2 own.3) (reach_of d alt) (reach_of d then_branch) (reach_of d else_branch) here c q r.memory f
          in
          exec_fit next own.5 c q
          (along (exec m d inputs alt) (exec m d inputs then_branch) (exec m d inputs else_branch) (λ t. exec m d inputs (states t)) did.way (running did.memory (noted n did.way r.reports)))
          (along_fit (exec m d inputs alt) (exec m d inputs then_branch) (exec m d inputs else_branch) (λ t. exec m d inputs (states t))
          (exec_fit alt own.4) (exec_fit then_branch own.6) (exec_fit else_branch own.7) (λ t l. exec_fit (states t) (own.8 t l))
          did.way kept.way
          (running did.memory (noted n did.way r.reports)) kept.memory)

-- At the start each pointer is its state's lowest child, at bottom.
pub good_start : (m : Joins) → JoinLaws m → (d : Design) → (cells : List (Labeled ℕ)) → length cells ≡ all_cells d → bad_cells m d cells ≡ None → Good m d (memory_of cells (first_pointers m d))
good_start m laws d cells long good =
    record {
      cells_fit = long;
      pointers_fit = length-map-range_with_len at 0 d.head.states;
      cells_good = good;
      pointers_good =
          no_break 5 states_kind d.head.states (bad_pointer m d (first_pointers m d))
          (λ s l.
          ap (λ p. not (m.level p.level) || not (names_child d s p.value)) (get_or-map-range_with_len at 0 d.head.states s s no_pointer l (omega arith))
          ∙ or_from _ _ (not_from_true _ laws.bounds.least_level) (not_from_true _ (lowest_named d s)));
    }
  where
    at : ℕ → Labeled (Option ℕ)
    at s = labeled (lowest_child d s) m.bottom

-- A good memory is refused by no step.
exact_none : (n k : ℕ) → k ≡ n → exactly n k ≡ None
exact_none n k e = grind (arith, nat_tests, e)

then_none : (a b : Option Refusal) → b ≡ None → (a ⊳ b) ≡ a
then_none a b e = grind (arith, e)

pub goes_on : (m : Joins) (d : Design) (memory : Memory) → Good m d memory → GoesOn m d memory.cells memory.pointers
goes_on m d memory g inputs reports =
    let ports : Option Refusal = exactly d.head.ports (length inputs) in
    let room : Option Refusal = at_least d.head.commands reports in
    ap (λ a. (((a ⊳ ports) ⊳ room) ⊳ bad_cells m d memory.cells ⊳ bad_pointers m d memory.pointers) ⊳ bad_inputs m d inputs)
    (both_none _ _ (exact_none _ _ g.cells_fit) (exact_none _ _ g.pointers_fit))
    ∙ ap (λ a. a ⊳ bad_inputs m d inputs)
    (then_none ((ports ⊳ room) ⊳ bad_cells m d memory.cells) (bad_pointers m d memory.pointers) g.pointers_good
    ∙ then_none (ports ⊳ room) (bad_cells m d memory.cells) g.cells_good)

exact_if : (n k : ℕ) → exactly n k ≡ None → k ≡ n
exact_if n k e = grind (arith, nat_tests, e)

-- What a start and a step that are not refused were lent.
pub start_lent : (m : Joins) (d : Design) (cells : List (Labeled ℕ)) (pointers : ℕ) → start_verdict m d cells pointers ≡ None → (length cells ≡ all_cells d) × (pointers ≡ d.head.states) × (bad_cells m d cells ≡ None)
start_lent m d cells pointers e =
    let all = neither _ _ e in
    let lengths = neither _ _ all.0 in
    (exact_if _ _ lengths.0, exact_if _ _ lengths.1, all.1)

pub step_lent : (m : Joins) (d : Design) (memory : Memory) (inputs : List (Labeled ℕ)) (reports : ℕ) → step_verdict m d memory.cells memory.pointers inputs reports ≡ None → Good m d memory
step_lent m d memory inputs reports e =
    let to_pointers = neither _ _ (neither _ _ e).0 in
    let to_cells = neither _ _ to_pointers.0 in
    let lengths = neither _ _ (neither _ _ (neither _ _ to_cells.0).0).0 in
    record { cells_fit = exact_if _ _ lengths.0; pointers_fit = exact_if _ _ lengths.1; cells_good = to_cells.1; pointers_good = to_pointers.1 }

-- A chain whose commands stand in their own states keeps a good memory good, in every context that is a level.
pub good_exec : (m : Joins) → JoinLaws m → (d : Design) → sizes d ≡ None → linked d ≡ None → placed d ≡ None → (inputs : List (Labeled ℕ)) → (chain : Chain) → Owned d chain → (c : ℕ) → m.level c ≡ true → (r : Running) → Good m d r.memory → Good m d (exec m d inputs chain c r).memory
good_exec m laws d sizes_hold links places inputs chain own c q r g =
    good_if m d (exec m d inputs chain c r).memory
    (exec_fit m laws d (ruled_if d sizes_hold links places) inputs chain own c q r (fit_if m d r.memory g))

-- and so does a whole cycle
pub good_cycle : (m : Joins) → JoinLaws m → (d : Design) → sizes d ≡ None → linked d ≡ None → placed d ≡ None → (inputs : List (Labeled ℕ)) → Owned d (chain_at d 0 (state_at d 0).first) → (memory : Memory) → Good m d memory → Good m d (cycle m d inputs memory).memory
good_cycle m laws d sizes_hold links places inputs own memory g =
    good_exec m laws d sizes_hold links places inputs (chain_at d 0 (state_at d 0).first) own m.bottom laws.bounds.least_level (running memory []) g
