-- What a command of a design does, and the chain that it chooses. Assumes nothing.
use Rattle.std.proofs.Common.{◌≡◌, ℕ, zero, suc, ◌+◌, ◌<◌, ◌≤◌, Bool, true, false, cond, ◌&&◌, ltb, List, [], ◌∷◌, map, length, is_some, Some, None, Option, sym, refl, ap, ◌∙◌, subst, ap₂, ⊎_elim, arith}
use Rattle.std.specs.List.{range_with_len}
use Rattle.std.proofs.lemmas.List.{get_or_past}
use Rattle.std.proofs.lemmas.Bool.{cases_lt, cond-true, le-ltb, lt-ltb, ltb-true, and_parts}
use Rattle.lattice.specs.Bit.{bit}
use Rattle.lattice.specs.Model.{Joins}
use Rattle.records.specs.declared.Action.{Action}
use Rattle.records.specs.declared.Action.TheVariants.{Set, Tag, If, Goto, Fall}
use Rattle.records.specs.declared.Command.{Command}
use Rattle.records.specs.declared.Labeled.{Labeled}
use Rattle.rules.specs.Rules.{sizes, linked}
use Rattle.rules.proofs.Ranking.{ranked_is}
use Rattle.shape.specs.Rank.{lower}
use Rattle.shape.specs.Shape.{Design, command_at, state_at, no_state, is_if, owner_of}
use Rattle.design.specs.Chains.{Chain, stop, is_below, is_fall, under, below_node, reach}
use Rattle.design.specs.Facts.{state_kept, command_kept, command_facts, no_command_facts}
use Rattle.design.specs.declared.facts.CommandFacts.{CommandFacts}
use Rattle.design.specs.Verdict.{well_formed}
use Rattle.design.proofs.Kept.{formed_none, formed_parts, sized_if}
use Rattle.design.proofs.Reaching.{owner_below, first_within}
use Rattle.actions.specs.declared.ways.Reach.{Reach}
use Rattle.actions.specs.declared.ways.Way.{Way}
use Rattle.actions.specs.declared.ways.Way.TheVariants.{On, Otherwise, Then, Else, Child}
use Rattle.actions.specs.Actions.{Done, act}
use Rattle.machine.specs.Cycle.{reach_of, noted, along, exec}
use Rattle.machine.specs.Kept.{kept_reach, kept_act, if_child, detour_of}
use Rattle.machine.specs.Links.{chain_of, rank_of, states_of, Names}
use Rattle.machine.specs.Cycle.{Running, running}
use Rattle.actions.specs.Memory.{Memory}
use Rattle.machine.specs.Reports.{largest, most_reports}
use Rattle.machine.proofs.Bitsets.{bit_set_where}
use Rattle.machine.specs.View.{Leaves}
use Rattle.machine.specs.declared.chains.Log.{Log}
use Rattle.machine.specs.declared.detours.Detour.{Detour}
use Rattle.actions.proofs.Leaving.{kept_state}
use Rattle.machine.proofs.Lists.{drop_later}
use Rattle.machine.proofs.Opening.{linked_node, names_link, rank_falls, opens, opens_states}

-- no chain does nothing
pub exec_none : (m : Joins) (d : Design) (inputs : List (Labeled ℕ)) (o : Option ℕ) (c : ℕ) (r : Running) → o ≡ None → r ≡ exec m d inputs (chain_of d o) c r
unfolding exec
exec_none m d inputs o c r e = sym (ap (λ x. exec m d inputs (chain_of d x) c r) e)

-- what two runs after one another leave as it was
pub leaves_both : (a b c : Log) → Leaves a b → Leaves b c → Leaves a c
leaves_both a b c p q =
    record {
      table = q.table ∙ p.table;
      long = q.long ∙ p.long;
      grows = omega (arith, p.grows, q.grows);
      fits = q.fits;
      rest = q.rest ∙ drop_later b.table.now a.table.now b.count c.count q.grows p.rest;
    }

kept_command : (d : Design) (k : ℕ) → k < d.head.commands → command_kept d k ≡ command_facts d k
kept_command d k l = cond-true (ltb k d.head.commands) (command_facts d k) no_command_facts (lt-ltb k d.head.commands l)

-- only an if looks at the reaches of branches
acts_same : (m : Joins) (d : Design) (inputs : List (Labeled ℕ)) (a : Action) (s : ℕ) (command : Command) (alt then_reach else_reach then_reach' else_reach' here : Reach) (c : ℕ) (memory : Memory) → (is_if a ≡ true → then_reach ≡ then_reach') → (is_if a ≡ true → else_reach ≡ else_reach') → act m d inputs a s command alt then_reach else_reach here c memory ≡ act m d inputs a s command alt then_reach' else_reach' here c memory
acts_same m d inputs Set s command alt t e t' e' here c memory p q = refl
acts_same m d inputs Tag s command alt t e t' e' here c memory p q = refl
acts_same m d inputs If s command alt t e t' e' here c memory p q = ap₂ (λ x y. act m d inputs If s command alt x y here c memory) (p refl) (q refl)
acts_same m d inputs Goto s command alt t e t' e' here c memory p q = refl
acts_same m d inputs Fall s command alt t e t' e' here c memory p q = refl

largest_has : (f : ℕ → ℕ) (a n t : ℕ) → t < n → f (a + t) ≤ largest (map f (range_with_len a n))
largest_has f a zero t l = absurd (omega arith)
largest_has f a (suc n) zero l = grind arith
largest_has f a (suc n) (suc t) l = grind (arith, largest_has f (a + 1) n t (omega arith))

module _ (d : Design) (sized : sizes d ≡ None) (links : linked d ≡ None) (exact : length d.states ≡ d.head.states) where
  abbrev n : ℕ
  n = d.head.states

  abbrev facts_reach : CommandFacts → Reach
  facts_reach f = record { registers = f.registers; pointers = f.pointers }

  link_reach : (o : Option ℕ) → Names d o → kept_reach d o ≡ reach_of d (chain_of d o)
  unfolding reach
  link_reach None l = refl
  link_reach (Some j) l = ap facts_reach (kept_command d j l)

  -- a state past the last is below none
  below_past : (s t : ℕ) → n ≤ t → is_below d s t ≡ false
  below_past s t l = ranked_is (λ u. u) false (below_node d s) t ∙ ap (λ x. under s (lower (λ u. u) false (below_node d s) (is_below d s) t) x.parent) (get_or_past d.states t no_state (omega arith))

  kept_below : (s t : ℕ) → s < n → bit (state_kept d s).descendants t ≡ (ltb t n && is_below d s t)
  kept_below s t l = ap (λ f. bit f.descendants t) (kept_state d s l) ∙ bit_set_where (is_below d s) n t (sized_if d sized).few_states

  branch_chain : (b : Bool) (o : Option ℕ) → chain_of d (cond b o None) ≡ cond b (chain_of d o) stop
  branch_chain b o = grind arith

  both_chain : (f b : Bool) (j : ℕ) → chain_of d (cond f (cond b (Some j) None) None) ≡ cond (f && b) (chain_of d (Some j)) stop
  both_chain f b j = grind arith

  stops : (f b : Bool) (chain : Chain) → b ≡ false → cond (f && b) chain stop ≡ stop
  stops f b chain e = grind (arith, e)

  module _ (k : ℕ) (there : k < d.head.commands) where
    abbrev command : Command
    command = command_at d k

    abbrev s : ℕ
    s = owner_of d k

    abbrev then_chain : Chain
    then_chain = cond (is_if command.action) (chain_of d command.x) stop

    abbrev else_chain : Chain
    else_chain = cond (is_if command.action) (chain_of d command.i) stop

    s_below : s < n
    s_below = owner_below d k (omega (arith, (sized_if d sized).some_states))

    kept_s : (command_kept d k).owner ≡ s
    kept_s = ap (λ f. f.owner) (kept_command d k there)

    -- the chain of a child, by what is kept
    child_chain : (t : ℕ) → chain_of d (if_child d command.action s t) ≡ states_of d k t
    child_chain t = ⊎_elim inside outside (cases_lt t n)
      where
        first : ℕ
        first = (state_at d t).first

        by_bit : (b : Bool) → bit (state_kept d s).descendants t ≡ b → chain_of d (if_child d command.action s t) ≡ cond (is_fall command.action && b) (chain_of d (Some first)) stop
        by_bit b e = ap (λ x. chain_of d (cond (is_fall command.action) (cond x (Some first) None) None)) e ∙ both_chain (is_fall command.action) b first

        inside : t < n → chain_of d (if_child d command.action s t) ≡ states_of d k t
        inside l = by_bit (is_below d s t) (kept_below s t s_below ∙ ap (λ x. x && is_below d s t) (lt-ltb t n l)) ∙ sym (opens_states d links k t l)

        outside : n ≤ t → chain_of d (if_child d command.action s t) ≡ states_of d k t
        outside l =
            by_bit false (kept_below s t s_below ∙ ap (λ x. x && is_below d s t) (le-ltb t n l))
            ∙ stops (is_fall command.action) false (chain_of d (Some first)) refl
            ∙ sym (stops (is_fall command.action) (is_below d s t) _ (below_past s t l))

    -- How many reports the chosen chain can make, whichever is chosen.
    abbrev branches : ℕ
    branches =
        largest
        (most_reports n (chain_of d command.alt) ∷ most_reports n then_chain ∷ most_reports n else_chain
        ∷ largest (map (λ t. most_reports n (states_of d k t)) (range_with_len 0 n)) ∷ [])

    pub most_opens : most_reports n (chain_of d (Some k)) ≡ suc (branches + most_reports n (chain_of d command.next))
    unfolding most_reports
    most_opens = ap (most_reports n) (opens d links k there)

    -- a chain that a command may choose: it is there, it is nearer to its end, and it makes no more reports than that
    pub record Fine (o : Option ℕ) : Type 0 where
      pub names : Names d o
      pub falls : rank_of d o < rank_of d (Some k)
      pub most : most_reports n (chain_of d o) ≤ branches

    fine_none : Fine None
    unfolding most_reports
    fine_none = record { names = tt; falls = omega arith; most = omega arith }

    fine_alt : Fine command.alt
    fine_alt = record { names = names_link d k command.alt (linked_node d links k there).alt; falls = (rank_falls d links k there).alt; most = omega arith }

    fine_then : (b : Bool) → is_if command.action ≡ b → Fine (cond b command.x None)
    fine_then false e = fine_none
    fine_then true e =
        record {
          names = names_link d k command.x ((linked_node d links k there).then_branch e);
          falls = (rank_falls d links k there).then_branch e;
          most = omega (arith, ap (λ b. most_reports n (cond b (chain_of d command.x) stop)) e);
        }

    fine_else : (b : Bool) → is_if command.action ≡ b → Fine (cond b command.i None)
    fine_else false e = fine_none
    fine_else true e =
        record {
          names = names_link d k command.i ((linked_node d links k there).else_branch e);
          falls = (rank_falls d links k there).else_branch e;
          most = omega (arith, ap (λ b. most_reports n (cond b (chain_of d command.i) stop)) e);
        }

    fine_first : (t : ℕ) → t < n → is_below d s t ≡ true → most_reports n (chain_of d (Some (state_at d t).first)) ≤ most_reports n (states_of d k t) → Fine (Some (state_at d t).first)
    fine_first t l below most =
        let here : 0 + t ≡ t = omega arith in
        record {
          names = first_within d links t l;
          falls = (rank_falls d links k there).states t l below;
          most = omega (arith, most, ap (λ u. most_reports n (states_of d k u)) here, largest_has (λ u. most_reports n (states_of d k u)) 0 n t l);
        }

    fine_child : (t : ℕ) → Fine (if_child d command.action s t)
    fine_child t = by_fall (is_fall command.action) refl
      where
        first : ℕ
        first = (state_at d t).first

        by_bit : is_fall command.action ≡ true → (b : Bool) → bit (state_kept d s).descendants t ≡ b → Fine (cond b (Some first) None)
        by_bit f false e = fine_none
        by_bit f true e =
            let parts = and_parts (ltb t n) (is_below d s t) (sym (kept_below s t s_below) ∙ e) in
            let same : most_reports n (chain_of d (Some first)) ≡ most_reports n (states_of d k t) = ap (most_reports n) (ap₂ (λ x y. chain_of d (cond x (cond y (Some first) None) None)) (sym f) (sym e) ∙ child_chain t) in
            fine_first t (ltb-true t n parts.0) parts.1 (omega (arith, same))

        by_fall : (f : Bool) → is_fall command.action ≡ f → Fine (cond f (cond (bit (state_kept d s).descendants t) (Some first) None) None)
        by_fall false e = fine_none
        by_fall true e = by_bit e (bit (state_kept d s).descendants t) refl

    chosen : (way : Way) → Fine (detour_of d s command way).link
    chosen On = fine_none
    chosen (Otherwise c) = fine_alt
    chosen (Then c) = fine_then (is_if command.action) refl
    chosen (Else c) = fine_else (is_if command.action) refl
    chosen (Child t c) = fine_child t

    pub chosen_fine : (owner : ℕ) (way : Way) → owner ≡ (command_kept d k).owner → Fine (detour_of d owner command way).link
    chosen_fine owner way e = subst (λ o. Fine (detour_of d o command way).link) (sym (e ∙ kept_s)) (chosen way)

    pub next_names : Names d command.next
    next_names = names_link d k command.next (linked_node d links k there).next

    pub next_falls : rank_of d command.next < rank_of d (Some k)
    next_falls = (rank_falls d links k there).next

    module _ (m : Joins) (inputs : List (Labeled ℕ)) where
      abbrev true_act : ℕ → Memory → Reach → Done
      true_act c memory here = act m d inputs command.action s command (reach_of d (chain_of d command.alt)) (reach_of d then_chain) (reach_of d else_chain) here c memory

      kept_acts : (c : ℕ) (memory : Memory) → kept_act m d inputs k c memory ≡ true_act c memory (reach_of d (chain_of d (Some k)))
      kept_acts c memory =
          let node = linked_node d links k there in
          rw (kept_s, link_reach command.alt (names_link d k command.alt node.alt), link_reach (Some k) there)
          (acts_same m d inputs command.action s command (reach_of d (chain_of d command.alt)) (kept_reach d command.x) (kept_reach d command.i) (reach_of d then_chain) (reach_of d else_chain) (reach_of d (chain_of d (Some k))) c memory
          (λ e. rw e (link_reach command.x (names_link d k command.x (node.then_branch e))))
          (λ e. rw e (link_reach command.i (names_link d k command.i (node.else_branch e)))))

      abbrev ways : Way → Running → Running
      ways = along (exec m d inputs (chain_of d command.alt)) (exec m d inputs then_chain) (exec m d inputs else_chain) (λ t. exec m d inputs (states_of d k t))

      runs : (way : Way) (r : Running) → exec m d inputs (chain_of d (detour_of d s command way).link) (detour_of d s command way).context r ≡ ways way r
      unfolding exec
      runs On r = refl
      runs (Otherwise c) r = refl
      runs (Then c) r = ap (λ chain. exec m d inputs chain c r) (branch_chain (is_if command.action) command.x)
      runs (Else c) r = ap (λ chain. exec m d inputs chain c r) (branch_chain (is_if command.action) command.i)
      runs (Child t c) r = ap (λ chain. exec m d inputs chain c r) (child_chain t)

      -- the chain from a command on: the command, the chain that it chose, and what follows
      pub exec_opens : (c : ℕ) (r : Running) → exec m d inputs (chain_of d (Some k)) c r ≡ exec m d inputs (chain_of d command.next) c (ways (kept_act m d inputs k c r.memory).way (running (kept_act m d inputs k c r.memory).memory (noted k (kept_act m d inputs k c r.memory).way r.reports)))
      unfolding exec
      exec_opens c r =
          ap (λ chain. exec m d inputs chain c r) (opens d links k there)
          ∙ ap (λ did. exec m d inputs (chain_of d command.next) c (ways did.way (running did.memory (noted k did.way r.reports))))
          (ap (true_act c r.memory) (ap (reach_of d) (sym (opens d links k there))) ∙ sym (kept_acts c r.memory))

      -- the same, by what was done
      pub exec_did : (c : ℕ) (owner : ℕ) (r : Running) (did : Done) (after chose last : Running) → owner ≡ (command_kept d k).owner → did ≡ kept_act m d inputs k c r.memory → after ≡ running did.memory (noted k did.way r.reports) → chose ≡ exec m d inputs (chain_of d (detour_of d owner command did.way).link) (detour_of d owner command did.way).context after → last ≡ exec m d inputs (chain_of d command.next) c chose → last ≡ exec m d inputs (chain_of d (Some k)) c r
      exec_did c owner r did after chose last o e f h j =
          j ∙ ap (exec m d inputs (chain_of d command.next) c)
          (h ∙ ap (λ x. exec m d inputs (chain_of d (detour_of d x command did.way).link) (detour_of d x command did.way).context after) (o ∙ kept_s)
          ∙ runs did.way after ∙ ap (ways did.way) f ∙ ap (λ x. ways x.way (running x.memory (noted k x.way r.reports))) e)
          ∙ sym (exec_opens c r)

-- A link that names command k, the link that the command chose, and what follows it: both are there and nearer to their
-- ends, and with what the command itself reports they make no more reports than the chain from the first link on.
pub record Turn (d : Design) (from chosen next : Option ℕ) : Type 0 where
  pub names : Names d chosen
  pub falls : rank_of d chosen < rank_of d from
  pub next_names : Names d next
  pub next_falls : rank_of d next < rank_of d from
  pub room : suc (most_reports d.head.states (chain_of d chosen) + most_reports d.head.states (chain_of d next)) ≤ most_reports d.head.states (chain_of d from)

module _ (d : Design) (formed : is_some (well_formed d) ≡ false) (exact : length d.states ≡ d.head.states) (from : Option ℕ) (k : ℕ) (at : from ≡ Some k) (named : Names d from) where
  abbrev sized : sizes d ≡ None
  sized = (formed_parts d (formed_none d formed)).0

  abbrev links : linked d ≡ None
  links = (formed_parts d (formed_none d formed)).1

  abbrev there : k < d.head.commands
  there = subst (Names d) at named

  pub some_room : 0 < most_reports d.head.states (chain_of d from)
  some_room = rw at (omega (arith, most_opens d sized links exact k there))

  module _ (owner : ℕ) (command : Command) (own : owner ≡ (command_kept d k).owner) (is : command ≡ command_at d k) where
    pub turn : (way : Way) (detour : Detour) → detour ≡ detour_of d owner command way → Turn d from detour.link command.next
    turn way detour e =
        let fine = chosen_fine d sized links exact k there owner way own in
        rw (e, is, at)
        (record {
          names = fine.names;
          falls = fine.falls;
          next_names = next_names d sized links exact k there;
          next_falls = next_falls d sized links exact k there;
          room = omega (arith, most_opens d sized links exact k there, fine.most);
        })

    -- the run of the chain, by what was done
    pub exec_turn : (m : Joins) (inputs : List (Labeled ℕ)) (c : ℕ) (r : Running) (did : Done) (after chose last : Running) (detour : Detour) → did ≡ kept_act m d inputs k c r.memory → after ≡ running did.memory (noted k did.way r.reports) → detour ≡ detour_of d owner command did.way → chose ≡ exec m d inputs (chain_of d detour.link) detour.context after → last ≡ exec m d inputs (chain_of d command.next) c chose → last ≡ exec m d inputs (chain_of d from) c r
    exec_turn m inputs c r did after chose last detour e f x h j =
        exec_did d sized links exact k there m inputs c owner r did after chose last own e f
        (h ∙ ap (λ y. exec m d inputs (chain_of d y.link) y.context after) (x ∙ ap (λ y. detour_of d owner y did.way) is))
        (j ∙ ap (λ y. exec m d inputs (chain_of d y.next) c chose) is)
        ∙ ap (λ o. exec m d inputs (chain_of d o) c r) (sym at)
