-- One cycle of a design with levels. Assumes nothing.
use Rattle.std.specs.Prelude.{ℕ, List, [], ◌∷◌, ◌++◌}
use Rattle.lattice.specs.Model.{Joins}
use Rattle.records.specs.declared.Labeled.{Labeled}
use Rattle.records.specs.declared.Report.{Report}
use Rattle.shape.specs.Shape.{Design, state_at}
use Rattle.design.specs.Chains.{Chain, stop, run, chain_at, register_reach, pointer_reach}
use Rattle.actions.specs.declared.ways.Reach.{Reach}
use Rattle.actions.specs.declared.ways.Way.{Way}
use Rattle.actions.specs.declared.ways.Way.TheVariants.{On, Otherwise, Then, Else, Child}
use Rattle.actions.specs.Actions.{Done, act}
use Rattle.actions.specs.Memory.{Memory}

-- a memory, and the reports so far, in the order in which they were made
pub record Running : Type 0 where
  pub memory : Memory
  pub reports : List Report

abbrev pub running : Memory → List Report → Running
running memory reports = record { memory = memory; reports = reports }

-- What a chain may reach: registers and pointers.
abbrev pub reach_of : Design → Chain → Reach
reach_of d chain = record { registers = register_reach d chain; pointers = pointer_reach d chain }

-- A check that failed is reported at its level.
abbrev pub noted : ℕ → Way → List Report → List Report
noted n On reports = reports
noted n (Otherwise k) reports = reports ++ record { command = n; level = k } ∷ []
noted n (Then k) reports = reports
noted n (Else k) reports = reports
noted n (Child t k) reports = reports

-- the chain that a command chose, in its context
abbrev pub along : (alt then_branch else_branch : ℕ → Running → Running) → (states : ℕ → ℕ → Running → Running) → Way → Running → Running
along alt then_branch else_branch states On r = r
along alt then_branch else_branch states (Otherwise k) r = alt k r
along alt then_branch else_branch states (Then k) r = then_branch k r
along alt then_branch else_branch states (Else k) r = else_branch k r
along alt then_branch else_branch states (Child t k) r = states t k r

module _ (m : Joins) (d : Design) (inputs : List (Labeled ℕ)) where
  -- A chain in a context: its command, then the chain that the command chose, then what follows, in the same context.
  -- A goto and a fall end the cycle: nothing follows them.
  unfoldable pub exec : Chain → ℕ → Running → Running
  exec stop c r = r
  exec (run s n command alt next then_branch else_branch states) c r =
      let here : Reach = reach_of d (run s n command alt next then_branch else_branch states) in
      let did : Done = act m d inputs command.action s command (reach_of d alt) (reach_of d then_branch) (reach_of d else_branch) here c r.memory in
      exec next c
      (along (exec alt) (exec then_branch) (exec else_branch) (λ t. exec (states t)) did.way (running did.memory (noted n did.way r.reports)))

  -- The root runs in the context bottom, and each cycle begins with no report.
  abbrev pub cycle : Memory → Running
  cycle memory = exec (chain_at d 0 (state_at d 0).first) m.bottom (running memory [])
