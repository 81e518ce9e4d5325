use Rattle.std.proofs.Common.{◌≡◌, ℕ, ◌<◌, get_or}
use Rattle.design.specs.Chains.{lowest_child}
use Rattle.design.specs.Model.{owned}
use Rattle.actions.specs.Memory.{labeled, no_pointer}
use Rattle.machine.proofs.steps.set_pointers.Given as goal

abbrev pub invariant-loop-s : goal.invariant-loop-s
invariant-loop-s g l = (t : ℕ) → t < l.s → get_or l.pointers t no_pointer ≡ labeled (lowest_child (owned l.design.records) t) l.bottom
