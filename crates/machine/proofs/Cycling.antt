-- The first command of the root, with which a cycle begins. Assumes nothing.
use Rattle.std.proofs.Common.{◌≡◌, ℕ, ◌<◌, ◌≤◌, is_some, false, Some, ap, arith}
use Rattle.shape.specs.Shape.{Design, state_at}
use Rattle.design.specs.Chains.{chain_at}
use Rattle.design.specs.Verdict.{well_formed}
use Rattle.design.proofs.Kept.{formed_none, formed_parts, sized_if}
use Rattle.design.proofs.Reaching.{first_within}
use Rattle.machine.specs.Links.{chain_of}
use Rattle.machine.specs.Reports.{most_reports}
use Rattle.machine.proofs.Counting.{few_reports}
use Rattle.machine.proofs.Opening.{owner_first}

-- It is there, its chain is that of the root, and it makes at most as many reports as there are commands.
pub record Root (d : Design) (k : ℕ) : Type 0 where
  pub named : k < d.head.commands
  pub chain : chain_of d (Some k) ≡ chain_at d 0 (state_at d 0).first
  pub few : most_reports d.head.states (chain_of d (Some k)) ≤ d.head.commands
  pub small : d.head.commands ≤ 256

pub root : (d : Design) → is_some (well_formed d) ≡ false → (k : ℕ) → k ≡ (state_at d 0).first → Root d k
root d formed k at =
    let kept = formed_parts d (formed_none d formed) in
    let sized = sized_if d kept.0 in
    let some : 0 < d.head.states = omega (arith, sized.some_states) in
    rw at
    (record {
      named = first_within d kept.1 0 some;
      chain = ap (λ s. chain_at d s (state_at d 0).first) (owner_first d kept.1 0 some);
      few = few_reports d kept.0 kept.1 kept.3;
      small = sized.few_commands;
    })
