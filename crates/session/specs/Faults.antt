-- What the refusal of a run says: its number and the place. Assumes nothing.
use Rattle.std.specs.Prelude.{None, Option}
use Rattle.lattice.specs.Faults.{Refusal}
use Rattle.rules.specs.Faults.{refusal as design_refusal}
use Rattle.session.specs.declared.faults.SessionFault.{SessionFault}
use Rattle.session.specs.declared.faults.SessionFault.TheVariants.{Design, Memory}

-- the fault of a design says what it says by itself; want of memory has no number
abbrev pub refusal : SessionFault → Option Refusal
refusal (Design f) = design_refusal f
refusal Memory = None
