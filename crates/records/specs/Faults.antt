-- What the refusal of a text says: its number and the place. Assumes nothing.
use Rattle.std.specs.Prelude.{ℕ, [], ◌∷◌, Option}
use Rattle.lattice.specs.Faults.{Refusal, refuse}
use Rattle.records.specs.declared.faults.LineFault.{LineFault}
use Rattle.records.specs.declared.faults.LineFault.TheVariants.{NotDue, TooLong}

-- the kind of a place in a text, beside the kinds of records
abbrev pub text_kind : ℕ
text_kind = 8

abbrev pub refusal : LineFault → Option Refusal
refusal (NotDue line byte) = refuse 1 (line ∷ byte ∷ [])
refusal TooLong = refuse 2 (text_kind ∷ [])
