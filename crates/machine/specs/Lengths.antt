-- What a test of lengths answers. Assumes nothing.
use Rattle.std.specs.Prelude.{[], ◌∷◌, None, Ok, Err, Option, Result}
use Rattle.lattice.specs.Faults.{Refusal, refuse}
use Rattle.machine.specs.declared.asked.WrongLength.{WrongLength}

-- 12: nothing, or the length that is needed
abbrev pub wrong_length : Result (Unit {0}) WrongLength → Option Refusal
wrong_length (Ok u) = None
wrong_length (Err e) = refuse 12 (e.needed ∷ [])
