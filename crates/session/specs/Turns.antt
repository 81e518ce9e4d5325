-- What a turn and what is owed say. Assumes nothing.
use Rattle.std.specs.Prelude.{◌≡◌, ℕ, List, ◌++◌, Ok, Err, Option, Result}
use Rattle.lattice.specs.Faults.{Refusal}
use Rattle.session.specs.Faults.{refusal}
use Rattle.session.specs.declared.faults.SessionFault.TheVariants.{Memory}
use Rattle.session.specs.declared.turns.NotTaken.{NotTaken}
use Rattle.session.specs.declared.turns.Owed.{Owed}
use Rattle.session.specs.declared.turns.Turn.{Turn}
use Rattle.session.specs.declared.turns.Unwritten.{Unwritten}

-- A turn says no more than that it was given.
abbrev pub the_turn : Turn
the_turn = record { given = tt }

-- what a step that was not taken says
abbrev pub untaken : NotTaken → Option Refusal
untaken n = refusal n.fault

-- What is printed is appended, and a turn is given; or, for want of memory, the text is as it was, and as many reports are owed.
abbrev pub Written : Owed → List ℕ → List ℕ → List ℕ → Result Turn Unwritten → Type 0
Written owed printed before after (Ok turn) = after ≡ before ++ printed
Written owed printed before after (Err short) = (after ≡ before) × (short.owed ≡ owed) × (short.fault ≡ Memory)
