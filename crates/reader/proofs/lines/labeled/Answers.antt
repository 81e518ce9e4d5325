use Rattle.std.proofs.Common.{inl, inr}
use Rattle.reader.specs.Format.{labeled, LabeledFits}
use Rattle.reader.specs.Pieces.{Reads}
use Rattle.reader.proofs.Sequences.{exit}
use Rattle.reader.proofs.Grammar.{labeled_piece}
use Rattle.reader.proofs.lines.labeled.Goals as goal

pub returns-in_err-value : goal.returns-in_err-value
returns-in_err-value c =
    exit (Reads LabeledFits labeled _) _ _ c.from_residual.ensures.1 (labeled_piece.stops _ _ (inl c.in_err-value.ensures))

pub returns-in_err-level : goal.returns-in_err-level
returns-in_err-level c =
    exit (Reads LabeledFits labeled _) _ _ c.from_residual-in_err-level.ensures.1
    (labeled_piece.stops _ _ (inr (_, _, c.in_ok-value.ensures, c.in_err-level.ensures)))
