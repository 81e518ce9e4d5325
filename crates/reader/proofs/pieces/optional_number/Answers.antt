use Rattle.std.proofs.Common.{[], ◌∷◌, ◌++◌, Some, None}
use Rattle.std.proofs.lemmas.Bool.Decides.{Decides-eqb}
use Rattle.std.proofs.lemmas.Slice.Eq.{strip_prefix_is}
use Rattle.reader.specs.Format.{Optional, optional}
use Rattle.reader.specs.Pieces.{Reads}
use Rattle.reader.proofs.NumberPieces.{optional_dash, optional_digits}
use Rattle.reader.proofs.Sequences.{exit}
use Rattle.reader.proofs.pieces.optional_number.Goals as goal

pub returns-in_err-rest : goal.returns-in_err-rest
returns-in_err-rest c =
    let s = c.args.text.now in
    let dash = strip_prefix_is Decides-eqb s (45 ∷ []) (Some c.in-Some.rest) c.in-Some.ensures.cases in
    exit (Reads Optional (λ o. optional o ++ c.args.after.now) s) _ _ c.from_residual.ensures.1
    (optional_dash c.args.after.now c.requires s _ _ dash c.in_err-rest.ensures)

pub returns-in_err-n : goal.returns-in_err-n
returns-in_err-n c =
    let s = c.args.text.now in
    let other = strip_prefix_is Decides-eqb s (45 ∷ []) None c.in_default.ensures.cases in
    exit (Reads Optional (λ o. optional o ++ c.args.after.now) s) _ _ c.from_residual-in_err-n.ensures.1
    (optional_digits c.args.after.now c.requires s _ other c.in_err-n.ensures)
