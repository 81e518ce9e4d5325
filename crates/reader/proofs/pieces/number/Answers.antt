use Rattle.std.proofs.Common.{◌≤◌, ◌++◌, Err, decimal, sym, ◌∙◌, subst, arith}
use Rattle.std.proofs.lemmas.List.{take_rest}
use Rattle.reader.specs.Pieces.{Reads, Strips}
use Rattle.reader.proofs.Sequences.{exit}
use Rattle.reader.proofs.NumberPieces.{number_missing, number_parts, number_reads}
use Rattle.reader.proofs.pieces.number.Goals as goal

pub returns-then-n-eq0 : goal.returns-then-n-eq0
returns-then-n-eq0 c = number_missing _ c.args.limit c.requires (omega arith) _ _ _ c.digits-value.ensures (omega arith)

pub returns-in_err-rest : goal.returns-in_err-rest
returns-in_err-rest c =
    let s = c.args.text.now in
    let after = c.args.after.now in
    let left = c.in_err-rest.field-0.0 in
    let stop = subst (λ u. Strips after u (Err left)) (take_rest s c.digits-value.result.1) c.in_err-rest.ensures in
    exit (Reads (λ v. v ≤ c.args.limit) (λ v. decimal v ++ after) s) _ _ c.from_residual.ensures.1
    (number_parts after c.args.limit c.requires (omega arith) s _ _ c.digits-value.ensures (omega arith) left stop)

pub returns : goal.returns
returns c =
    let rest = sym (take_rest c.args.text.now c.digits-value.result.1) ∙ c.in_ok-rest.ensures in (
      c.digits-value.ensures.within,
      number_reads _ c.args.limit c.requires (omega arith) _ _ _ c.digits-value.ensures (omega arith) _ rest,
    )
