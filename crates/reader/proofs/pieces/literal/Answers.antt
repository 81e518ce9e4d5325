use Rattle.std.proofs.Common.{◌≡◌, ◌++◌, length, drop, sym, ap, ◌∙◌, arith}
use Rattle.std.proofs.lemmas.List.{take_rest}
use Rattle.reader.proofs.Shared.{shared_le, shared_whole}
use Rattle.reader.proofs.pieces.literal.Goals as goal

pub returns-else-n-due : goal.returns-else-n-due
returns-else-n-due c =
    let s = c.args.text.now in
    let d = c.args.due.now in
    let n : c.common_len-n.result ≡ length d = omega (arith, shared_le d s) in
    shared_whole d s (omega arith) ∙ ap (λ t. d ++ t) (ap (λ i. drop i s) (sym n) ∙ sym (take_rest s c.common_len-n.result))
