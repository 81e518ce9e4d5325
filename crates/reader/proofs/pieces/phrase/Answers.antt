use Rattle.std.proofs.Common.{◌++◌}
use Rattle.reader.specs.Pieces.{Strips}
use Rattle.reader.proofs.Sequences.{exit, strips_first, strips_second}
use Rattle.reader.proofs.pieces.phrase.Goals as goal

pub returns-in_err-rest : goal.returns-in_err-rest
returns-in_err-rest c =
    exit (Strips (c.args.word.now ++ c.args.after.now) c.args.text.now) _ _ c.from_residual.ensures.1 (strips_first _ _ _ _ c.in_err-rest.ensures)

pub returns : goal.returns
returns c = strips_second _ _ _ _ _ c.in_ok-rest.ensures c.literal-2.ensures
