use Rattle.reader.specs.Format.{operator}
use Rattle.reader.proofs.Choosing.{reads_all, operators, each_operator}
use Rattle.reader.proofs.words.operator.Goals as goal

pub returns : goal.returns
returns c = reads_all operator operators c.args.after.now c.args.text.now c.one_of.result each_operator c.one_of.ensures
