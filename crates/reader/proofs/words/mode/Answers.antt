use Rattle.reader.specs.Format.{mode}
use Rattle.reader.proofs.Choosing.{reads_all, modes, each_mode}
use Rattle.reader.proofs.words.mode.Goals as goal

pub returns : goal.returns
returns c = reads_all mode modes c.args.after.now c.args.text.now c.one_of.result each_mode c.one_of.ensures
