use Rattle.reader.specs.Format.{action}
use Rattle.reader.proofs.Choosing.{reads_all, actions, each_action}
use Rattle.reader.proofs.words.action.Goals as goal

pub returns : goal.returns
returns c = reads_all action actions c.args.after.now c.args.text.now c.one_of.result each_action c.one_of.ensures
