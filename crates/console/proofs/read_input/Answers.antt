use Rattle.console.proofs.Taken.{taken}
use Rattle.console.proofs.read_input.Goals as goal

pub returns : goal.returns
returns g c =
    taken g.R.Read.remaining c.args.input c.take.result.inner 60001 c.take.result.limit c.new-text.result.items c.read_to_end.new.buf.items
    c.take.ensures.inner c.take.ensures.limit c.new-text.ensures.items c.in_ok-read_to_end.ensures.bytes
