use Rattle.network_nodes.proofs.ShareLaws.{opened_more}
use Rattle.network_nodes.proofs.tables.open_pipes.Goals as goal

pub loop-preserved : goal.loop-preserved
loop-preserved c = opened_more c.loop.counter c.args.capacity c.args.bytes c.loop.writers.items
    c.push.new.self.items c.loop.readers.items c.push-in-loop.new.self.items c.in_ok-writer.writer
    c.in_ok-writer.reader c.loop.invariant c.in_ok-push.ensures.items c.in_ok-push-2.ensures.items
    c.in_ok-writer.ensures.beside c.in_ok-writer.ensures.writer c.in_ok-writer.ensures.capacity
    c.in_ok-writer.ensures.bytes c.in_ok-writer.ensures.reader
