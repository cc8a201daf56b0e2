use Rattle.machine.proofs.Cuts.{long_added}
use Rattle.machine.proofs.queue.append_frozen.Goals as goal

pub returns-clause-long : goal.returns-clause-long
returns-clause-long c =
    long_added c.append.result c.args.block c.args.pieces.now.items c.append.new.pieces.items
    c.in_ok-from_mut.field-0 c.args.bytes.items c.append.ensures.ok c.append.ensures.err
    c.in_ok-from_mut.ensures c.if-is_empty.ensures c.requires.short
