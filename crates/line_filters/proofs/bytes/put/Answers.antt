use Rattle.machine.proofs.Cuts.{contents_added}
use Rattle.line_filters.proofs.bytes.put.Goals as goal

pub returns-clause-ok : goal.returns-clause-ok
returns-clause-ok c = contents_added c.args.out.now c.push_bytes.new.self c.args.bytes.now
    c.in_ok-push_bytes.ensures.ok
