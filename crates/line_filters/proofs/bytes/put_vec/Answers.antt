use Rattle.machine.proofs.Cuts.{contents_added}
use Rattle.line_filters.proofs.bytes.put_vec.Goals as goal

pub returns-clause-ok : goal.returns-clause-ok
returns-clause-ok c = contents_added c.args.out.now c.push_vec.new.self c.args.bytes.items
    c.in_ok-push_vec.ensures.ok
