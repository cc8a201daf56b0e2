use Rattle.std.proofs.Common.{rules}
use Rattle.plan_runs.proofs.lemmas.SettleLaws.{settled_now, settles_file, settles_none}
use Rattle.plan_runs.proofs.settling.settle_node.Goals as goal

pub returns-in_default-clause-settles : goal.returns-in_default-clause-settles
returns-in_default-clause-settles g c =
    settles_none c.args.plan.now c.args.opened.now (g.F.Files.shows c.args.files.now)

pub returns-clause-settles : goal.returns-clause-settles
returns-clause-settles g c =
    settles_file c.args.plan.now c.args.opened.now c.args.node c.in-Some.file (search rules)
    (g.F.Files.shows c.args.files.now) (g.F.Files.shows c.settle_file.new.files)
    c.settle_file.ensures

pub returns-clause-settled : goal.returns-clause-settled
returns-clause-settled g c =
    settled_now c.args.plan.now c.args.opened.now c.args.node c.in-Some.file (search rules)
    (g.F.Files.shows c.args.files.now) (g.F.Files.shows c.settle_file.new.files)
    c.settle_file.ensures
