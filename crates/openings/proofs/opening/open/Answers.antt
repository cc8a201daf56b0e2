use Rattle.openings.proofs.lemmas.DestinationLaws.{leaves_loosely}
use Rattle.openings.proofs.lemmas.MoreOpenings.{opens_loosely}
use Rattle.openings.proofs.opening.open.Goals as goal

pub returns-clause-opens : goal.returns-clause-opens
returns-clause-opens g c =
    opens_loosely c.args.plan.now (g.F.Files.shows c.args.files.now)
    (g.F.Files.shows c.open_as.new.files)
    c.open_as.result c.open_as.ensures.opens

pub returns-clause-refused : goal.returns-clause-refused
returns-clause-refused g c = λ t.
    leaves_loosely c.args.plan.now (g.F.Files.shows c.args.files.now)
    (g.F.Files.shows c.open_as.new.files)
    c.open_as.result (c.open_as.ensures.refused t)
