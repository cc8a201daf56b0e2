use Rattle.std.proofs.Common.{length, refl, sym}
use Rattle.std.proofs.lemmas.Bool.{ltb-false}
use Rattle.std.proofs.lemmas.Option.{slice_get_past, slice_get_read}
use Rattle.openings.proofs.lemmas.NeedLaws.{need_is, no_need}
use Rattle.openings.proofs.parts.need_for.Goals as goal

pub returns-in-Some : goal.returns-in-Some
returns-in-Some c =
    let needs = c.args.needs.now in
    let look = c.in-Some.ensures.lookup in
    need_is c.args._plan.now needs c.requires c.args.node c.in-Some.need.now
    (slice_get_read needs (length needs) c.args.node c.in-Some.need.now refl look.3.0
    (look.3.1 c.in-Some.need.now))

pub returns-in-None : goal.returns-in-None
returns-in-None c =
    let needs = c.args.needs.now in
    let look = c.in-None.ensures.lookup in
    no_need c.args._plan.now needs c.requires c.args.node
    (slice_get_past needs c.args.node (ltb-false c.args.node (length needs) (sym look.0)))
