use Rattle.std.proofs.Common.{◌∙◌, sym, true, false}
use Rattle.plrun.specs.declared.looks.Found.TheVariants.{All, NotAll}
use Rattle.plrun.proofs.lemmas.LookLaws.{finds_files, found_by}
use Rattle.plrun.proofs.check.check.Goals as goal

pub returns-then-all_open : goal.returns-then-all_open
returns-then-all_open g c =
    let before = g.L.LooksAtFiles.looks c.args.look.now in
    let after = g.L.LooksAtFiles.looks c.through.new.look in
    let looks = c.in-Ok.looks in
    finds_files c.args.asked c.args.ran.now.read.plan c.in-Some.plan before after All
    c.in-Some.is
    (found_by c.args.asked c.in-Some.plan looks.kept.items before after looks.is_taken true
    c.in-Ok.ensures.through c.in-Ok.ensures.taken
    (sym c.if-all_open.true ∙ c.all_open.ensures))

pub returns : goal.returns
returns g c =
    let before = g.L.LooksAtFiles.looks c.args.look.now in
    let after = g.L.LooksAtFiles.looks c.through.new.look in
    let looks = c.in-Ok.looks in
    finds_files c.args.asked c.args.ran.now.read.plan c.in-Some.plan before after NotAll
    c.in-Some.is
    (found_by c.args.asked c.in-Some.plan looks.kept.items before after looks.is_taken false
    c.in-Ok.ensures.through c.in-Ok.ensures.taken
    (sym c.if-all_open.false ∙ c.all_open.ensures))
