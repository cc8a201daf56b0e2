use Rattle.file_stores.proofs.lemmas.PlacedLaws.{lines_in_file}
use Rattle.file_stores.proofs.placed.lines_in.Goals as goal

pub returns-in-Found : goal.returns-in-Found
returns-in-Found g c =
    lines_in_file (g.F.AnyPlace.placed c.args.file.now) c.args.count c.saturating_sub-passed.result
    c.args.first c.in-Found.place c.args.size c.search_back.result c.in_ok-found.found
    c.checked_add.result _
    c.requires c.saturating_sub-passed.ensures c.checked_add.ensures c.search_back.ensures
    c.in_ok-found.was c.in-Found.is
