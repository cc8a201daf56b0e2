use Rattle.file_stores.proofs.lemmas.FormerLaws.{puts_in_place_if, unheld_places}
use Rattle.file_stores.proofs.memory.MemoryFilesFiles.put_in_place.Goals as goal

pub returns-clause-ok : goal.returns-clause-ok
returns-clause-ok c =
    let p = c.place_content.ensures in
    puts_in_place_if c.args.file c.args.self.now c.place_content.new.self c.place_content.result
    p.puts p.only

pub returns-clause-unheld : goal.returns-clause-unheld
returns-clause-unheld c =
    let p = c.place_content.ensures in
    unheld_places _ c.place_content.result c.args.self.now.former p.needs
