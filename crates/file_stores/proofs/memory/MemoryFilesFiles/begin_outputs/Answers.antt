use Rattle.collector.proofs.Results.{on_ok}
use Rattle.file_stores.proofs.lemmas.FormerLaws.{begins_outputs}
use Rattle.file_stores.proofs.memory.MemoryFilesFiles.begin_outputs.Goals as goal

pub returns-clause-ok : goal.returns-clause-ok
returns-clause-ok c =
    let b = c.begin_former.ensures in
    on_ok c.begin_former.result
    (begins_outputs c.args.placing c.args.self.now c.begin_former.new.self) b.begins
