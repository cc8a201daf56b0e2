use Rattle.collector.proofs.Results.{if_ok_both}
use Rattle.file_stores.proofs.lemmas.Holdings.{opens_destination}
use Rattle.file_stores.proofs.memory.MemoryFilesFiles.open_out.Goals as goal

pub returns-clause-holds : goal.returns-clause-holds
returns-clause-holds c = λ told.
    if_ok_both c.open_output.result
    (λ file to same. opens_destination file c.args.self.now c.open_output.new.self
    c.args.name.now to) c.open_output.ensures.ok c.open_output.ensures.ok
