use Rattle.collector.proofs.Results.{if_ok_both}
use Rattle.file_stores.proofs.lemmas.Holdings.{opens_held}
use Rattle.file_stores.proofs.memory.MemoryFilesFiles.open_in.Goals as goal

pub returns-clause-held : goal.returns-clause-held
returns-clause-held c = λ known.
    if_ok_both c.open_input.result
    (λ file opened same. opens_held file c.args.self.now c.open_input.new.self c.args.name.now
    opened) c.open_input.ensures.ok c.open_input.ensures.ok
