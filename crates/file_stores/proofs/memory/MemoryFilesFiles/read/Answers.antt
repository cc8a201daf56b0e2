use Rattle.collector.proofs.Results.{if_ok_both}
use Rattle.file_stores.proofs.lemmas.MemoryLaws.{reads_told}
use Rattle.file_stores.proofs.lemmas.Holdings.{reads_only}
use Rattle.file_stores.proofs.memory.MemoryFilesFiles.read.Goals as goal

pub returns-clause-told : goal.returns-clause-told
returns-clause-told c =
    if_ok_both c.read_content.result
    (λ count given within. reads_told c.args.file count c.args.into.now c.read_content.new.into
    c.args.self.now c.read_content.new.self given within) c.read_content.ensures.ok
    c.read_content.ensures.within

pub returns-clause-only : goal.returns-clause-only
returns-clause-only c =
    reads_only c.args.file c.args.into.now c.read_content.new.into c.args.self.now
    c.read_content.new.self c.read_content.result c.requires.opened c.read_content.ensures.ok
    c.read_content.ensures.within c.read_content.ensures.most c.read_content.ensures.failed
