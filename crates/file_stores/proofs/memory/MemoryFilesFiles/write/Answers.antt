use Rattle.std.specs.Prelude.{take}
use Rattle.collector.proofs.Results.{if_ok_both}
use Rattle.file_stores.proofs.lemmas.Holdings.{writes_content, writes_only}
use Rattle.file_stores.proofs.memory.MemoryFilesFiles.write.Goals as goal

pub returns-clause-only : goal.returns-clause-only
returns-clause-only c =
    writes_only c.args.file c.args.from.now c.args.self.now c.write_content.new.self
    c.write_content.result c.requires.opened c.write_content.ensures.ok
    c.write_content.ensures.failed

pub returns-clause-told : goal.returns-clause-told
returns-clause-told c =
    if_ok_both c.write_content.result (λ count ok same. let both =
    writes_content c.args.file (take count c.args.from.now) c.args.self.now
    c.write_content.new.self ok.1 in both.1)
    c.write_content.ensures.ok c.write_content.ensures.ok
