use Rattle.file_stores.proofs.lemmas.FormerLaws.{leaves_outputs}
use Rattle.file_stores.proofs.memory.MemoryFilesFiles.leave_outputs.Goals as goal

pub returns-clause-only : goal.returns-clause-only
returns-clause-only c =
    leaves_outputs c.args.self.now c.leave_former.new.self c.leave_former.ensures
