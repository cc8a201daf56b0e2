use Rattle.std.proofs.Common.{refl}
use Rattle.file_stores.proofs.lemmas.MemoryLaws.{leaves_rest, unread_own}
use Rattle.file_stores.proofs.lemmas.Numbers.{log_within}
use Rattle.file_stores.specs.inner.Memory.{open_input}
use Rattle.file_stores.specs.inner.Opened.{read_log}
use Rattle.machine.specs.FrontLines.{first_lines}
use Rattle.file_stores.proofs.memory.MemoryFilesFiles.leave_rest.Goals as goal

pub leave_rest_content-requires-clause-unread : goal.leave_rest_content-requires-clause-unread
leave_rest_content-requires-clause-unread c =
    unread_own c.args.file c.args.self.now
    (log_within read_log c.args.self.now.inputs c.args.file c.requires.opened) c.requires.unread

pub returns-clause-only : goal.returns-clause-only
returns-clause-only c =
    let m = c.args.self.now in
    leaves_rest c.args.file (first_lines c.args.lines (open_input m c.args.file).content)
    (open_input m c.args.file).left m
    c.leave_rest_content.new.self c.leave_rest_content.ensures.after c.args.lines
    c.leave_rest_content.ensures.first refl refl
