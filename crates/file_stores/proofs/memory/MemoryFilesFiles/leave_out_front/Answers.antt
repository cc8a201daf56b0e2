use Rattle.std.proofs.Common.{refl}
use Rattle.collector.specs.InputEnds.{left_out_too}
use Rattle.file_stores.proofs.lemmas.MemoryLaws.{leaves_out, unread_own}
use Rattle.file_stores.proofs.lemmas.Numbers.{log_within}
use Rattle.file_stores.specs.inner.Ends.{end_of}
use Rattle.file_stores.specs.inner.Memory.{open_input}
use Rattle.file_stores.specs.inner.Opened.{read_log}
use Rattle.file_stores.proofs.memory.MemoryFilesFiles.leave_out_front.Goals as goal

pub leave_out_content-requires-clause-unread : goal.leave_out_content-requires-clause-unread
leave_out_content-requires-clause-unread c =
    unread_own c.args.file c.args.self.now
    (log_within read_log c.args.self.now.inputs c.args.file c.requires.opened) c.requires.unread

pub returns-clause-only : goal.returns-clause-only
returns-clause-only c =
    let m = c.args.self.now in
    leaves_out c.args.file (end_of c.args.needed (open_input m c.args.file).content)
    (left_out_too (open_input m c.args.file).left c.args.needed) m
    c.leave_out_content.new.self c.leave_out_content.ensures.after c.args.needed
    c.leave_out_content.ensures.first c.leave_out_content.ensures.left refl
