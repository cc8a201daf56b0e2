use Rattle.std.proofs.Common.{refl, sym, subst, length, ◌<◌}
use Rattle.file_stores.specs.inner.Memory.{MemoryShown}
use Rattle.file_stores.proofs.lemmas.Takings.{undone}
use Rattle.collector.proofs.Results.{on_err_of}
use Rattle.file_stores.proofs.memory.MemoryFiles.take.Goals as goal

pub returns-then-is_err-clause-err : goal.returns-then-is_err-clause-err
returns-then-is_err-clause-err c =
    let outputs = undone c.self.inside.outputs.items c.args.file c.index_mut.result.now
    c.record.new.self c.index_mut-then-is_err.result.now c.forget.new.self c.args.bytes.now
    (subst (λ (m : MemoryShown). c.args.file < length m.outputs)
    (sym c.self.view_is) c.requires.opened) c.index_mut.ensures.value c.in_ok-record.ensures.ok
    c.index_mut-then-is_err.ensures.value c.forget.ensures in
    on_err_of c.grow-grown.result (λ same. rw (outputs, same.0, same.1, c.self.view_is) refl)
    c.grow-grown.ensures.err
