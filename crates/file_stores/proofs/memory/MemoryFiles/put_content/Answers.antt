use Rattle.std.proofs.Common.{◌≡◌, List, Some, OnErr, IsSome, sym, subst}
use Rattle.std.specs.Prelude.{option_and_then}
use Rattle.collector.proofs.Results.{on_err_of}
use Rattle.file_stores.specs.inner.Memory.{MemoryShown, content_of}
use Rattle.file_stores.specs.inner.Opened.{OpenedOutput, target_at}
use Rattle.file_stores.proofs.lemmas.FormerLaws.{is_there}
use Rattle.file_stores.proofs.memory.MemoryFiles.put_content.Goals as goal

pub returns-in-Some-clause-needs : goal.returns-in-Some-clause-needs
returns-in-Some-clause-needs c =
    let inside = c.self.inside in
    let target =
    sym (subst (λ (outputs : List OpenedOutput). Some c.in-Some.name.now
    ≡ target_at outputs c.args.file) c.as_slice.ensures.value c.in-Some.ensures) in
    subst (λ (m : MemoryShown). OnErr c.put_in.result
    (IsSome m.former
    × IsSome (option_and_then (content_of m.contents) (target_at m.outputs c.args.file))))
    c.self.view_is
    (on_err_of c.put_in.result
    (λ n. (
      n.0,
      is_there inside.contents
          (target_at inside.outputs.items c.args.file) c.in-Some.name.now target n.1,
    ))
    c.put_in.ensures.needed)
