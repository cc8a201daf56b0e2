use Rattle.std.proofs.Common.{sym, ◌∙◌, ap, List, ℕ}
use Rattle.std.specs.Prelude.{is_some}
use Rattle.folders.specs.inner.Folder.{View}
use Rattle.folders.specs.inner.Memory.{viewed, no_file, empty}
use Rattle.folders.specs.declared.call.FolderCall.{FolderCall}
use Rattle.folders.proofs.lemmas.Memory.{seen_played}
use Rattle.folders.proofs.memory.MemoryFolder.is_file.Goals as goal

pub returns : goal.returns
returns c =
    c.is_file.ensures ∙ ap (λ (n : List ℕ). is_some (viewed c.as_slice.result.now no_file n)) c.bytes.ensures
    ∙ ap (λ (calls : List FolderCall). is_some (viewed calls no_file c.args.name.now)) c.as_slice.ensures.value
    ∙ ap (λ (v : View). is_some (v c.args.name.now)) (sym (seen_played c.args.self.now.calls.items empty))
