use Rattle.std.proofs.Common.{subst}
use Rattle.folders.specs.inner.Folder.{FolderShown, IsElsewhere, Looks, Loses, Renames, MayRename}
use Rattle.folders.specs.inner.Memory.{Does}
use Rattle.folders.specs.declared.call.FolderCall.{FolderCall}
use Rattle.folders.specs.declared.call.FolderCall.TheVariants.{Rename}
use Rattle.folders.proofs.lemmas.Memory.{looks_failed, loses_failed, may_failed, looks_done, loses_done}
use Rattle.folders.proofs.lemmas.MemoryCalls.{world, either, either_if, may_rename, on_ok, some_from, renames}
use Rattle.folders.proofs.memory.MemoryFolderFolder.rename.Goals as goal

pub returns-in-Ok-clause-renames : goal.returns-in-Ok-clause-renames
returns-in-Ok-clause-renames c known =
    let from = c.args.from.now in
    let to = c.args.to.now in
    let call = Rename from to in
    let old = c.args.self.now in
    let new = c.make.new.self in
    let does = subst (λ (k : FolderCall). Does k c.is_file-is_there.result c.make.result old new) c.in-Ok.ensures c.make.ensures.does in
    on_ok (λ (s s' : FolderShown). Renames from to s s') call c.is_file-is_there.result old new (λ there f f'. renames from to (world old) c.requires (some_from _ c.is_file-is_there.result c.is_file-is_there.ensures there) f f') c.make.result does

pub returns-in-Ok-clause-may : goal.returns-in-Ok-clause-may
returns-in-Ok-clause-may c known =
    let from = c.args.from.now in
    let to = c.args.to.now in
    let call = Rename from to in
    let old = c.args.self.now in
    let new = c.make.new.self in
    let does = subst (λ (k : FolderCall). Does k c.is_file-is_there.result c.make.result old new) c.in-Ok.ensures c.make.ensures.does in
    either_if (λ (s s' : FolderShown). MayRename from to s s') call c.is_file-is_there.result old new (λ there f f'. may_rename from to (world old) c.requires (some_from _ c.is_file-is_there.result c.is_file-is_there.ensures there) f f') (λ f f'. may_failed (world old) f f' from to) c.make.result does

pub returns-in-Ok-clause-looks : goal.returns-in-Ok-clause-looks
returns-in-Ok-clause-looks c known =
    let from = c.args.from.now in
    let to = c.args.to.now in
    let call = Rename from to in
    let old = c.args.self.now in
    let new = c.make.new.self in
    let does = subst (λ (k : FolderCall). Does k c.is_file-is_there.result c.make.result old new) c.in-Ok.ensures c.make.ensures.does in
    either (λ (s s' : FolderShown). Looks (IsElsewhere from s'.seen) s s') call c.is_file-is_there.result old new (λ f f'. looks_done (world old) f f' call _ (λ v shows m other. shows m)) (λ f f'. looks_failed (world old) f f' _) c.make.result does

pub returns-in-Ok-clause-loses : goal.returns-in-Ok-clause-loses
returns-in-Ok-clause-loses c known =
    let from = c.args.from.now in
    let to = c.args.to.now in
    let call = Rename from to in
    let old = c.args.self.now in
    let new = c.make.new.self in
    let does = subst (λ (k : FolderCall). Does k c.is_file-is_there.result c.make.result old new) c.in-Ok.ensures c.make.ensures.does in
    either (λ (s s' : FolderShown). Loses s s') call c.is_file-is_there.result old new (λ f f'. loses_done (world old) f f' call) (λ f f'. loses_failed (world old) f f') c.make.result does
