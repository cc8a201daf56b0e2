use Rattle.std.proofs.Common.{◌∙◌, subst}
use Rattle.folders.specs.inner.Folder.{FolderShown, Touches, IsElsewhere, Looks, Loses, Grows}
use Rattle.folders.specs.inner.Memory.{Does}
use Rattle.folders.specs.declared.call.FolderCall.{FolderCall}
use Rattle.folders.specs.declared.call.FolderCall.TheVariants.{Append}
use Rattle.folders.proofs.lemmas.Memory.{touches_failed, looks_failed, loses_failed, looks_done, loses_done, appended, with_other}
use Rattle.folders.proofs.lemmas.MemoryCalls.{world, either, on_ok, some_from, grows}
use Rattle.folders.proofs.memory.MemoryFolderFolder.append.Goals as goal

pub returns-in-Ok-clause-grows : goal.returns-in-Ok-clause-grows
returns-in-Ok-clause-grows c known =
    let n = c.args.name.now in
    let call = Append n c.args.bytes.now in
    let old = c.args.self.now in
    let new = c.make.new.self in
    let does = subst (λ (k : FolderCall). Does k c.is_file-is_there.result c.make.result old new) c.in-Ok.ensures c.make.ensures.does in
    on_ok (λ (s s' : FolderShown). Grows n c.args.bytes.now s s') call c.is_file-is_there.result old new (λ there f f'. grows n c.args.bytes.now (world old) (some_from _ c.is_file-is_there.result c.is_file-is_there.ensures there) f f') c.make.result does

pub returns-in-Ok-clause-touches : goal.returns-in-Ok-clause-touches
returns-in-Ok-clause-touches c known =
    let n = c.args.name.now in
    let call = Append n c.args.bytes.now in
    let old = c.args.self.now in
    let new = c.make.new.self in
    let does = subst (λ (k : FolderCall). Does k c.is_file-is_there.result c.make.result old new) c.in-Ok.ensures c.make.ensures.does in
    either (λ (s s' : FolderShown). Touches n s s') call c.is_file-is_there.result old new (λ f f'. appended (world old) f f' n c.args.bytes.now) (λ f f'. touches_failed (world old) f f' n) c.make.result does

pub returns-in-Ok-clause-looks : goal.returns-in-Ok-clause-looks
returns-in-Ok-clause-looks c known =
    let n = c.args.name.now in
    let call = Append n c.args.bytes.now in
    let old = c.args.self.now in
    let new = c.make.new.self in
    let does = subst (λ (k : FolderCall). Does k c.is_file-is_there.result c.make.result old new) c.in-Ok.ensures c.make.ensures.does in
    either (λ (s s' : FolderShown). Looks (IsElsewhere n (world old).seen) s s') call c.is_file-is_there.result old new (λ f f'. looks_done (world old) f f' call (IsElsewhere n (world old).seen) (λ v shows m other. shows m ∙ with_other n m _ (world old).seen other)) (λ f f'. looks_failed (world old) f f' (IsElsewhere n (world old).seen)) c.make.result does

pub returns-in-Ok-clause-loses : goal.returns-in-Ok-clause-loses
returns-in-Ok-clause-loses c known =
    let n = c.args.name.now in
    let call = Append n c.args.bytes.now in
    let old = c.args.self.now in
    let new = c.make.new.self in
    let does = subst (λ (k : FolderCall). Does k c.is_file-is_there.result c.make.result old new) c.in-Ok.ensures c.make.ensures.does in
    either (λ (s s' : FolderShown). Loses s s') call c.is_file-is_there.result old new (λ f f'. loses_done (world old) f f' call) (λ f f'. loses_failed (world old) f f') c.make.result does
