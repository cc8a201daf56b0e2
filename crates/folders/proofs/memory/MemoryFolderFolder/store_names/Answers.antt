use Rattle.std.proofs.Common.{true}
use Rattle.folders.specs.inner.Folder.{FolderShown, Keeps, Shows, Looks, Loses, NamesAreStored}
use Rattle.folders.specs.declared.call.FolderCall.TheVariants.{StoreNames}
use Rattle.folders.proofs.lemmas.Memory.{keeps_failed, looks_failed, loses_failed, looks_done, loses_done, names_stored}
use Rattle.folders.proofs.lemmas.MemoryCalls.{world, either, on_ok}
use Rattle.folders.proofs.memory.MemoryFolderFolder.store_names.Goals as goal

pub returns-clause-stored : goal.returns-clause-stored
returns-clause-stored c known =
    let call = StoreNames in
    let old = c.args.self.now in
    let new = c.make.new.self in
    let does = c.make.ensures.does in
    on_ok (λ (s s' : FolderShown). NamesAreStored s') call true old new (λ there f f' n x now. now.1) c.make.result does

pub returns-clause-keeps : goal.returns-clause-keeps
returns-clause-keeps c known =
    let call = StoreNames in
    let old = c.args.self.now in
    let new = c.make.new.self in
    let does = c.make.ensures.does in
    either (λ (s s' : FolderShown). Keeps s s') call true old new (λ f f'. names_stored (world old) f f') (λ f f'. keeps_failed (world old) f f') c.make.result does

pub returns-clause-looks : goal.returns-clause-looks
returns-clause-looks c known =
    let call = StoreNames in
    let old = c.args.self.now in
    let new = c.make.new.self in
    let does = c.make.ensures.does in
    either (λ (s s' : FolderShown). Looks (Shows (world old).seen) s s') call true old new (λ f f'. looks_done (world old) f f' call _ (λ v shows. shows)) (λ f f'. looks_failed (world old) f f' _) c.make.result does

pub returns-clause-loses : goal.returns-clause-loses
returns-clause-loses c known =
    let call = StoreNames in
    let old = c.args.self.now in
    let new = c.make.new.self in
    let does = c.make.ensures.does in
    either (λ (s s' : FolderShown). Loses s s') call true old new (λ f f'. loses_done (world old) f f' call) (λ f f'. loses_failed (world old) f f') c.make.result does
