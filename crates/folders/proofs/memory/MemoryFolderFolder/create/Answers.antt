use Rattle.std.proofs.Common.{List, ℕ, ◌∙◌, subst}
use Rattle.std.specs.Prelude.{not}
use Rattle.folders.specs.inner.Folder.{FolderShown, Touches, Keeps, IsElsewhere, Looks, Loses, Makes}
use Rattle.folders.specs.inner.Memory.{Does}
use Rattle.folders.specs.declared.call.FolderCall.TheVariants.{Create}
use Rattle.folders.proofs.lemmas.Memory.{keeps_failed, touches_failed, looks_failed, loses_failed, looks_done, loses_done, created, with_other}
use Rattle.folders.proofs.lemmas.MemoryCalls.{world, either, on_ok, on_err, none_from, not_free, makes}
use Rattle.folders.proofs.memory.MemoryFolderFolder.create.Goals as goal

pub returns-in-Ok-clause-makes : goal.returns-in-Ok-clause-makes
returns-in-Ok-clause-makes c known =
    let n = c.args.name.now in
    let call = Create n in
    let old = c.args.self.now in
    let new = c.make.new.self in
    let does = subst (λ (m : List ℕ). Does (Create m) (not c.is_file-is_free.result) c.make.result old new) c.in-Ok.ensures c.make.ensures.does in
    on_ok (λ (s s' : FolderShown). Makes n s s') call (not c.is_file-is_free.result) old new (λ free f f'. makes n (world old) (none_from _ c.is_file-is_free.result c.is_file-is_free.ensures free) f f') c.make.result does

pub returns-in-Ok-clause-taken : goal.returns-in-Ok-clause-taken
returns-in-Ok-clause-taken c known some =
    let n = c.args.name.now in
    let call = Create n in
    let old = c.args.self.now in
    let new = c.make.new.self in
    let does = subst (λ (m : List ℕ). Does (Create m) (not c.is_file-is_free.result) c.make.result old new) c.in-Ok.ensures c.make.ensures.does in
    on_err (λ (s s' : FolderShown). Keeps s s') call (not c.is_file-is_free.result) old new (not_free _ c.is_file-is_free.result c.is_file-is_free.ensures some) (λ f f'. keeps_failed (world old) f f') c.make.result does

pub returns-in-Ok-clause-touches : goal.returns-in-Ok-clause-touches
returns-in-Ok-clause-touches c known =
    let n = c.args.name.now in
    let call = Create n in
    let old = c.args.self.now in
    let new = c.make.new.self in
    let does = subst (λ (m : List ℕ). Does (Create m) (not c.is_file-is_free.result) c.make.result old new) c.in-Ok.ensures c.make.ensures.does in
    either (λ (s s' : FolderShown). Touches n s s') call (not c.is_file-is_free.result) old new (λ f f'. created (world old) f f' n) (λ f f'. touches_failed (world old) f f' n) c.make.result does

pub returns-in-Ok-clause-looks : goal.returns-in-Ok-clause-looks
returns-in-Ok-clause-looks c known =
    let n = c.args.name.now in
    let call = Create n in
    let old = c.args.self.now in
    let new = c.make.new.self in
    let does = subst (λ (m : List ℕ). Does (Create m) (not c.is_file-is_free.result) c.make.result old new) c.in-Ok.ensures c.make.ensures.does in
    either (λ (s s' : FolderShown). Looks (IsElsewhere n (world old).seen) s s') call (not c.is_file-is_free.result) old new (λ f f'. looks_done (world old) f f' call (IsElsewhere n (world old).seen) (λ v shows m other. shows m ∙ with_other n m _ (world old).seen other)) (λ f f'. looks_failed (world old) f f' (IsElsewhere n (world old).seen)) c.make.result does

pub returns-in-Ok-clause-loses : goal.returns-in-Ok-clause-loses
returns-in-Ok-clause-loses c known =
    let n = c.args.name.now in
    let call = Create n in
    let old = c.args.self.now in
    let new = c.make.new.self in
    let does = subst (λ (m : List ℕ). Does (Create m) (not c.is_file-is_free.result) c.make.result old new) c.in-Ok.ensures c.make.ensures.does in
    either (λ (s s' : FolderShown). Loses s s') call (not c.is_file-is_free.result) old new (λ f f'. loses_done (world old) f f' call) (λ f f'. loses_failed (world old) f f') c.make.result does
