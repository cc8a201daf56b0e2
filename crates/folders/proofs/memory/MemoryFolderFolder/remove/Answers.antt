use Rattle.std.proofs.Common.{◌≡◌, ◌≢◌, inl, Bool, true, List, ℕ, sym, ◌∙◌, ap, subst}
use Rattle.folders.specs.inner.Folder.{FolderShown, Touches, IsElsewhere, Looks, Loses}
use Rattle.folders.specs.inner.Memory.{Does}
use Rattle.folders.specs.declared.call.FolderCall.TheVariants.{Remove}
use Rattle.folders.proofs.lemmas.Memory.{touches_failed, looks_failed, loses_failed, looks_done, loses_done, removed, with_other, with_same}
use Rattle.folders.proofs.lemmas.MemoryCalls.{world, either, on_ok}
use Rattle.folders.proofs.memory.MemoryFolderFolder.remove.Goals as goal

pub returns-in-Ok-clause-gone : goal.returns-in-Ok-clause-gone
returns-in-Ok-clause-gone c known =
    let n = c.args.name.now in
    let call = Remove n in
    let old = c.args.self.now in
    let new = c.make.new.self in
    let does = subst (λ (m : List ℕ). Does (Remove m) true c.make.result old new) c.in-Ok.ensures c.make.ensures.does in
    on_ok (λ (s s' : FolderShown). s'.seen n ≡ Rattle.std.proofs.Common.None) call true old new (λ there f f'. with_same n _ (world old).seen) c.make.result does

pub returns-in-Ok-clause-touches : goal.returns-in-Ok-clause-touches
returns-in-Ok-clause-touches c known =
    let n = c.args.name.now in
    let call = Remove n in
    let old = c.args.self.now in
    let new = c.make.new.self in
    let does = subst (λ (m : List ℕ). Does (Remove m) true c.make.result old new) c.in-Ok.ensures c.make.ensures.does in
    either (λ (s s' : FolderShown). Touches n s s') call true old new (λ f f'. removed (world old) f f' n) (λ f f'. touches_failed (world old) f f' n) c.make.result does

pub returns-in-Ok-clause-looks : goal.returns-in-Ok-clause-looks
returns-in-Ok-clause-looks c known =
    let n = c.args.name.now in
    let call = Remove n in
    let old = c.args.self.now in
    let new = c.make.new.self in
    let does = subst (λ (m : List ℕ). Does (Remove m) true c.make.result old new) c.in-Ok.ensures c.make.ensures.does in
    either (λ (s s' : FolderShown). Looks (IsElsewhere n (world old).seen) s s') call true old new (λ f f'. looks_done (world old) f f' call (IsElsewhere n (world old).seen) (λ v shows m other. shows m ∙ with_other n m _ (world old).seen other)) (λ f f'. looks_failed (world old) f f' (IsElsewhere n (world old).seen)) c.make.result does

pub returns-in-Ok-clause-loses : goal.returns-in-Ok-clause-loses
returns-in-Ok-clause-loses c known =
    let n = c.args.name.now in
    let call = Remove n in
    let old = c.args.self.now in
    let new = c.make.new.self in
    let does = subst (λ (m : List ℕ). Does (Remove m) true c.make.result old new) c.in-Ok.ensures c.make.ensures.does in
    either (λ (s s' : FolderShown). Loses s s') call true old new (λ f f'. loses_done (world old) f f' call) (λ f f'. loses_failed (world old) f f') c.make.result does
