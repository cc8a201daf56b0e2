-- The clauses of the calls of a folder in memory.
use Rattle.std.proofs.Common.{◌≡◌, ◌≢◌, ℕ, Bool, List, [], ◌∷◌, ◌++◌, Option, Some, None, refl, sym, ◌∙◌, ap, subst}
use Rattle.std.specs.Prelude.{IsTrue, IsSome, OnOk, Result, Ok, Err, ⊤, is_some, not, option_map}
use Rattle.folders.specs.inner.Calls.{Failures}
use Rattle.folders.specs.inner.Folder.{FolderShown, Makes, Grows, IsStored, Renames, MayRename}
use Rattle.folders.specs.inner.Memory.{Does, after, played, empty, failing, failures_of, shown_by}
use Rattle.folders.specs.declared.call.FolderCall.{FolderCall}
use Rattle.folders.specs.declared.call.FolderCall.TheVariants.{Create, Append, Store, Rename}
use Rattle.folders.specs.declared.fault.CallFault.{CallFault}
use Rattle.folders.specs.declared.memory.MemoryFolder.{MemoryFolder}
use Rattle.folders.proofs.lemmas.Memory.{played_push, with_same, moved, may_move}

-- what is shown without the failures
abbrev pub world : MemoryFolder → FolderShown
world m = played m.calls.items empty

done_world : (call : FolderCall) (old new : MemoryFolder) → new.calls.items ≡ old.calls.items ++ call ∷ [] → world new ≡ after call (world old)
done_world call old new is = ap (λ (l : List FolderCall). played l empty) is ∙ played_push old.calls.items call empty

failed_world : (old new : MemoryFolder) → new.calls.items ≡ old.calls.items → world new ≡ world old
failed_world old new is = ap (λ (l : List FolderCall). played l empty) is

-- what holds if the call is done, which is possible then, and if it fails
pub either_if : (C : FolderShown → FolderShown → Type 0) (call : FolderCall) (p : Bool) (old new : MemoryFolder)
    → (IsTrue p → (f f' : Failures) → C (failing f (world old)) (failing f' (after call (world old))))
    → ((f f' : Failures) → C (failing f (world old)) (failing f' (world old)))
    → (r : Result ⊤ CallFault) → Does call p r old new → C (shown_by old) (shown_by new)
either_if C call p old new done failed (Ok _) does =
    subst (λ (s : FolderShown). C (shown_by old) (failing (failures_of new) s)) (sym (done_world call old new does.1)) (done does.0 (failures_of old) (failures_of new))
either_if C call p old new done failed (Err _) does =
    subst (λ (s : FolderShown). C (shown_by old) (failing (failures_of new) s)) (sym (failed_world old new does)) (failed (failures_of old) (failures_of new))

-- the same if that it is possible does not matter
pub either : (C : FolderShown → FolderShown → Type 0) (call : FolderCall) (p : Bool) (old new : MemoryFolder)
    → ((f f' : Failures) → C (failing f (world old)) (failing f' (after call (world old))))
    → ((f f' : Failures) → C (failing f (world old)) (failing f' (world old)))
    → (r : Result ⊤ CallFault) → Does call p r old new → C (shown_by old) (shown_by new)
either C call p old new done failed r does = either_if C call p old new (λ _. done) failed r does

-- what holds at Ok
pub on_ok : (C : FolderShown → FolderShown → Type 0) (call : FolderCall) (p : Bool) (old new : MemoryFolder)
    → (IsTrue p → (f f' : Failures) → C (failing f (world old)) (failing f' (after call (world old))))
    → (r : Result ⊤ CallFault) → Does call p r old new → OnOk r (C (shown_by old) (shown_by new))
on_ok C call p old new done (Ok _) does =
    subst (λ (s : FolderShown). C (shown_by old) (failing (failures_of new) s)) (sym (done_world call old new does.1)) (done does.0 (failures_of old) (failures_of new))
on_ok C call p old new done (Err _) does = _

-- what holds at Err, or of a call that is not possible
pub on_err : (C : FolderShown → FolderShown → Type 0) (call : FolderCall) (p : Bool) (old new : MemoryFolder)
    → (IsTrue p → ⊥) → ((f f' : Failures) → C (failing f (world old)) (failing f' (world old)))
    → (r : Result ⊤ CallFault) → Does call p r old new → C (shown_by old) (shown_by new)
on_err C call p old new not_done failed (Ok _) does = absurd (not_done does.0)
on_err C call p old new not_done failed (Err _) does =
    subst (λ (s : FolderShown). C (shown_by old) (failing (failures_of new) s)) (sym (failed_world old new does)) (failed (failures_of old) (failures_of new))

-- ---- names that are looked at

pub none_from : (o : Option (List ℕ)) (r : Bool) → r ≡ is_some o → IsTrue (not r) → o ≡ None
none_from None r is free = refl
none_from (Some b) r is free = absurd (cc (sym free ∙ ap not is))

pub some_from : (o : Option (List ℕ)) (r : Bool) → r ≡ is_some o → IsTrue r → (b : List ℕ) × (o ≡ Some b)
some_from None r is there = absurd (cc (sym there ∙ is))
some_from (Some b) r is there = (b, refl)

pub not_free : (o : Option (List ℕ)) (r : Bool) → r ≡ is_some o → IsSome o → IsTrue (not r) → ⊥
not_free o r is some free = absurd (cc (sym free ∙ ap not (is ∙ some)))

pub makes : (name : List ℕ) (s : FolderShown) → s.seen name ≡ None → (f f' : Failures) → Makes name (failing f s) (failing f' (after (Create name) s))
makes name s free f f' = (free, with_same name (Some []) s.seen)

pub grows : (name bytes : List ℕ) (s : FolderShown) → (b : List ℕ) × (s.seen name ≡ Some b) → (f f' : Failures)
    → Grows name bytes (failing f s) (failing f' (after (Append name bytes) s))
grows name bytes s file f f' =
    (file.0, file.1, with_same name (option_map (λ b. b ++ bytes) (s.seen name)) s.seen ∙ ap (option_map (λ b. b ++ bytes)) file.1)

pub is_stored : (name : List ℕ) (s : FolderShown) → (b : List ℕ) × (s.seen name ≡ Some b) → (f' : Failures) → IsStored name (failing f' (after (Store name) s))
is_stored name s file f' = (file.0, file.1, λ c held. cc (sym (held.1 refl) ∙ file.1))

pub renames : (from to : List ℕ) (s : FolderShown) → from ≢ to → (b : List ℕ) × (s.seen from ≡ Some b) → (f f' : Failures)
    → Renames from to (failing f s) (failing f' (after (Rename from to) s))
renames from to s apart file f f' = moved s f f' from to apart file.0 file.1

pub may_rename : (from to : List ℕ) (s : FolderShown) → from ≢ to → (b : List ℕ) × (s.seen from ≡ Some b) → (f f' : Failures)
    → MayRename from to (failing f s) (failing f' (after (Rename from to) s))
may_rename from to s apart file f f' = may_move s f f' from to apart file.0 file.1
