-- What is seen of a folder in memory may be left.
use Rattle.std.proofs.Common.{◌≡◌, ◌≢◌, ◌⊎◌, inl, inr, ⊎_elim, ℕ, List, [], ◌∷◌, ◌++◌, Option, Some, None, refl, sym, ◌∙◌, ap, subst}
use Rattle.std.specs.Prelude.{option_map}
use Rattle.folders.specs.inner.Folder.{FolderShown, IsEntry}
use Rattle.folders.specs.inner.Memory.{after, empty, played, with_name}
use Rattle.folders.specs.inner.MemoryReal.{MayLeaveSeen, LooksMayBeLeft}
use Rattle.folders.specs.inner.Outputs.{renamed}
use Rattle.folders.specs.declared.call.FolderCall.{FolderCall}
use Rattle.folders.specs.declared.call.FolderCall.TheVariants.{Create, Append, Store, Rename, Remove, StoreNames}
use Rattle.folders.proofs.lemmas.Memory.{with_other}
use Rattle.folders.proofs.lemmas.Names.{name_cases, renamed_to, renamed_from, renamed_other}

-- a name is an entry of what it means
entry : (s : FolderShown) → MayLeaveSeen s → (n : List ℕ) (held : Option (List ℕ)) → s.seen n ≡ held → IsEntry s n held
entry s real n None is = inl (is, refl)
entry s real n (Some b) is = inr (b, real.bytes n b is, refl)

module _ (s : FolderShown) (real : MayLeaveSeen s) where
  named : (name : List ℕ) (c : Option (List ℕ)) (n : List ℕ) → (n ≡ name) ⊎ s.may_hold n (with_name name c s.seen n)
  named name c n = ⊎_elim
      (λ e. inl e)
      (λ other. inr (subst (λ (x : Option (List ℕ)). s.may_hold n x) (sym (with_other name n c s.seen other)) (real.names n)))
      (name_cases n name)

  named_bytes : (name : List ℕ) (c : Option (List ℕ)) (n b : List ℕ) → with_name name c s.seen n ≡ Some b → (n ≡ name) ⊎ s.bytes_of n b
  named_bytes name c n b is = ⊎_elim
      (λ e. inl e)
      (λ other. inr (real.bytes n b (sym (with_other name n c s.seen other) ∙ is)))
      (name_cases n name)

  moved_names : (from to n : List ℕ) → s.may_hold n (renamed from to s.seen n) ⊎ ((n ≡ from) ⊎ ((n ≡ to) × IsEntry s from (renamed from to s.seen n)))
  moved_names from to n = ⊎_elim
      (λ e. inr (inr (e, entry s real from (renamed from to s.seen n) (sym (ap (renamed from to s.seen) e ∙ renamed_to from to s.seen)))))
      (λ not. ⊎_elim
      (λ e. inr (inl e))
      (λ nof. inl (subst (λ (x : Option (List ℕ)). s.may_hold n x) (sym (renamed_other from to n s.seen nof not)) (real.names n)))
      (name_cases n from))
      (name_cases n to)

  moved_bytes : (from to n b : List ℕ) → renamed from to s.seen n ≡ Some b → ((n ≡ to) × s.bytes_of from b) ⊎ ((n ≢ to) × s.bytes_of n b)
  moved_bytes from to n b is = ⊎_elim
      (λ e. inl (e, real.bytes from b (sym (renamed_to from to s.seen) ∙ ap (renamed from to s.seen) (sym e) ∙ is)))
      (λ not. inr (
        not,
        ⊎_elim
            (λ e. absurd (cc (sym (renamed_from from to s.seen (λ same. not (e ∙ same))) ∙ ap (renamed from to s.seen) (sym e) ∙ is)))
            (λ nof. real.bytes n b (sym (renamed_other from to n s.seen nof not) ∙ is))
            (name_cases n from),
      ))
      (name_cases n to)

real_after : (call : FolderCall) (s : FolderShown) → MayLeaveSeen s → MayLeaveSeen (after call s)
real_after (Create name) s real = record { names = named s real name (Some []); bytes = named_bytes s real name (Some []) }
real_after (Append name more) s real =
    let grown = option_map (λ b. b ++ more) (s.seen name) in
    record { names = named s real name grown; bytes = named_bytes s real name grown }
real_after (Store name) s real = record {
  names = real.names;
  bytes = λ n b is. (real.bytes n b is, λ e. subst (λ (m : List ℕ). s.seen m ≡ Some b) e is);
}
real_after (Rename from to) s real = record { names = moved_names s real from to; bytes = moved_bytes s real from to }
real_after (Remove name) s real = record { names = named s real name None; bytes = named_bytes s real name None }
real_after StoreNames s real = record { names = λ n. (real.names n, entry s real n (s.seen n) refl); bytes = real.bytes }

real_played : (calls : List FolderCall) (s : FolderShown) → MayLeaveSeen s → MayLeaveSeen (played calls s)
real_played [] s real = real
real_played (call ∷ calls) s real = real_played calls (after call s) (real_after call s real)

real_empty : MayLeaveSeen empty
real_empty = record { names = λ n. refl; bytes = λ n b is. absurd (cc is) }

pub looks_may_be_left : LooksMayBeLeft
looks_may_be_left m =
    let real = real_played m.calls.items empty real_empty in
    record { names = real.names; bytes = real.bytes }
