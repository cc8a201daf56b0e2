-- What each call changes of what a folder in memory shows.
use Rattle.std.proofs.lemmas.List.{take_all, take_more}
use Rattle.std.proofs.Common.{◌≡◌, ◌≢◌, inl, inr, ⊎_elim, ℕ, ◌+◌, ◌-◌, ◌≤◌, length, take, get_or, Bool, cond, List, [], ◌∷◌, ◌++◌, Option, Some, None, refl, sym, ◌∙◌, ap, arith}
use Rattle.std.specs.Prelude.{bytes_eq, is_some, option_map}
use Rattle.std.proofs.lemmas.Bool.{cases_Bool}
use Rattle.std.proofs.lemmas.Slice.Eq.{bytes_eq-Decides}
use Rattle.folders.specs.inner.Calls.{Failures}
use Rattle.folders.specs.inner.Folder.{View, FolderShown, Touches, Keeps, Shows, Looks, Loses, Renames, MayRename}
use Rattle.folders.specs.inner.Memory.{after, played, viewed, view_after, with_name, failing, no_file}
use Rattle.folders.specs.declared.call.FolderCall.{FolderCall}
use Rattle.folders.specs.declared.call.FolderCall.TheVariants.{Create, Append, Store, Rename, Remove, StoreNames}
use Rattle.folders.proofs.lemmas.Names.{name_cases, renamed_to, renamed_from, renamed_other}

-- ---- one call more

pub played_push : (calls : List FolderCall) (call : FolderCall) (s : FolderShown) → played (calls ++ call ∷ []) s ≡ after call (played calls s)
played_push [] call s = refl
played_push (c ∷ calls) call s = played_push calls call (after c s)

pub viewed_push : (calls : List FolderCall) (call : FolderCall) (view : View) → viewed (calls ++ call ∷ []) view ≡ view_after call (viewed calls view)
viewed_push [] call view = refl
viewed_push (c ∷ calls) call view = viewed_push calls call (view_after c view)

pub seen_played : (calls : List FolderCall) (s : FolderShown) → (played calls s).seen ≡ viewed calls s.seen
seen_played [] s = refl
seen_played (c ∷ calls) s = seen_played calls (after c s)

-- ---- names

pub with_same : (name : List ℕ) (c : Option (List ℕ)) (view : View) → with_name name c view name ≡ c
with_same name c view = ap (λ (b : Bool). cond b c (view name)) ((bytes_eq-Decides name name).1 refl)

pub with_other : (name n : List ℕ) (c : Option (List ℕ)) (view : View) → n ≢ name → with_name name c view n ≡ view n
with_other name n c view other = ⊎_elim
    (λ t. absurd (other ((bytes_eq-Decides n name).0 t)))
    (λ f. ap (λ (b : Bool). cond b c (view n)) f)
    (cases_Bool (bytes_eq n name))

-- ---- a call that fails changes nothing but the failures

module _ (s : FolderShown) (f f' : Failures) where
  pub keeps_failed : Keeps (failing f s) (failing f' s)
  keeps_failed = record { seen = λ n. refl; may = λ n c now. now; bytes = λ n b now. now }

  pub touches_failed : (name : List ℕ) → Touches name (failing f s) (failing f' s)
  touches_failed name = record { seen = λ n other. refl; may = λ n c other now. now; bytes = λ n b other now. now }

  pub looks_failed : (P : View → Type 0) → Looks P (failing f s) (failing f' s)
  looks_failed P = record { later = omega arith; nothing_else = λ t v le left. inl left; keeps = λ t v le past. past }

  pub loses_failed : Loses (failing f s) (failing f' s)
  loses_failed n = record { later = omega arith; nothing_else = λ t c le left. inl left; keeps = λ t c le past. past }

  pub may_failed : (from to : List ℕ) → MayRename from to (failing f s) (failing f' s)
  may_failed from to = record { to_may = λ c now. inl now; may = λ n c nof not now. now; bytes = λ n b not now. now }

-- ---- a call that is done

module _ (s : FolderShown) (f f' : Failures) where
  pub looks_done : (call : FolderCall) (P : View → Type 0) → ((v : View) → Shows (view_after call s.seen) v → P v) → Looks P (failing f s) (failing f' (after call s))
  looks_done call P here = record {
    later = omega arith;
    nothing_else = λ t v le. ⊎_elim (λ shows. inr (here v shows)) (λ past. inl past.1);
    keeps = λ t v le past. inr (le, past);
  }

  pub loses_done : (call : FolderCall) → Loses (failing f s) (failing f' (after call s))
  loses_done call n = record {
    later = omega arith;
    nothing_else = λ t c le. ⊎_elim (λ now. inr now) (λ past. inl past.1);
    keeps = λ t c le past. inr (le, past);
  }

  pub created : (name : List ℕ) → Touches name (failing f s) (failing f' (after (Create name) s))
  created name = record {
    seen = λ n other. with_other name n (Some []) s.seen other;
    may = λ n c other. ⊎_elim (λ e. absurd (other e)) (λ was. was);
    bytes = λ n b other. ⊎_elim (λ e. absurd (other e)) (λ was. was);
  }

  pub appended : (name bytes : List ℕ) → Touches name (failing f s) (failing f' (after (Append name bytes) s))
  appended name bytes = record {
    seen = λ n other. with_other name n (option_map (λ b. b ++ bytes) (s.seen name)) s.seen other;
    may = λ n c other. ⊎_elim (λ e. absurd (other e)) (λ was. was);
    bytes = λ n b other. ⊎_elim (λ e. absurd (other e)) (λ was. was);
  }

  pub removed : (name : List ℕ) → Touches name (failing f s) (failing f' (after (Remove name) s))
  removed name = record {
    seen = λ n other. with_other name n None s.seen other;
    may = λ n c other. ⊎_elim (λ e. absurd (other e)) (λ was. was);
    bytes = λ n b other. ⊎_elim (λ e. absurd (other e)) (λ was. was);
  }

  pub stored : (name : List ℕ) → Keeps (failing f s) (failing f' (after (Store name) s))
  stored name = record { seen = λ n. refl; may = λ n c now. now; bytes = λ n b now. now.0 }

  pub stored_touches : (name : List ℕ) → Touches name (failing f s) (failing f' (after (Store name) s))
  stored_touches name = record { seen = λ n other. refl; may = λ n c other now. now; bytes = λ n b other now. now.0 }

  pub names_stored : Keeps (failing f s) (failing f' (after StoreNames s))
  names_stored = record { seen = λ n. refl; may = λ n c now. now.0; bytes = λ n b now. now }

  pub moved : (from to : List ℕ) → from ≢ to → (b : List ℕ) → s.seen from ≡ Some b → Renames from to (failing f s) (failing f' (after (Rename from to) s))
  moved from to apart b is = record {
    whole = (b, is);
    moved = renamed_to from to s.seen;
    free = renamed_from from to s.seen apart;
    others = λ n nof not. renamed_other from to n s.seen nof not;
    bytes = λ c. ⊎_elim (λ new. new.1) (λ old. absurd (old.0 refl));
  }

  pub may_move : (from to : List ℕ) → from ≢ to → (b : List ℕ) → s.seen from ≡ Some b → MayRename from to (failing f s) (failing f' (after (Rename from to) s))
  may_move from to apart b is = record {
    to_may = λ c. ⊎_elim (λ was. inl was) (⊎_elim
        (λ e. absurd (apart (sym e)))
        (λ new. ⊎_elim (λ none. absurd (cc (sym none.0 ∙ is))) (λ some. inr some) new.1));
    may = λ n c nof not. ⊎_elim (λ was. was) (⊎_elim (λ e. absurd (nof e)) (λ new. absurd (not new.0)));
    bytes = λ n b not. ⊎_elim (λ new. absurd (not new.0)) (λ old. old.1);
  }

-- ---- the last call

pub seen_last : (calls : List FolderCall) (last call : FolderCall) (name : List ℕ) → 1 ≤ length calls
    → last ≡ get_or calls (length calls - 1) last → last ≡ call
    → viewed calls no_file name ≡ view_after call (viewed (take (length calls - 1) calls) no_file) name
seen_last calls last call name some at is =
    let k = length calls - 1 in
    let before = take k calls in
    let parts : before ++ call ∷ [] ≡ calls =
    ap (λ (c : FolderCall). before ++ c ∷ []) (sym is ∙ at) ∙ sym (take_more calls k last (omega (arith, some))) ∙ take_all (k + 1) calls (omega (arith, some)) in
    ap (λ (l : List FolderCall). viewed l no_file name) (sym parts) ∙ ap (λ (v : View). v name) (viewed_push before call no_file)

same_size : (o : Option (List ℕ)) (more : List ℕ) → is_some (option_map (λ b. b ++ more) o) ≡ is_some o
same_size None more = refl
same_size (Some b) more = refl

-- a call that makes no name a file, and none free
pub other_calls : (call : FolderCall) → ((name : List ℕ) → call ≡ Create name → ⊥) → ((from to : List ℕ) → call ≡ Rename from to → ⊥)
    → ((name : List ℕ) → call ≡ Remove name → ⊥) → (view : View) (n : List ℕ) → is_some (view_after call view n) ≡ is_some (view n)
other_calls (Create name) c r g view n = absurd (c name refl)
other_calls (Append name bytes) c r g view n = ⊎_elim
    (λ e. ap is_some (ap (with_name name (option_map (λ b. b ++ bytes) (view name)) view) e ∙ with_same name (option_map (λ b. b ++ bytes) (view name)) view)
    ∙ same_size (view name) bytes ∙ ap (λ (m : List ℕ). is_some (view m)) (sym e))
    (λ other. ap is_some (with_other name n (option_map (λ b. b ++ bytes) (view name)) view other))
    (name_cases n name)
other_calls (Store name) c r g view n = refl
other_calls (Rename from to) c r g view n = absurd (r from to refl)
other_calls (Remove name) c r g view n = absurd (g name refl)
other_calls StoreNames c r g view n = refl
