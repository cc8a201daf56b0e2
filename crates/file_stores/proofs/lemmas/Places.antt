-- Files in memory, by their names and places.
use Rattle.std.proofs.Common.{◌≡◌, ◌≢◌, ℕ, zero, suc, ◌<◌, ◌≤◌, Bool, true, false, cond, List, []}
use Rattle.std.proofs.Common.{◌∷◌, ◌++◌, length, get_or, set, Option, Some, None, refl, sym, ap}
use Rattle.std.proofs.Common.{◌∙◌, subst, ⊎_elim, arith}
use Rattle.std.specs.Prelude.{bytes_eq}
use Rattle.std.specs.List.{find}
use Rattle.std.specs.Option.{option_map}
use Rattle.std.proofs.lemmas.List.{get_or_default}
use Rattle.std.proofs.lemmas.Slice.Eq.{bytes_eq-Decides}
use Rattle.std.proofs.lemmas.Bool.{cases_Bool}
use Rattle.file_stores.specs.inner.Memory.{Stored, content_of, held_with, Holds}
use Rattle.file_stores.specs.inner.Places.{IsPlaceOf}

-- none of the first files has this name
pub record NoneBefore (name : List ℕ) (files : List Stored) (count : ℕ) : Type 0 where
  pub below : (spare : Stored) (k : ℕ) → k < count
      → bytes_eq (get_or files k spare).name name ≡ false

-- what the first file holds, if the name is its own
own_name : (f : Stored) (files : List Stored) (name : List ℕ) → bytes_eq f.name name ≡ true
    → content_of (f ∷ files) name ≡ Some f.bytes
own_name f files name e =
    ap (λ (b : Bool). option_map (λ (s : Stored). s.bytes)
    (cond b (Some f) (find (λ (s : Stored). bytes_eq s.name name) files))) e

-- if it is another
other_name : (f : Stored) (files : List Stored) (name : List ℕ) → bytes_eq f.name name ≡ false
    → content_of (f ∷ files) name ≡ content_of files name
other_name f files name e =
    ap (λ (b : Bool). option_map (λ (s : Stored). s.bytes)
    (cond b (Some f) (find (λ (s : Stored). bytes_eq s.name name) files))) e

-- a name is itself
same_name : (a b : List ℕ) → a ≡ b → bytes_eq a b ≡ true
same_name a b e = (bytes_eq-Decides a b).1 e

differ : (a b : List ℕ) → a ≢ b → bytes_eq a b ≡ false
differ a b ne = ⊎_elim (λ t. absurd (ne ((bytes_eq-Decides a b).0 t))) (λ f. f)
    (cases_Bool (bytes_eq a b))

tail_none : (name : List ℕ) (f : Stored) (files : List Stored) (count : ℕ)
    → NoneBefore name (f ∷ files) (suc count) → NoneBefore name files count
tail_none name f files count n = record { below = λ spare k h. n.below spare (suc k) (omega arith) }

pub none_named : (name : List ℕ) (files : List Stored) → NoneBefore name files (length files)
    → content_of files name ≡ None
none_named name [] n = refl
none_named name (f ∷ files) n = other_name f files name (n.below f 0 (omega arith))
    ∙ none_named name files (tail_none name f files (length files) n)

named_at : (name : List ℕ) (files : List Stored) (place : ℕ) → place < length files
    → NoneBefore name files place → (spare : Stored)
    → bytes_eq (get_or files place spare).name name ≡ true →
    content_of files name ≡ Some (get_or files place spare).bytes
named_at name [] place h n spare e = absurd (omega arith)
named_at name (f ∷ files) zero h n spare e = own_name f files name e
named_at name (f ∷ files) (suc place) h n spare e =
    other_name f files name (n.below f 0 (omega arith))
    ∙ named_at name files place (omega arith) (tail_none name f files place n) spare e

changed_at : (name : List ℕ) (files : List Stored) (place : ℕ) → place < length files
    → NoneBefore name files place → (changed : Stored) → changed.name ≡ name →
    content_of (set files place changed) name ≡ Some changed.bytes
changed_at name [] place h n changed e = absurd (omega arith)
changed_at name (f ∷ files) zero h n changed e =
    own_name changed files name (same_name changed.name name e)
changed_at name (f ∷ files) (suc place) h n changed e =
    other_name f (set files place changed) name (n.below f 0 (omega arith))
    ∙ changed_at name files place (omega arith) (tail_none name f files place n) changed e

pub place_at : (name : List ℕ) (files : List Stored) (place : ℕ) → place < length files
    → NoneBefore name files place
    → ((spare : Stored) → bytes_eq (get_or files place spare).name name ≡ true)
    → IsPlaceOf name files place
place_at name files place h n e = record {
  within = h;
  named = λ spare. (bytes_eq-Decides (get_or files place spare).name name).0 (e spare);
  content = λ spare. named_at name files place h n spare (e spare);
  first = λ changed own. changed_at name files place h n changed own;
}

-- the other names, if a file of this name is changed
pub others_at : (name other : List ℕ) (files : List Stored) (place : ℕ) (spare changed : Stored)
    → other ≢ name → (get_or files place spare).name ≡ name → changed.name ≡ name →
    content_of (set files place changed) other ≡ content_of files other
others_at name other [] place spare changed ne own same = refl
others_at name other (f ∷ files) zero spare changed ne own same =
    other_name changed files other (differ changed.name other (λ e. ne (sym e ∙ same)))
    ∙ sym (other_name f files other (differ f.name other (λ e. ne (sym e ∙ own))))
others_at name other (f ∷ files) (suc place) spare changed ne own same =
    ⊎_elim
    (λ t. own_name f (set files place changed) other t ∙ sym (own_name f files other t))
    (λ u. other_name f (set files place changed) other u
    ∙ (others_at name other files place spare changed ne own same
    ∙ sym (other_name f files other u)))
    (cases_Bool (bytes_eq f.name other))

-- a file more, of a name that no other has
new_name : (name : List ℕ) (files : List Stored) (f : Stored) → content_of files name ≡ None
    → f.name ≡ name → content_of (files ++ f ∷ []) name ≡ Some f.bytes
new_name name [] f none own = own_name f [] name (same_name f.name name own)
new_name name (g ∷ files) f none own =
    ⊎_elim
    (λ t. absurd (cc (sym (own_name g files name t) ∙ none)))
    (λ u. other_name g (files ++ f ∷ []) name u
    ∙ new_name name files f (sym (other_name g files name u) ∙ none) own)
    (cases_Bool (bytes_eq g.name name))

new_others : (name other : List ℕ) (files : List Stored) (f : Stored) → other ≢ name → f.name ≡ name
    → content_of (files ++ f ∷ []) other ≡ content_of files other
new_others name other [] f ne own = other_name f [] other
    (differ f.name other (λ e. ne (sym e ∙ own)))
new_others name other (g ∷ files) f ne own =
    ⊎_elim
    (λ t. own_name g (files ++ f ∷ []) other t ∙ sym (own_name g files other t))
    (λ u. other_name g (files ++ f ∷ []) other u
    ∙ (new_others name other files f ne own ∙ sym (other_name g files other u)))
    (cases_Bool (bytes_eq g.name other))

pub new_file : (name : List ℕ) (files : List Stored) (f : Stored) → content_of files name ≡ None
    → f.name ≡ name → Holds name f.bytes files (files ++ f ∷ [])
new_file name files f none own = record {
  content = new_name name files f none own;
  others =
      λ other ne. new_others name other files f ne own;
}

pub changed_file : (name : List ℕ) (files : List Stored) (place : ℕ) (changed : Stored)
    → IsPlaceOf name files place → changed.name ≡ name
    → Holds name changed.bytes files (set files place changed)
changed_file name files place changed p own =
    record {
      content = p.first changed own;
      others =
          λ other ne. others_at name other files place changed changed ne (p.named changed) own;
    }

-- the file at this place has the name, and none before it has
pub found_at : (name : List ℕ) (files : List Stored) (place : ℕ) (item : Stored)
    → place < length files → NoneBefore name files place → item ≡ get_or files place item
    → bytes_eq item.name name ≡ true → IsPlaceOf name files place
found_at name files place item h n e t =
    place_at name files place h n (λ spare. ap (λ (s : Stored). bytes_eq s.name name)
    (get_or_default files place spare item h ∙ sym e) ∙ t)

-- none has the name
pub not_found : (name : List ℕ) (files : List Stored) (place : ℕ) → length files ≤ place
    → NoneBefore name files place → content_of files name ≡ None
not_found name files place h n = none_named name files
    (record { below = λ spare k less. n.below spare k (omega arith) })

-- the file of this name, changed
pub put_changed : (name bytes : List ℕ) (keep : Bool) (files : List Stored) (place : ℕ)
    (item changed : Stored) → IsPlaceOf name files place → item ≡ get_or files place item →
    changed ≡ record item { bytes = cond keep item.bytes [] ++ bytes }
    → Holds name (held_with (content_of files name) keep bytes) files (set files place changed)
put_changed name bytes keep files place item changed p is e =
    let own : changed.name ≡ name = ap (λ (s : Stored). s.name) e
    ∙ (ap (λ (s : Stored). s.name) is ∙ p.named item) in
    let held : changed.bytes ≡ held_with (content_of files name) keep bytes =
    ap (λ (s : Stored). s.bytes) e
    ∙ sym (ap (λ (o : Option (List ℕ)). held_with o keep bytes) (p.content item
    ∙ ap (λ (s : Stored). Some s.bytes) (sym is))) in
    subst (λ (b : List ℕ). Holds name b files (set files place changed)) held
    (changed_file name files place changed p own)

-- nothing was held before, kept or not
nothing_before : (keep : Bool) (bytes : List ℕ) → held_with None keep bytes ≡ bytes
nothing_before true bytes = refl
nothing_before false bytes = refl

-- a file of a name that none had
pub put_new : (name bytes : List ℕ) (keep : Bool) (files : List Stored) (file : Stored)
    → content_of files name ≡ None → file ≡ record { name = name; bytes = bytes } →
    Holds name (held_with (content_of files name) keep bytes) files (files ++ file ∷ [])
put_new name bytes keep files file none e =
    let held : file.bytes ≡ held_with (content_of files name) keep bytes =
    ap (λ (s : Stored). s.bytes) e
    ∙ sym (ap (λ (o : Option (List ℕ)). held_with o keep bytes) none
    ∙ nothing_before keep bytes) in
    subst (λ (b : List ℕ). Holds name b files (files ++ file ∷ [])) held
    (new_file name files file none (ap (λ (s : Stored). s.name) e))
