-- tr that squeezes what newlines become: a run that goes from one part to the next is squeezed once
-- more.
use Rattle.std.proofs.Common.{◌≡◌, ℕ, ◌<◌, Bool, true, false, not, eqb, ◌&&◌, List, [], ◌∷◌, ◌++◌}
use Rattle.std.proofs.Common.{Option, Some, None, get_or, refl, ap, ap₂, ◌∙◌, sym, arith, subst, inl, inr}
use Rattle.std.specs.Prelude.{◌⊎◌}
use Rattle.std.specs.List.{All, filter}
use Rattle.std.proofs.lemmas.Bool.{and_right, cases_lt, eq-eqb, eqb-true, true≢false}
use Rattle.std.proofs.lemmas.List.Elements.{All-append, All-cons, All-head, All-map, All-nil}
use Rattle.std.proofs.lemmas.List.Elements.{All-tail}
use Rattle.machine.specs.Lines.{newline}
use Rattle.commands.specs.declared.spec.FilterSpec.TheVariants as spec
use Rattle.tr_words.specs.Classes.{all_bytes}
use Rattle.tr_words.specs.Tr.{in_set, last_of, squeezed, stays, translated}
use Rattle.tr_words.specs.declared.tr_words.TrSpec.{TrSpec}
use Rattle.part_laws.specs.Additions.{addition, set_where, squeezes_byte}
use Rattle.part_laws.specs.Manners.{made_of, SqueezesParts}
use Rattle.part_laws.specs.Parts.{IsWholeLines}
use Rattle.part_laws.specs.Utilities.{are_bytes, deletes_newline, newline_becomes}
use Rattle.part_laws.specs.declared.manner.Addition.TheVariants.{Squeeze}
use Rattle.part_laws.proofs.lemmas.ByteLaws.{translated-append}
use Rattle.part_laws.proofs.lemmas.Entries.{byte_at, bytes_all, in_set_is, is_in_set, own_entry, past_own}
use Rattle.part_laws.proofs.lemmas.SqueezeLaws.{first_goes, first_stays, goes_from, last_of-push}
use Rattle.part_laws.proofs.lemmas.SqueezeLaws.{squeezed-append, stays_first, tr_plain}
use Rattle.part_laws.proofs.lemmas.SqueezeLaws.{translated_lines}

-- the set of one byte
abbrev one : ℕ → Option (List Bool)
one c = Some (set_where (λ (b : ℕ). eqb b c))

-- a byte of the set that has the same byte before it goes
goes_after : (set : Option (List Bool)) (l : Option ℕ) (x : ℕ) → in_set set x ≡ true → l ≡ Some x
    → stays set (l, x) ≡ false
goes_after set l x h e =
    ap (λ (k : Option ℕ). stays set (k, x)) e
    ∙ ap₂ (λ (p q : Bool). not (p && q)) h (eq-eqb x x refl)

-- ---- squeezing once more

-- the bytes that stay under the first set stay under the second one
abbrev Milder : (set other : Option (List Bool)) → Type 0
Milder set other = (l : Option ℕ) (x : ℕ) → stays set (l, x) ≡ true → stays other (l, x) ≡ true

module _ (set other : Option (List Bool)) (still : Milder set other) where
  again_by : (b : Bool) (l : Option ℕ) (x : ℕ) (xs : List ℕ) → stays set (l, x) ≡ b
      → squeezed other (Some x) (squeezed set (Some x) xs) ≡ squeezed set (Some x) xs
      → squeezed other l (squeezed set l (x ∷ xs)) ≡ squeezed set l (x ∷ xs)
  again_by true l x xs h later =
      let e = first_stays set l x xs h in
      ap (squeezed other l) e
      ∙ (first_stays other l x (squeezed set (Some x) xs) (still l x h)
      ∙ (ap (λ (ys : List ℕ). x ∷ ys) later ∙ sym e))
  again_by false l x xs h later =
      let e = first_goes set l x xs h in
      ap (squeezed other l) e
      ∙ (ap (λ (k : Option ℕ). squeezed other k (squeezed set (Some x) xs)) (goes_from set l x h).1
      ∙ (later ∙ sym e))

  -- bytes that are squeezed by a set stay as they are under a milder one
  pub again : (l : Option ℕ) (xs : List ℕ)
      → squeezed other l (squeezed set l xs) ≡ squeezed set l xs
  again l [] = refl
  again l (x ∷ xs) = again_by (stays set (l, x)) l x xs refl (again (Some x) xs)

anew_by : (b : Bool) (set : Option (List Bool)) (l : Option ℕ) (x : ℕ) (xs : List ℕ)
    → stays set (l, x) ≡ b
    → squeezed set l (x ∷ squeezed set (Some x) xs) ≡ squeezed set l (x ∷ xs)
anew_by true set l x xs h =
    first_stays set l x (squeezed set (Some x) xs) h
    ∙ (ap (λ (ys : List ℕ). x ∷ ys) (again set set (λ k y stay. stay) (Some x) xs)
    ∙ sym (first_stays set l x xs h))
anew_by false set l x xs h =
    first_goes set l x (squeezed set (Some x) xs) h
    ∙ (again set set (λ k y stay. stay) (Some x) xs ∙ sym (first_goes set l x xs h))

-- bytes that were squeezed by themselves are squeezed after others as before
anew : (set : Option (List Bool)) (l : Option ℕ) (xs : List ℕ)
    → squeezed set l (squeezed set None xs) ≡ squeezed set l xs
anew set l [] = refl
anew set l (x ∷ xs) =
    ap (squeezed set l) (first_stays set None x xs (stays_first set x))
    ∙ anew_by (stays set (l, x)) set l x xs refl

-- ---- squeezing one byte of a larger set once more

still_by : (b : Bool) (set : Option (List Bool)) (c : ℕ) → in_set set c ≡ true → (l : Option ℕ)
    (x : ℕ) → stays (one c) (l, x) ≡ b → stays set (l, x) ≡ true → stays (one c) (l, x) ≡ true
still_by true set c has l x e h = e
still_by false set c has l x e h =
    let gone = goes_from (one c) l x e in
    let same : x ≡ c = eqb-true x c (in_set_is (λ (b : ℕ). eqb b c) x gone.0) in
    absurd (true≢false (sym h ∙ goes_after set l x (ap (in_set set) same ∙ has) gone.1))

-- one byte of a set is milder than the set
still : (set : Option (List Bool)) (c : ℕ) → in_set set c ≡ true → Milder set (one c)
still set c has l x h = still_by (stays (one c) (l, x)) set c has l x refl h

module _ (set : Option (List Bool)) (c : ℕ) (has : in_set set c ≡ true) where
  settled : (l : Option ℕ) (xs : List ℕ) → squeezed (one c) l (squeezed set l xs) ≡ squeezed set l xs
  settled l xs = again set (one c) (still set c has) l xs

  seam_by : (b : Bool) (y : ℕ) (ys : List ℕ) → c < 256 → eqb c y ≡ b
      → squeezed (one c) (Some c) (y ∷ squeezed set (Some y) ys) ≡ squeezed set (Some c) (y ∷ ys)
  seam_by true y ys low e =
      let same : c ≡ y = eqb-true c y e in
      let member : in_set (one c) y ≡ true =
      ap (in_set (one c)) (sym same)
      ∙ (is_in_set (λ (b : ℕ). eqb b c) c low ∙ eq-eqb c c refl) in
      first_goes (one c) (Some c) y (squeezed set (Some y) ys)
      (goes_after (one c) (Some c) y member (ap (λ (n : ℕ). Some n) same))
      ∙ (settled (Some y) ys
      ∙ sym (first_goes set (Some c) y ys
      (goes_after set (Some c) y (ap (in_set set) (sym same) ∙ has)
      (ap (λ (n : ℕ). Some n) same))))
  seam_by false y ys low e =
      first_stays (one c) (Some c) y (squeezed set (Some y) ys)
      (ap not (and_right (in_set (one c) y) (eqb c y) e))
      ∙ (ap (λ (zs : List ℕ). y ∷ zs) (settled (Some y) ys)
      ∙ sym (first_stays set (Some c) y ys (ap not (and_right (in_set set y) (eqb c y) e))))

  -- after that byte, bytes that were squeezed by themselves are squeezed as after it
  seam : c < 256 → (ys : List ℕ)
      → squeezed (one c) (Some c) (squeezed set None ys) ≡ squeezed set (Some c) ys
  seam low [] = refl
  seam low (y ∷ ys) =
      ap (squeezed (one c) (Some c)) (first_stays set None y ys (stays_first set y))
      ∙ seam_by (eqb c y) y ys low refl

  -- the same after nothing, or after that byte
  seam_after : c < 256 → (l : Option ℕ) (ys : List ℕ) → (l ≡ None) ⊎ (l ≡ Some c)
      → squeezed (one c) l (squeezed set None ys) ≡ squeezed set l ys
  seam_after low l ys (inl e) =
      ap (λ (k : Option ℕ). squeezed (one c) k (squeezed set None ys)) e
      ∙ (settled None ys ∙ ap (λ (k : Option ℕ). squeezed set k ys) (sym e))
  seam_after low l ys (inr e) =
      ap (λ (k : Option ℕ). squeezed (one c) k (squeezed set None ys)) e
      ∙ (seam low ys ∙ ap (λ (k : Option ℕ). squeezed set k ys) (sym e))

-- ---- squeezed bytes

last_by : (b : Bool) (set : Option (List Bool)) (l : Option ℕ) (x : ℕ) (xs : List ℕ)
    → stays set (l, x) ≡ b
    → last_of (Some x) (squeezed set (Some x) xs) ≡ last_of (Some x) xs
    → last_of l (squeezed set l (x ∷ xs)) ≡ last_of (Some x) xs
last_by true set l x xs h later = ap (last_of l) (first_stays set l x xs h) ∙ later
last_by false set l x xs h later =
    ap (last_of l) (first_goes set l x xs h)
    ∙ (ap (λ (k : Option ℕ). last_of k (squeezed set (Some x) xs)) (goes_from set l x h).1 ∙ later)

-- the last byte stays the last one
last_stays : (set : Option (List Bool)) (l : Option ℕ) (xs : List ℕ)
    → last_of l (squeezed set l xs) ≡ last_of l xs
last_stays set l [] = refl
last_stays set l (x ∷ xs) = last_by (stays set (l, x)) set l x xs refl (last_stays set (Some x) xs)

all_by : (b : Bool) (P : ℕ → Type 0) (set : Option (List Bool)) (l : Option ℕ) (x : ℕ)
    (xs : List ℕ) → stays set (l, x) ≡ b → P x → All P (squeezed set (Some x) xs)
    → All P (squeezed set l (x ∷ xs))
all_by true P set l x xs h p later =
    subst (All P) (sym (first_stays set l x xs h)) (All-cons P x (squeezed set (Some x) xs) p later)
all_by false P set l x xs h p later = subst (All P) (sym (first_goes set l x xs h)) later

-- what holds of bytes holds of those that stay
pub all_squeezed : (P : ℕ → Type 0) (set : Option (List Bool)) (l : Option ℕ) (xs : List ℕ)
    → All P xs → All P (squeezed set l xs)
all_squeezed P set l [] h = All-nil P
all_squeezed P set l (x ∷ xs) h =
    all_by (stays set (l, x)) P set l x xs refl (All-head P x xs h)
    (all_squeezed P set (Some x) xs (All-tail P x xs h))

abbrev IsByte : ℕ → Type 0
IsByte b = b < 256

own_bound : (i : ℕ) → get_or all_bytes i 0 < 256
own_bound i =
    elim (cases_lt i 256) [
      | inl low ↦ omega (arith, own_entry i low, low)
      | inr high ↦ omega (arith, past_own i high)
    ]

-- a table of bytes makes bytes
bytes_made : (s : TrSpec) → are_bytes s.table ≡ true → (x : List ℕ) → All IsByte (translated s x)
bytes_made s h x =
    let kept = filter (λ (b : ℕ). not (in_set s.deleted b)) x in
    All-map IsByte (λ (b : ℕ). get_or s.table b 0) kept
    (λ k d lt. byte_at s.table (get_or kept k d) h)

-- bytes stay as they are in the table that leaves them so
bytes_stay : (c : ℕ) (z : List ℕ) → All IsByte z → translated (squeezes_byte c) z ≡ z
bytes_stay c [] h = refl
bytes_stay c (b ∷ z) h =
    ap₂ (λ (a : ℕ) (y : List ℕ). a ∷ y) (own_entry b (All-head IsByte b z h))
    (bytes_stay c z (All-tail IsByte b z h))

-- what the addition makes of bytes
mended : (c : ℕ) (z : List ℕ) → All IsByte z
    → made_of (addition (Squeeze c)) z ≡ squeezed (one c) None z
mended c z h = tr_plain (squeezes_byte c) z ∙ ap (squeezed (one c) None) (bytes_stay c z h)

-- the table that leaves bytes as they are is one of bytes
own_bytes : (c : ℕ) (x : List ℕ) → All IsByte (translated (squeezes_byte c) x)
own_bytes c x = bytes_made (squeezes_byte c) (bytes_all all_bytes own_bound) x

-- ---- tr

module _ (s : TrSpec) (set : List Bool) (e : s.squeezed ≡ Some set)
    (stay : deletes_newline s ≡ false) (has : in_set (Some set) (newline_becomes s) ≡ true)
    (bytes : are_bytes s.table ≡ true) where
  abbrev c : ℕ
  c = newline_becomes s

  abbrev out : List ℕ → List ℕ
  out x = squeezed (Some set) None (translated s x)

  out_is : (x : List ℕ) → made_of (spec.Tr s) x ≡ out x
  out_is x = tr_plain s x
      ∙ ap (λ (o : Option (List Bool)). squeezed o None (translated s x)) e

  out_bytes : (x : List ℕ) → All IsByte (out x)
  out_bytes x = all_squeezed IsByte (Some set) None (translated s x) (bytes_made s bytes x)

  -- the last byte of whole lines
  last_made : (x : List ℕ) → IsWholeLines x
      → (last_of None (translated s x) ≡ None) ⊎ (last_of None (translated s x) ≡ Some c)
  last_made x (inl none) = inl (ap (λ (z : List ℕ). last_of None (translated s z)) none)
  last_made x (inr (front, ends)) =
      inr (ap (λ (z : List ℕ). last_of None (translated s z)) ends
      ∙ (ap (last_of None) (translated_lines s front stay)
      ∙ last_of-push None (translated s front) c))

  parts_made : (x y : List ℕ) → out (x ++ y)
      ≡ out x ++ squeezed (Some set) (last_of None (translated s x)) (translated s y)
  parts_made x y = ap (squeezed (Some set) None) (translated-append s x y)
      ∙ squeezed-append (Some set) None (translated s x) (translated s y)

  parts_mended : (x y : List ℕ) → squeezed (one c) None (out x ++ out y)
      ≡ out x ++ squeezed (one c) (last_of None (translated s x)) (out y)
  parts_mended x y =
      squeezed-append (one c) None (out x) (out y)
      ∙ (ap (λ (z : List ℕ). z ++ squeezed (one c) (last_of None (out x)) (out y))
      (settled (Some set) c has None (translated s x))
      ∙ ap (λ (l : Option ℕ). out x ++ squeezed (one c) l (out y))
      (last_stays (Some set) None (translated s x)))

  pub squeezes_parts : SqueezesParts c (spec.Tr s)
  squeezes_parts = record {
    nothing = out_is [];
    squeezes = λ x y w.
        out_is (x ++ y)
        ∙ (parts_made x y
        ∙ (ap (λ (z : List ℕ). out x ++ z)
        (sym (seam_after (Some set) c has (byte_at s.table newline bytes)
        (last_of None (translated s x)) (translated s y) (last_made x w)))
        ∙ (sym (parts_mended x y)
        ∙ (sym (mended c (out x ++ out y)
        (All-append IsByte (out x) (out y) (out_bytes x) (out_bytes y)))
        ∙ ap₂ (λ (a b : List ℕ). made_of (addition (Squeeze c)) (a ++ b)) (sym (out_is x))
        (sym (out_is y))))));
  }

-- ---- the addition

-- what the addition makes of a list by itself is what it makes of it after another, once more
pub squeezed_joined : (c : ℕ) (a b : List ℕ)
    → made_of (addition (Squeeze c)) (a ++ made_of (addition (Squeeze c)) b)
    ≡ made_of (addition (Squeeze c)) (a ++ b)
squeezed_joined c a b =
    let s = squeezes_byte c in
    let front = translated s a in
    let later = translated s b in
    let bytes : All IsByte (squeezed (one c) None later) =
    all_squeezed IsByte (one c) None later (own_bytes c b) in
    tr_plain s (a ++ made_of (addition (Squeeze c)) b)
    ∙ (ap (λ (z : List ℕ). squeezed (one c) None (translated s (a ++ z))) (tr_plain s b)
    ∙ (ap (squeezed (one c) None)
    (translated-append s a (squeezed (one c) None later)
    ∙ ap (λ (z : List ℕ). front ++ z) (bytes_stay c (squeezed (one c) None later) bytes))
    ∙ (squeezed-append (one c) None front (squeezed (one c) None later)
    ∙ (ap (λ (z : List ℕ). squeezed (one c) None front ++ z)
    (anew (one c) (last_of None front) later)
    ∙ (sym (squeezed-append (one c) None front later)
    ∙ (ap (squeezed (one c) None) (sym (translated-append s a b))
    ∙ sym (tr_plain s (a ++ b))))))))
