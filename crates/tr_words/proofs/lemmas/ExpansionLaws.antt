-- What elements mean, element by element.
use Rattle.std.proofs.Common.{◌≡◌, ℕ, suc, ◌+◌, ◌-◌, ◌<◌, ◌≤◌, List, [], ◌∷◌, ◌++◌, Bool, true}
use Rattle.std.proofs.Common.{false, cond, length, Some, None, refl, ap, ◌∙◌, sym, arith}
use Rattle.std.proofs.Common.{append_assoc, length-append}
use Rattle.std.specs.Prelude.{nat_le}
use Rattle.std.specs.List.{filter, flat_map, range_with_len, repeat}
use Rattle.std.proofs.lemmas.List.{append-nil}
use Rattle.std.proofs.lemmas.Bool.Decides.{nat_tests}
use Rattle.tr_words.specs.Classes.{all_bytes}
use Rattle.tr_words.specs.Strings.{string_max}
use Rattle.tr_words.specs.Expansions.{range, written, class_from, classes, expanded}
use Rattle.tr_words.specs.declared.class.Class.{Class}
use Rattle.tr_words.specs.declared.element.Element.{Element}

-- the first of the bytes of a range, and those after it
pub range_first : (byte last : ℕ) → byte ≤ last → range byte last ≡ byte ∷ range (byte + 1) last
range_first byte last h =
    let e : last + 1 - byte ≡ suc (last + 1 - (byte + 1)) = omega arith in
    ap (range_with_len byte) e

pub range_none : (byte last : ℕ) → last < byte → range byte last ≡ []
range_none byte last h = let e : last + 1 - byte ≡ 0 = omega arith in ap (range_with_len byte) e

-- one byte of a range more
pub range_goes_on : (byte last : ℕ) (now now' whole : List ℕ) → byte ≤ last
    → now' ≡ now ++ byte ∷ [] → now ++ range byte last ≡ whole
    → now' ++ range (byte + 1) last ≡ whole
range_goes_on byte last now now' whole h e inv =
    ap (λ (x : List ℕ). x ++ range (byte + 1) last) e
    ∙ (append_assoc now (byte ∷ []) (range (byte + 1) last)
    ∙ (ap (λ (x : List ℕ). now ++ x) (sym (range_first byte last h)) ∙ inv))

pub range_ends : (byte last : ℕ) (now whole : List ℕ) → last < byte → now ++ range byte last ≡ whole
    → now ≡ whole
range_ends byte last now whole h inv =
    sym (append-nil now) ∙ (ap (λ (x : List ℕ). now ++ x) (sym (range_none byte last h)) ∙ inv)

-- one copy of a byte more
pub copies_go_on : (byte count made : ℕ) (now now' whole : List ℕ) → made < count
    → now' ≡ now ++ byte ∷ [] → now ++ repeat (count - made) (byte ∷ []) ≡ whole
    → now' ++ repeat (count - (made + 1)) (byte ∷ []) ≡ whole
copies_go_on byte count made now now' whole h e inv =
    let n : count - made ≡ suc (count - (made + 1)) = omega arith in
    ap (λ (x : List ℕ). x ++ repeat (count - (made + 1)) (byte ∷ [])) e
    ∙ (append_assoc now (byte ∷ []) (repeat (count - (made + 1)) (byte ∷ []))
    ∙ (ap (λ (k : ℕ). now ++ repeat k (byte ∷ [])) (sym n) ∙ inv))

pub copies_end : (byte count made : ℕ) (now whole : List ℕ) → count ≤ made
    → now ++ repeat (count - made) (byte ∷ []) ≡ whole → now ≡ whole
copies_end byte count made now whole h inv =
    let n : count - made ≡ 0 = omega arith in
    sym (append-nil now) ∙ (ap (λ (k : ℕ). now ++ repeat k (byte ∷ [])) (sym n) ∙ inv)

-- the bytes from one on that pass a test
abbrev pub passing : (ℕ → Bool) → ℕ → List ℕ
passing p byte = filter p (range_with_len byte (256 - byte))

pub passing_all : (p : ℕ → Bool) → passing p 0 ≡ filter p all_bytes
unfolding all_bytes
passing_all p = refl

picked_by : (b : Bool) (byte : ℕ) (xs : List ℕ)
    → cond b (byte ∷ xs) xs ≡ cond b (byte ∷ []) [] ++ xs
picked_by true byte xs = refl
picked_by false byte xs = refl

passing_first : (p : ℕ → Bool) (byte : ℕ) → byte < 256
    → passing p byte ≡ cond (p byte) (byte ∷ []) [] ++ passing p (byte + 1)
passing_first p byte h =
    let e : 256 - byte ≡ suc (256 - (byte + 1)) = omega arith in
    ap (λ (n : ℕ). filter p (range_with_len byte n)) e
    ∙ picked_by (p byte) byte (passing p (byte + 1))

-- one byte more of those that pass
pub passing_goes_on : (p : ℕ → Bool) (byte : ℕ) (now now' whole : List ℕ) → byte < 256
    → now' ≡ now ++ cond (p byte) (byte ∷ []) [] → now ++ passing p byte ≡ whole
    → now' ++ passing p (byte + 1) ≡ whole
passing_goes_on p byte now now' whole h e inv =
    ap (λ (x : List ℕ). x ++ passing p (byte + 1)) e
    ∙ (append_assoc now (cond (p byte) (byte ∷ []) []) (passing p (byte + 1))
    ∙ (ap (λ (x : List ℕ). now ++ x) (sym (passing_first p byte h)) ∙ inv))

pub passing_ends : (p : ℕ → Bool) (byte : ℕ) (now whole : List ℕ) → 256 ≤ byte
    → now ++ passing p byte ≡ whole → now ≡ whole
passing_ends p byte now whole h inv =
    let e : 256 - byte ≡ 0 = omega arith in
    sym (append-nil now) ∙ (ap (λ (n : ℕ). now ++ filter p (range_with_len byte n)) (sym e) ∙ inv)

-- ---- the elements of a string

-- bytes and classes were added for the elements before `rest`
pub record HasExpanded (needed : ℕ) (elements rest : List Element) (bytes : List ℕ)
    (found : List (ℕ × Class)) : Type 0 where
  pub out : bytes ++ flat_map (written needed) rest ≡ flat_map (written needed) elements
  pub places : found ++ classes needed (length bytes) rest ≡ classes needed 0 elements
  pub short : length bytes ≤ string_max

pub none_expanded : (needed : ℕ) (elements : List Element) (bytes : List ℕ)
    (found : List (ℕ × Class)) → bytes ≡ [] → found ≡ []
    → HasExpanded needed elements elements bytes found
none_expanded needed elements bytes found e f =
    record {
      out = ap (λ (x : List ℕ). x ++ flat_map (written needed) elements) e;
      places = ap (λ (x : List ℕ). found ++ classes needed (length x) elements) e
          ∙ ap (λ (x : List (ℕ × Class)). x ++ classes needed 0 elements) f;
      short = omega (arith, ap length e);
    }

-- what one element more gives
record More (needed : ℕ) (elements rest : List Element) (bytes : List ℕ)
    (found : List (ℕ × Class)) : Type 0 where
  pub out : bytes ++ flat_map (written needed) rest ≡ flat_map (written needed) elements
  pub places : found ++ classes needed (length bytes) rest ≡ classes needed 0 elements

one_more : (needed : ℕ) (elements rest after : List Element) (e : Element) (bytes bytes' : List ℕ)
    (found found' : List (ℕ × Class)) → rest ≡ e ∷ after → bytes' ≡ bytes ++ written needed e
    → found' ≡ found ++ class_from (length bytes) e → HasExpanded needed elements rest bytes found
    → More needed elements after bytes' found'
one_more needed elements rest after e bytes bytes' found found' first more more_found h =
    let many : length bytes' ≡ length bytes + length (written needed e) = ap length more
    ∙ length-append bytes (written needed e) in
    record {
      out = ap (λ (x : List ℕ). x ++ flat_map (written needed) after) more
          ∙ (append_assoc bytes (written needed e) (flat_map (written needed) after)
          ∙ (ap (λ (r : List Element). bytes ++ flat_map (written needed) r) (sym first) ∙ h.out));
      places = ap (λ (n : ℕ). found' ++ classes needed n after) many
          ∙ (ap (λ (x : List (ℕ × Class)). x ++ classes needed
          (length bytes + length (written needed e)) after) more_found
          ∙ (append_assoc found (class_from (length bytes) e)
          (classes needed (length bytes + length (written needed e)) after)
          ∙ (ap (λ (r : List Element). found ++ classes needed (length bytes) r) (sym first)
          ∙ h.places)));
    }

pub more_expanded : (needed : ℕ) (elements rest after : List Element) (e : Element)
    (bytes bytes' : List ℕ) (found found' : List (ℕ × Class)) → rest ≡ e ∷ after
    → bytes' ≡ bytes ++ written needed e → found' ≡ found ++ class_from (length bytes) e
    → length bytes' ≤ string_max → HasExpanded needed elements rest bytes found
    → HasExpanded needed elements after bytes' found'
more_expanded needed elements rest after e bytes bytes' found found' first more more_found short h =
    let m = one_more needed elements rest after e bytes bytes' found found' first more more_found
    h in
    record { out = m.out; places = m.places; short = short }

long_by : (n : ℕ) → string_max < n → nat_le n string_max ≡ false
long_by n h = grind (arith, nat_tests)

short_by : (n : ℕ) → n ≤ string_max → nat_le n string_max ≡ true
short_by n h = grind (arith, nat_tests)

-- too many bytes
pub too_long : (needed : ℕ) (elements rest after : List Element) (e : Element)
    (bytes bytes' : List ℕ) (found found' : List (ℕ × Class)) → rest ≡ e ∷ after
    → bytes' ≡ bytes ++ written needed e → found' ≡ found ++ class_from (length bytes) e
    → string_max < length bytes' → HasExpanded needed elements rest bytes found
    → expanded needed elements ≡ None
too_long needed elements rest after e bytes bytes' found found' first more more_found long h =
    let m = one_more needed elements rest after e bytes bytes' found found' first more more_found
    h in
    let n : length bytes' + length (flat_map (written needed) after)
    ≡ length (flat_map (written needed) elements) =
    sym (length-append bytes' (flat_map (written needed) after)) ∙ ap length m.out in
    ap (λ (b : Bool). cond b
    (Some (record {
      bytes = flat_map (written needed) elements;
      classes =
          classes needed 0 elements;
    })) None)
    (long_by (length (flat_map (written needed) elements)) (omega arith))

-- all was expanded
pub all_expanded : (needed : ℕ) (elements rest : List Element) (bytes : List ℕ)
    (found : List (ℕ × Class)) → rest ≡ [] → HasExpanded needed elements rest bytes found
    → expanded needed elements ≡ Some (record { bytes = bytes; classes = found })
all_expanded needed elements rest bytes found none h =
    let b : bytes ≡ flat_map (written needed) elements = sym (append-nil bytes)
    ∙ (ap (λ (r : List Element). bytes ++ flat_map (written needed) r) (sym none) ∙ h.out) in
    let c : found ≡ classes needed 0 elements = sym (append-nil found)
    ∙ (ap (λ (r : List Element). found ++ classes needed (length bytes) r) (sym none)
    ∙ h.places) in
    let short : length (flat_map (written needed) elements) ≤ string_max =
    omega (arith, ap length b, h.short) in
    ap (λ (t : Bool). cond t
    (Some (record {
      bytes = flat_map (written needed) elements;
      classes =
          classes needed 0 elements;
    })) None)
    (short_by (length (flat_map (written needed) elements)) short)
    ∙ (ap (λ (x : List ℕ). Some (record { bytes = x; classes = classes needed 0 elements })) (sym b)
    ∙ ap (λ (x : List (ℕ × Class)). Some (record { bytes = bytes; classes = x })) (sym c))
