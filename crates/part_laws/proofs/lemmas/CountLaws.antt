-- Newlines and words of an input, and of what the additions make of it.
use Rattle.std.proofs.Common.{◌≡◌, ℕ, ◌+◌, Bool, true, false, cond, eqb, not, ◌&&◌, List, [], ◌∷◌}
use Rattle.std.proofs.Common.{Option, Some, None, map, get_or, refl, ap, ap₂, ◌∙◌, sym, arith}
use Rattle.std.proofs.Common.{inl, inr, ◌≤◌}
use Rattle.std.specs.List.{count_by, filter, zip}
use Rattle.std.specs.Prelude.{nat_le}
use Rattle.std.proofs.lemmas.Bool.{and_right, cases_lt, eqb-true, false_from_ne_true, leb-true}
use Rattle.std.proofs.lemmas.Bool.{or_from, true≢false}
use Rattle.std.proofs.lemmas.List.Sums.{sum_by-cons}
use Rattle.std.proofs.lemmas.Option.{none-some, same_Some}
use Rattle.machine.specs.Lines.{newline}
use Rattle.command_words.specs.Bytes.{is_from, is_space}
use Rattle.commands.specs.Wc.{is_word, neighbours, words_after}
use Rattle.tr_words.specs.Classes.{all_bytes}
use Rattle.tr_words.specs.Tr.{in_set, squeezed, stays, translated}
use Rattle.tr_words.specs.declared.tr_words.TrSpec.{TrSpec}
use Rattle.part_laws.specs.Additions.{addition, keeps_newlines_alone, mark, marks_words}
use Rattle.part_laws.specs.Manners.{made_of}
use Rattle.part_laws.specs.declared.manner.Addition.TheVariants.{KeepNewlines, MarkWords}
use Rattle.part_laws.proofs.lemmas.ByteLaws.{plain_out}
use Rattle.part_laws.proofs.lemmas.Entries.{entry_of, is_newline, newlines_cons, own_entry}
use Rattle.part_laws.proofs.lemmas.Entries.{past_own}
use Rattle.part_laws.proofs.lemmas.SqueezeLaws.{first_goes, first_stays, goes_from, tr_plain}

-- ---- newlines

abbrev pub newlines_in : List ℕ → ℕ
newlines_in x = count_by is_newline x

-- newlines stay, and no other byte becomes one
pub record KeepsNewlines (s : TrSpec) : Type 0 where
  pub stays_in : in_set s.deleted newline ≡ false
  pub stays_so : get_or s.table newline 0 ≡ newline
  pub others : (b : ℕ) → is_newline b ≡ false → is_newline (get_or s.table b 0) ≡ false

abbrev becomes : TrSpec → ℕ → ℕ
becomes s b = get_or s.table b 0

abbrev kept : TrSpec → List ℕ → List ℕ
kept s x = filter (λ (b : ℕ). not (in_set s.deleted b)) x

counted_by : (nl gone : Bool) (s : TrSpec) → KeepsNewlines s → (b : ℕ) (x : List ℕ)
    → is_newline b ≡ nl → in_set s.deleted b ≡ gone
    → newlines_in (map (becomes s) (kept s x)) ≡ newlines_in x
    → newlines_in (map (becomes s) (cond (not gone) (b ∷ kept s x) (kept s x)))
    ≡ newlines_in (b ∷ x)
counted_by true true s k b x nl gone later =
    absurd (true≢false (sym gone ∙ (ap (in_set s.deleted) (eqb-true b newline nl) ∙ k.stays_in)))
counted_by true false s k b x nl gone later =
    let same : b ≡ newline = eqb-true b newline nl in
    let one : is_newline (becomes s b) ≡ true =
    ap (λ (c : ℕ). is_newline (becomes s c)) same ∙ ap is_newline k.stays_so in
    newlines_cons (becomes s b) (map (becomes s) (kept s x))
    ∙ (ap₂ (λ (t : Bool) (n : ℕ). cond t 1 0 + n) (one ∙ sym nl) later ∙ sym (newlines_cons b x))
counted_by false true s k b x nl gone later =
    let none : cond (is_newline b) 1 0 + newlines_in x ≡ newlines_in x =
    ap (λ (t : Bool). cond t 1 0 + newlines_in x) nl ∙ omega arith in
    later ∙ sym (newlines_cons b x ∙ none)
counted_by false false s k b x nl gone later =
    newlines_cons (becomes s b) (map (becomes s) (kept s x))
    ∙ (ap₂ (λ (t : Bool) (n : ℕ). cond t 1 0 + n) (k.others b nl ∙ sym nl) later
    ∙ sym (newlines_cons b x))

-- as many newlines are in what is translated
pub newlines_translated : (s : TrSpec) → KeepsNewlines s → (x : List ℕ)
    → newlines_in (translated s x) ≡ newlines_in x
newlines_translated s k [] = refl
newlines_translated s k (b ∷ x) =
    counted_by (is_newline b) (in_set s.deleted b) s k b x refl refl (newlines_translated s k x)

other_by : (nl : Bool) (set : Option (List Bool)) → in_set set newline ≡ false → (x : ℕ)
    → in_set set x ≡ true → is_newline x ≡ nl → is_newline x ≡ false
other_by true set out x member nl =
    absurd (true≢false (sym member ∙ (ap (in_set set) (eqb-true x newline nl) ∙ out)))
other_by false set out x member nl = nl

squeezed_by : (b : Bool) (set : Option (List Bool)) → in_set set newline ≡ false → (l : Option ℕ)
    (x : ℕ) (xs : List ℕ) → stays set (l, x) ≡ b
    → newlines_in (squeezed set (Some x) xs) ≡ newlines_in xs
    → newlines_in (squeezed set l (x ∷ xs)) ≡ newlines_in (x ∷ xs)
squeezed_by true set out l x xs h later =
    ap newlines_in (first_stays set l x xs h)
    ∙ (newlines_cons x (squeezed set (Some x) xs)
    ∙ (ap (λ (n : ℕ). cond (is_newline x) 1 0 + n) later ∙ sym (newlines_cons x xs)))
squeezed_by false set out l x xs h later =
    let other = other_by (is_newline x) set out x (goes_from set l x h).0 refl in
    let none : cond (is_newline x) 1 0 + newlines_in xs ≡ newlines_in xs =
    ap (λ (t : Bool). cond t 1 0 + newlines_in xs) other ∙ omega arith in
    ap newlines_in (first_goes set l x xs h)
    ∙ (later ∙ sym (newlines_cons x xs ∙ none))

-- as many newlines are in what is squeezed, if newlines are not
pub newlines_squeezed : (set : Option (List Bool)) → in_set set newline ≡ false → (l : Option ℕ)
    (xs : List ℕ) → newlines_in (squeezed set l xs) ≡ newlines_in xs
newlines_squeezed set out l [] = refl
newlines_squeezed set out l (x ∷ xs) =
    squeezed_by (stays set (l, x)) set out l x xs refl (newlines_squeezed set out (Some x) xs)

-- ---- words

-- the words of a stream that begins with a byte
words_cons : (before : Bool) (y : ℕ) (ys : List ℕ) → words_after before (y ∷ ys)
    ≡ cond (not before && is_word y) 1 0 + words_after (is_word y) ys
words_cons before y ys =
    sum_by-cons (λ (p : Bool × Bool). cond (not p.0 && p.1) 1 0) (before, is_word y)
    (neighbours (is_word y) ys)

-- whether the byte before belongs to a word, if there is one
abbrev IsBefore : Option ℕ → Bool → Type 0
IsBefore l before = (c : ℕ) → l ≡ Some c → is_word c ≡ before

no_word : (b : Bool) → (not b && b) ≡ false
no_word true = refl
no_word false = refl

words_by : (b : Bool) (set : Option (List Bool)) (l : Option ℕ) (before : Bool) (y : ℕ)
    (ys : List ℕ) → IsBefore l before → stays set (l, y) ≡ b
    → words_after (is_word y) (squeezed set (Some y) ys) ≡ words_after (is_word y) ys
    → words_after before (squeezed set l (y ∷ ys)) ≡ words_after before (y ∷ ys)
words_by true set l before y ys is h later =
    ap (words_after before) (first_stays set l y ys h)
    ∙ (words_cons before y (squeezed set (Some y) ys)
    ∙ (ap (λ (n : ℕ). cond (not before && is_word y) 1 0 + n) later ∙ sym (words_cons before y ys)))
words_by false set l before y ys is h later =
    let same : is_word y ≡ before = is y (goes_from set l y h).1 in
    let none : cond (not before && is_word y) 1 0 + words_after (is_word y) ys
    ≡ words_after (is_word y) ys =
    ap (λ (t : Bool). cond t 1 0 + words_after (is_word y) ys)
    (ap (λ (t : Bool). not t && is_word y) (sym same) ∙ no_word (is_word y)) ∙ omega arith in
    ap (words_after before) (first_goes set l y ys h)
    ∙ (ap (λ (t : Bool). words_after t (squeezed set (Some y) ys)) (sym same)
    ∙ (later ∙ sym (words_cons before y ys ∙ none)))

some_is : (x : ℕ) → IsBefore (Some x) (is_word x)
some_is x c e = ap is_word (sym (same_Some x c e))

-- as many words are in what is squeezed
words_squeezed : (set : Option (List Bool)) (l : Option ℕ) (before : Bool) (ys : List ℕ)
    → IsBefore l before → words_after before (squeezed set l ys) ≡ words_after before ys
words_squeezed set l before [] is = refl
words_squeezed set l before (y ∷ ys) is =
    words_by (stays set (l, y)) set l before y ys is refl
    (words_squeezed set (Some y) (is_word y) ys (some_is y))

-- ---- the additions

-- no byte but a newline is one in a table that leaves bytes as they are
own_others : (b : ℕ) → is_newline b ≡ false → is_newline (get_or all_bytes b 0) ≡ false
own_others b h =
    elim (cases_lt b 256) [
      | inl low ↦ ap is_newline (own_entry b low) ∙ h
      | inr high ↦ ap is_newline (past_own b high)
    ]

alone_keeps : KeepsNewlines keeps_newlines_alone
unfolding all_bytes
alone_keeps = record { stays_in = refl; stays_so = refl; others = own_others }

marked_by : (b : Bool) (c : ℕ) → is_newline c ≡ false → is_newline (cond b c mark) ≡ false
marked_by true c h = h
marked_by false c h = refl

marks_others : (b : ℕ) → is_newline b ≡ false → is_newline (get_or marks_words.table b 0) ≡ false
marks_others b h =
    elim (entry_of (λ (c : ℕ). cond (is_space c) c mark) b) [
      | inl e ↦ ap is_newline e ∙ marked_by (is_space b) b h
      | inr past ↦ ap is_newline past.1
    ]

marks_keep : KeepsNewlines marks_words
unfolding all_bytes
marks_keep = record { stays_in = refl; stays_so = refl; others = marks_others }

word_by : (b : Bool) (c : ℕ) → is_space c ≡ b → is_word (cond b c mark) ≡ is_word c
word_by true c h = refl
word_by false c h = sym (ap not h)

-- no number past the bytes is a space
space_past : (b : ℕ) → 256 ≤ b → is_space b ≡ false
space_past b high =
    or_from (is_from 9 13 b) (eqb b 32)
    (and_right (nat_le 9 b) (nat_le b 13)
    (false_from_ne_true (nat_le b 13) (λ t. absurd (omega (arith, leb-true b 13 t, high)))))
    (false_from_ne_true (eqb b 32) (λ t. absurd (omega (arith, eqb-true b 32 t, high))))

-- a byte belongs to a word if its entry does
marked_word : (b : ℕ) → is_word (get_or marks_words.table b 0) ≡ is_word b
marked_word b =
    elim (entry_of (λ (c : ℕ). cond (is_space c) c mark) b) [
      | inl e ↦ ap is_word e ∙ word_by (is_space b) b refl
      | inr past ↦ ap is_word past.1 ∙ sym (ap not (space_past b past.0))
    ]

words_marked : (x : List ℕ) → map is_word (translated marks_words x) ≡ map is_word x
words_marked [] = refl
words_marked (b ∷ x) = ap₂ (λ (p : Bool) (ps : List Bool). p ∷ ps) (marked_word b) (words_marked x)

abbrev words_by_test : List Bool → ℕ
words_by_test tests =
    count_by (λ (p : Bool × Bool). not p.0 && p.1) (zip (false ∷ tests) tests)

abbrev marks : Option (List Bool)
marks = marks_words.squeezed

-- as many words are in what is marked
pub words_of_marks : (x : List ℕ) → words_after false (made_of (addition MarkWords) x)
    ≡ words_after false x
words_of_marks x =
    ap (words_after false) (tr_plain marks_words x)
    ∙ (words_squeezed marks None false (translated marks_words x) (λ c e. absurd (none-some c e))
    ∙ ap words_by_test (words_marked x))

-- as many newlines are in it
pub newlines_of_marks : (x : List ℕ) → newlines_in (made_of (addition MarkWords) x) ≡ newlines_in x
unfolding all_bytes
newlines_of_marks x =
    ap newlines_in (tr_plain marks_words x)
    ∙ (newlines_squeezed marks refl None (translated marks_words x)
    ∙ newlines_translated marks_words marks_keep x)

-- and in the newlines alone
pub newlines_alone : (x : List ℕ) → newlines_in (made_of (addition KeepNewlines) x) ≡ newlines_in x
newlines_alone x = ap newlines_in (plain_out keeps_newlines_alone x refl)
    ∙ newlines_translated keeps_newlines_alone alone_keeps x
