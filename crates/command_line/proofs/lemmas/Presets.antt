-- Words, their options, and the end of the options.
use Rattle.std.proofs.Common.{◌≡◌, ◌∙◌, ◌<◌, Some, None, Bor, get_or, add-one, append_assoc}
use Rattle.std.proofs.Common.{drop-cons, sym, ℕ, ◌+◌, ◌==◌, List, [], ◌∷◌, ◌++◌, Bool, true, false}
use Rattle.std.proofs.Common.{not, cond, ◌||◌, ap, arith, map, refl, length, take, drop}
use Rattle.std.specs.Prelude.{bytes_eq, codes}
use Rattle.std.specs.Cmp.Lexicographic.{pointwise}
use Rattle.std.proofs.Math.Numerals.{one-add}
use Rattle.std.proofs.lemmas.List.{map-append}
use Rattle.std.specs.List.{filter, find, list_any, take_while, prefix_len}
use Rattle.command_line.specs.inner.Unknown.{IsFirstUnknown}
use Rattle.command_line.specs.Presets.{Word, before_end, is_option, is_preset}
use Rattle.command_line.specs.declared.presets.NoWords.{NoWords}
use Rattle.command_line.specs.declared.presets.NoWords.TheVariants.{NoMemory, NoPreset}

-- what may follow an option in a word that is this option
abbrev pub may_follow : List ℕ → Bool
may_follow [] = true
may_follow (byte ∷ rest) = byte == 61

-- a word begins with these bytes
abbrev pub begins_with : List ℕ → List ℕ → Bool
begins_with word bytes = pointwise (λ x y. x == y) (take (length bytes) word) bytes

-- two numbers are compared alike in either order
eqb_sym : (x y : ℕ) → (x == y) ≡ (y == x)
eqb_sym x y = grind arith

-- an option and a word that begin with the same byte are as they are without it
option_same : (one byte : ℕ) (option word : List ℕ) → (byte == one) ≡ true
    → is_option (one ∷ option) (byte ∷ word) ≡ is_option option word
option_same one byte option word same = rw (same, eqb_sym one byte ∙ same) refl

-- if they begin with two bytes, the word is not this option
option_other : (one byte : ℕ) (option word : List ℕ) → (byte == one) ≡ false
    → is_option (one ∷ option) (byte ∷ word) ≡ false
option_other one byte option word other = rw (other, eqb_sym one byte ∙ other) refl

-- what begins with the same byte begins alike without it
begins_same : (one byte : ℕ) (option word : List ℕ) (b : Bool)
    → begins_with (byte ∷ word) (one ∷ option) ≡ b → (byte == one) ≡ true
    → begins_with word option ≡ b
begins_same one byte option word b begins same = rw same at begins

-- what begins with another byte does not begin with these bytes
begins_other : (one byte : ℕ) (option word : List ℕ)
    → begins_with (byte ∷ word) (one ∷ option) ≡ true → (byte == one) ≡ false → ⊥
begins_other one byte option word begins other = let h : false ≡ true = rw other at begins in cc

-- a word that begins with an option is this option if what follows may follow
pub is_option_by : (option word : List ℕ) → begins_with word option ≡ true
    → is_option option word ≡ may_follow (drop (length option) word)
is_option_by [] [] begins = refl
is_option_by [] (byte ∷ rest) begins = grind arith
is_option_by (one ∷ option) [] begins = cc
is_option_by (one ∷ option) (byte ∷ rest) begins =
    by_case (byte == one) refl (is_option_by option rest)
  where
    by_case : (b : Bool) → (byte == one) ≡ b
        → (begins_with rest option ≡ true
        → is_option option rest ≡ may_follow (drop (length option) rest))
        → is_option (one ∷ option) (byte ∷ rest) ≡ may_follow (drop (length option) rest)
    by_case true same less = option_same one byte option rest same
        ∙ less (begins_same one byte option rest true begins same)
    by_case false other less = absurd (begins_other one byte option rest begins other)

-- a word that does not begin with an option is not this option
pub is_no_option : (option word : List ℕ) → begins_with word option ≡ false
    → is_option option word ≡ false
is_no_option [] [] begins = cc
is_no_option [] (byte ∷ rest) begins = cc
is_no_option (one ∷ option) [] begins = refl
is_no_option (one ∷ option) (byte ∷ rest) begins =
    by_case (byte == one) refl (is_no_option option rest)
  where
    by_case : (b : Bool) → (byte == one) ≡ b
        → (begins_with rest option ≡ false → is_option option rest ≡ false)
        → is_option (one ∷ option) (byte ∷ rest) ≡ false
    by_case true same less = option_same one byte option rest same
        ∙ less (begins_same one byte option rest false begins same)
    by_case false other less = option_other one byte option rest other

-- one of the words before `--` passes a test, if the words are those that f gives of some things
pub any_before_end : {W : Type 0} (f : W → Word) (test : Word → Bool) (things : List W) →
    list_any (λ thing. test (f thing))
    (take_while (λ thing. not (bytes_eq (f thing) (codes "--"))) things)
    ≡ list_any test (before_end (map f things))
any_before_end f test [] = refl
any_before_end f test (thing ∷ things) = by_case (not (bytes_eq (f thing) (codes "--")))
    (any_before_end f test things)
  where
    by_case : (b : Bool) → list_any (λ thing. test (f thing))
        (take_while (λ thing. not (bytes_eq (f thing) (codes "--"))) things)
        ≡ list_any test (before_end (map f things))
        → list_any (λ thing. test (f thing))
        (take
        (cond b (1 + prefix_len (λ thing. not (bytes_eq (f thing) (codes "--"))) things) 0)
        (thing ∷ things))
        ≡ list_any test
        (take
        (cond b (1 + prefix_len (λ word. not (bytes_eq word (codes "--"))) (map f things)) 0)
        (f thing ∷ map f things))
    by_case true rest = simp one-add (ap (λ (b : Bool). test (f thing) || b) rest)
    by_case false rest = refl

-- the words that these lend
abbrev pub lent : List (Bor Word) → List Word
lent items = map (λ word. word.now) items

-- a word is kept or not, and the others after it
pub filter_cons : (p : Word → Bool) (word : Word) (words : List Word)
    → filter p (word ∷ words) ≡ filter p (word ∷ []) ++ filter p words
filter_cons p word words = by_case (p word)
  where
    by_case : (b : Bool) → cond b (word ∷ filter p words) (filter p words)
        ≡ cond b (word ∷ []) [] ++ filter p words
    by_case true = refl
    by_case false = refl

-- a word that is found alone is found before others
find_front : (p : Word → Bool) (word : Word) (words : List Word) (found : Word)
    → find p (word ∷ []) ≡ Some found → find p (word ∷ words) ≡ Some found
find_front p word words found is = by_case (p word) is
  where
    by_case : (b : Bool) → cond b (Some word) None ≡ Some found
        → cond b (Some word) (find p words) ≡ Some found
    by_case true is = is
    by_case false is = cc

-- the words from one on are this one and those after it
dropped : (items : List (Bor Word)) (i : ℕ) (none : Bor Word) → i < length items
    → lent (drop i items) ≡ (get_or items i none).now ∷ lent (drop (i + 1) items)
dropped items i none within = rw (add-one, drop-cons items i none within)

-- the same, of what is made of each kept word
pub made_cons : (make : Word → Word) (p : Word → Bool) (word : Word) (words : List Word)
    → map make (filter p (word ∷ words)) ≡ map make (filter p (word ∷ [])) ++ map make
    (filter p words)
made_cons make p word words = ap (map make) (filter_cons p word words)
    ∙ map-append make (filter p (word ∷ [])) (filter p words)

-- what was made before one word, and what is made of it and of those after it: one more word is
-- looked at
pub kept_step : (F : List Word → List Word)
    → ((word : Word) (words : List Word) → F (word ∷ words) ≡ F (word ∷ []) ++ F words)
    → (old new whole : List Word) (items : List (Bor Word)) (i : ℕ) (none : Bor Word)
    → i < length items
    → old ++ F (lent (drop i items)) ≡ whole → new ≡ old ++ F ((get_or items i none).now ∷ [])
    → new ++ F (lent (drop (i + 1) items)) ≡ whole
kept_step F cons old new whole items i none within kept is =
    ap (λ (xs : List Word). xs ++ F (lent (drop (i + 1) items))) is
    ∙ append_assoc old (F ((get_or items i none).now ∷ [])) (F (lent (drop (i + 1) items)))
    ∙ ap (λ (xs : List Word). old ++ xs)
    (sym (cons (get_or items i none).now (lent (drop (i + 1) items))))
    ∙ ap (λ (xs : List Word). old ++ F xs) (sym (dropped items i none within))
    ∙ kept

-- the first unknown word from one on: this one is known
pub known_step : (words : List Word) (items : List (Bor Word)) (i : ℕ) (none : Bor Word)
    → i < length items
    → find (λ word. not (is_preset word)) (lent (drop i items))
    ≡ find (λ word. not (is_preset word)) words
    → is_preset (get_or items i none).now ≡ true
    → find (λ word. not (is_preset word)) (lent (drop (i + 1) items))
    ≡ find (λ word. not (is_preset word)) words
known_step words items i none within kept known =
    sym (rw known at (ap (find (λ word. not (is_preset word))) (dropped items i none within)))
    ∙ kept

-- the first unknown word from one on: it is this one
pub unknown_here : (words : List Word) (items : List (Bor Word)) (i : ℕ) (none : Bor Word)
    → i < length items
    → find (λ word. not (is_preset word)) (lent (drop i items))
    ≡ find (λ word. not (is_preset word)) words
    → (why : NoWords) → IsFirstUnknown ((get_or items i none).now ∷ []) why
    → IsFirstUnknown words why
unknown_here words items i none within kept NoMemory is = tt
unknown_here words items i none within kept (NoPreset word) is =
    sym kept ∙ ap (find (λ word. not (is_preset word))) (dropped items i none within)
    ∙ find_front (λ word. not (is_preset word)) (get_or items i none).now
    (lent (drop (i + 1) items)) word.items is
