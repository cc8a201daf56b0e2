-- The words of a stream are as many as begin in it.
use Rattle.std.proofs.Common.{◌≡◌, ℕ, suc, ◌+◌, List, [], ◌∷◌, Bool, true, false, length, refl, ap}
use Rattle.std.proofs.Common.{◌∙◌, sym, arith}
use Rattle.std.specs.Prelude.{not}
use Rattle.std.specs.List.{filter, onto_first, slice_split}
use Rattle.std.proofs.lemmas.List.Splits.{slice_split-cons_yes, slice_split-cons_no}
use Rattle.command_words.specs.Bytes.{is_space}
use Rattle.commands.specs.Wc.{is_word, words_after}
use Rattle.byte_filters.specs.Words.{WordsAreCounted, has_byte}
use Rattle.byte_filters.proofs.lemmas.CountLaws.{begins, words_first}

-- the parts after the first one
abbrev rest : List (List ℕ) → List (List ℕ)
rest [] = []
rest (part ∷ parts) = parts

-- how many have a byte
abbrev filled : List (List ℕ) → ℕ
filled ps = length (filter has_byte ps)

-- one byte more, of a word or not
begun : (before word : Bool) (x : ℕ) (xs : List ℕ) → is_word x ≡ word
    → words_after before (x ∷ xs) ≡ begins (before, word) + words_after word xs
begun before word x xs is = words_first before x xs
    ∙ ap (λ w. begins (before, w) + words_after w xs) is

-- a byte in front of the first part
longer : (x : ℕ) (ps : List (List ℕ)) → suc (filled (rest ps)) ≡ filled (onto_first x ps)
longer x [] = refl
longer x (p ∷ ps) = refl

behind_first : (x : ℕ) (ps : List (List ℕ)) → filled (rest ps) ≡ filled (rest (onto_first x ps))
behind_first x [] = refl
behind_first x (p ∷ ps) = refl

-- After a byte of a word the first part goes on with it, and is not counted again.
words_counted : (xs : List ℕ) → (words_after false xs ≡ filled (slice_split is_space xs))
    × (words_after true xs ≡ filled (rest (slice_split is_space xs)))
words_counted [] = (refl, refl)
words_counted (x ∷ xs) = by_case (words_counted xs) (is_space x) refl (slice_split is_space xs) refl
  where
    by_case : (words_after false xs ≡ filled (slice_split is_space xs))
        × (words_after true xs ≡ filled (rest (slice_split is_space xs))) → (b : Bool)
        → is_space x ≡ b → (ps : List (List ℕ)) → slice_split is_space xs ≡ ps
        → (words_after false (x ∷ xs) ≡ filled (slice_split is_space (x ∷ xs)))
        × (words_after true (x ∷ xs) ≡ filled (rest (slice_split is_space (x ∷ xs))))
    by_case first true space ps is =
        let parted : slice_split is_space (x ∷ xs) ≡ [] ∷ slice_split is_space xs =
        slice_split-cons_yes is_space x xs space in
        let none : words_after false (x ∷ xs) ≡ words_after false xs = let h =
        begun false false x xs (ap not space) in
        omega arith in
        let still : words_after true (x ∷ xs) ≡ words_after false xs = let h =
        begun true false x xs (ap not space) in
        omega arith in (
          none ∙ first.0 ∙ sym (ap filled parted),
          still ∙ first.0
              ∙ sym (ap (λ ps. filled (rest ps)) parted),
        )
    by_case first false word ps is =
        let parted : slice_split is_space (x ∷ xs) ≡ onto_first x ps =
        slice_split-cons_no is_space x xs word ∙ ap (onto_first x) is in
        let one : words_after false (x ∷ xs) ≡ suc (words_after true xs) = let h =
        begun false true x xs (ap not word) in
        omega arith in
        let still : words_after true (x ∷ xs) ≡ words_after true xs = let h =
        begun true true x xs (ap not word) in
        omega arith in
        let behind : words_after true xs ≡ filled (rest ps) = first.1
        ∙ ap (λ ps. filled (rest ps)) is in (
          one ∙ ap suc behind ∙ longer x ps ∙ sym (ap filled parted),
          still ∙ behind
              ∙ behind_first x ps ∙ sym (ap (λ ps. filled (rest ps)) parted),
        )

pub words_are_counted : WordsAreCounted
words_are_counted xs =
    let counted = (words_counted xs).0 in
    omega arith
