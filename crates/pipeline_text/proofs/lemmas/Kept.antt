-- What is between single quotes.
use Rattle.std.proofs.Common.{◌≡◌, ℕ, zero, suc, true, false, List, [], ◌∷◌, ◌++◌, length, map}
use Rattle.std.proofs.Common.{Option, Some, inl, inr, eqb, refl, ap, ◌∙◌}
use Rattle.std.proofs.lemmas.List.{append-nil}
use Rattle.pipeline_text.specs.declared.mark.Mark.{Mark}
use Rattle.pipeline_text.specs.declared.mark.Mark.TheVariants.{Quoted, Quote}
use Rattle.pipeline_text.specs.declared.token.Look.TheVariants.{PartlyQuoted}
use Rattle.pipeline_text.specs.declared.token.Token.TheVariants as token
use Rattle.command_words.specs.Texts.{◌>>=◌}
use Rattle.pipeline_text.specs.Quotes.{until, marks_of_parts, with_marks, has_nul, marks, enclosed}
use Rattle.pipeline_text.specs.Tokens.{tokens, value, word, after_word, with_token}
use Rattle.pipeline_text.specs.Laws.{has_single_quote, KeepsSingleQuoted}
use Rattle.pipeline_text.proofs.lemmas.Moved.{cases}
use Rattle.pipeline_text.proofs.lemmas.Cut.{tokens-nil, tokens-cons}

until_end : (x : List ℕ) → has_single_quote x ≡ false → until 39 (x ++ 39 ∷ []) ≡ Some (x, [])
until_end [] h = refl
until_end (b ∷ x) h =
    elim (cases (eqb b 39)) [
      | inl e ↦ absurd (let w : has_single_quote (b ∷ x) ≡ true = rw e refl in cc)
      | inr e ↦ rw e (ap (enclosed b) (until_end x (rw e at h)))
    ]

clean_end : (x : List ℕ) → has_nul x ≡ false → has_nul (x ++ 39 ∷ []) ≡ false
clean_end [] h = refl
clean_end (b ∷ x) h =
    elim (cases (eqb b 0)) [
      | inl e ↦ absurd (let w : has_nul (b ∷ x) ≡ true = rw e refl in cc)
      | inr e ↦ rw e (clean_end x (rw e at h))
    ]

abbrev closing : List ℕ → List Mark
closing x = map Quoted x ++ Quote ∷ []

word_all : (x : List ℕ) → word (closing x) ≡ closing x
word_all [] = refl
word_all (b ∷ x) = ap (λ (w : List Mark). Quoted b ∷ w) (word_all x)

none_after : (x : List ℕ) → after_word (closing x) ≡ []
none_after [] = refl
none_after (b ∷ x) = none_after x

value_all : (x : List ℕ) → value (closing x) ≡ x
value_all [] = refl
value_all (b ∷ x) = ap (λ (w : List ℕ). b ∷ w) (value_all x)

append_none : (front : List Mark) (n : ℕ) → with_marks front (marks_of_parts n true []) ≡ Some front
unfolding marks_of_parts
append_none front zero = ap (λ (x : List Mark). Some x) (append-nil front)
append_none front (suc n) = ap (λ (x : List Mark). Some x) (append-nil front)

marks_all : (x : List ℕ) → has_nul x ≡ false → has_single_quote x ≡ false
    → marks (39 ∷ x ++ 39 ∷ []) ≡ Some (Quote ∷ closing x)
unfolding marks_of_parts
marks_all x n q =
    let c : has_nul (39 ∷ (x ++ 39 ∷ [])) ≡ false = clean_end x n in
    rw (c, until_end x q) (append_none (Quote ∷ closing x) (length (x ++ 39 ∷ [])))

pub kept : KeepsSingleQuoted
kept x n q =
    ap (λ (ms : Option (List Mark)). ms >>= tokens) (marks_all x n q)
    ∙ tokens-cons Quote (closing x)
    ∙ rw (word_all x, none_after x, value_all x)
    (ap (with_token (token.Word x PartlyQuoted)) tokens-nil)
