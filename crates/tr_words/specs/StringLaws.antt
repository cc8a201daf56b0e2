-- Laws of the definitions of tr's strings and tables (POSIX.1-2017 XCU tr, DESCRIPTION and EXTENDED
-- DESCRIPTION).
use Rattle.std.specs.Prelude.{◌≡◌, ◌≢◌, ◌+◌, ℕ, List, ◌∷◌, ◌++◌, Some, drop, min}
use Rattle.std.specs.List.{All}
use Rattle.command_words.specs.Texts.{◌>>=◌}
use Rattle.tr_words.specs.Expansions.{expanded}
use Rattle.tr_words.specs.Strings.{elements, first_at, string_max}
use Rattle.tr_words.specs.Tables.{last_for}
use Rattle.tr_words.specs.declared.element.Element.{Element}
use Rattle.tr_words.specs.declared.element.Element.TheVariants.{Repeat}

-- a string is its first element, followed by the rest
abbrev pub StringsAreCut : Type 0
StringsAreCut =
    (x : ℕ) (xs : List ℕ)
    → elements (x ∷ xs)
    ≡ (first_at (x ∷ xs) >>= λ f. f.element >>= λ element. elements (drop f.length (x ∷ xs))
    >>= λ others. Some (element ∷ others))

-- a repeat of more bytes than a string may mean is refused, however many more there are
abbrev pub RepeatsAreCapped : Type 0
RepeatsAreCapped =
    (needed x n : ℕ) (before after : List Element)
    → expanded needed (before ++ Repeat x (min n (string_max + 1)) ∷ after)
    ≡ expanded needed (before ++ Repeat x n ∷ after)

-- no pair begins with this byte
abbrev pub HasNone : ℕ → List (ℕ × ℕ) → Type 0
HasNone x pairs = All (λ (p : ℕ × ℕ). p.0 ≢ x) pairs

-- the last pair that begins with a byte says what it becomes; if there is none, the default does
pub record LastPairsHold : Type 0 where
  pub last : (default x y : ℕ) (before after : List (ℕ × ℕ)) → HasNone x after
      → last_for default x (before ++ (x, y) ∷ after) ≡ y
  pub none : (default x : ℕ) (pairs : List (ℕ × ℕ)) → HasNone x pairs
      → last_for default x pairs ≡ default
