-- Words that are read one after another.
use Rattle.std.proofs.Common.{◌≡◌, ℕ, zero, suc, ◌+◌, List, [], ◌∷◌, ◌++◌, map, take, Option}
use Rattle.std.proofs.Common.{Some, None, refl, sym, ap, ◌∙◌, add-one}
use Rattle.std.specs.Prelude.{IfSome, option_map}
use Rattle.std.proofs.lemmas.List.{map-append}
use Rattle.std.specs.List.{slice_get}

-- the first words, with one more
take_more : (words : List (List ℕ)) (number : ℕ) (word : List ℕ) → slice_get words number ≡ Some word
    → take (suc number) words ≡ take number words ++ word ∷ []
take_more [] number word at = absurd (cc)
take_more (w ∷ words) zero word at = let same : w ≡ word = cc in ap (λ (l : List ℕ). l ∷ []) same
take_more (w ∷ words) (suc number) word at =
    ap (λ (l : List (List ℕ)). w ∷ l) (take_more words number word at)

-- all words, if there are no more
take_past : (words : List (List ℕ)) (number : ℕ) → slice_get words number ≡ None
    → take number words ≡ words
take_past [] zero past = refl
take_past [] (suc number) past = refl
take_past (w ∷ words) zero past = absurd (cc)
take_past (w ∷ words) (suc number) past =
    ap (λ (l : List (List ℕ)). w ∷ l) (take_past words number past)

-- one more word was read
pub words_more : {A : Type 0} (items : A → List ℕ) (words : Option (List (List ℕ))) (number : ℕ)
    (given now : List A) (field : Option A) (word : A)
    → IfSome words (λ ws. map items given ≡ take number ws)
    → IfSome (option_map (λ ws. slice_get ws number) words) (λ held. held ≡ option_map items field)
    → field ≡ Some word → now ≡ given ++ word ∷ []
    → IfSome words (λ ws. map items now ≡ take (number + 1) ws)
words_more items None number given now field word was at some is = tt
words_more items (Some ws) number given now field word was at some is =
    ap (map items) is ∙ (map-append items given (word ∷ [])
    ∙ (ap (λ (l : List (List ℕ)). l ++ items word ∷ []) was
    ∙ sym (rw add-one (take_more ws number (items word) (at ∙ ap (option_map items) some)))))

-- there was no more
pub words_all : {A : Type 0} (items : A → List ℕ) (words : Option (List (List ℕ))) (number : ℕ)
    (given : List A) (field : Option A)
    → IfSome words (λ ws. map items given ≡ take number ws)
    → IfSome (option_map (λ ws. slice_get ws number) words) (λ held. held ≡ option_map items field)
    → field ≡ None → IfSome words (λ ws. map items given ≡ ws)
words_all items None number given field was at none = tt
words_all items (Some ws) number given field was at none =
    was ∙ take_past ws number (at ∙ ap (option_map items) none)
