-- The names of the input and of the output.
use Rattle.std.proofs.Common.{◌≡◌, ℕ, ◌-◌, ◌≤◌, List, [], ◌∷◌, length, take, get_or, Option, Some}
use Rattle.std.proofs.Common.{ap, ◌∙◌, sym, arith}
use Rattle.commands.specs.UniqWords.{files_of, output_of}

two_by : (operands names : List (List ℕ)) (last file : Option (List ℕ)) → 2 ≤ length operands
    → length operands ≤ 2 → names ≡ take (length operands - 1) operands
    → last ≡ Some (get_or operands (length operands - 1) []) → file ≡ output_of last
    → files_of operands ≡ Some (names, file)
two_by [] names last file some few front back is = absurd (omega (arith, some))
two_by (a ∷ []) names last file some few front back is = absurd (omega (arith, some))
two_by (a ∷ b ∷ []) names last file some few front back is =
    let named : file ≡ output_of (Some b) = is ∙ ap output_of back in
    ap (λ (x : List (List ℕ)). Some (x, output_of (Some b))) (sym front)
    ∙ ap (λ (x : Option (List ℕ)). Some (names, x)) (sym named)
two_by (a ∷ b ∷ d ∷ ds) names last file some few front back is = absurd (omega (arith, few))

-- of two names the last one is the output's
pub two_files : (operands words names : List (List ℕ)) (last file : Option (List ℕ)) (n : ℕ)
    → words ≡ operands → n ≡ length words → 2 ≤ n → n ≤ 2 → names ≡ take (n - 1) words
    → last ≡ Some (get_or words (n - 1) []) → file ≡ output_of last
    → files_of operands ≡ Some (names, file)
two_files operands words names last file n same long some few front back is =
    ap files_of (sym same)
    ∙ two_by words names last file (omega arith) (omega arith) (front
    ∙ ap (λ (k : ℕ). take (k - 1) words) long) (back
    ∙ ap (λ (k : ℕ). Some (get_or words (k - 1) [])) long) is
