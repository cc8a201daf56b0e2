-- A part of a list, from one place up to another.
use Rattle.std.proofs.Common.{◌≡◌, ◌↔◌, ℕ, ◌≤◌, ◌-◌, true, List, [], length, take, drop, nat_eq}
use Rattle.std.proofs.Common.{sym, ap, ◌∙◌, arith}
use Rattle.std.proofs.lemmas.Bool.{eqb-true, eq-eqb}
use Rattle.std.proofs.lemmas.List.{length-drop, length-take-le, nil_from_length}

-- it is empty if the two places are one
pub empty_part : (from upto : ℕ) (xs : List ℕ) → from ≤ upto → upto ≤ length xs
    → (nat_eq from upto ≡ true ↔ (drop from (take upto xs) ≡ []))
empty_part from upto xs ordered within =
    let long : length (drop from (take upto xs)) ≡ upto - from = length-drop from (take upto xs)
    ∙ ap (λ n. n - from) (length-take-le upto xs within) in (
      (λ same. let one = eqb-true from upto same in nil_from_length _ (long ∙ omega (arith, one))),
      λ none. let nothing : 0 ≡ upto - from = ap length (sym none) ∙ long in
          eq-eqb from upto (omega (arith, ordered, nothing)),
    )
