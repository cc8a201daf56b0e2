-- The places of the openings that were refused, found from the first answer to the last.
use Rattle.std.proofs.Common.{◌≡◌, ℕ, zero, suc, ◌+◌, ◌<◌, drop, List, [], ◌∷◌, ◌++◌, length, take, get_or}
use Rattle.std.proofs.Common.{Option, Some, None, refl, sym, ap, ◌∙◌, arith, add-one, append-nil}
use Rattle.std.proofs.Common.{is_some, true, false}
use Rattle.std.proofs.Common.{length-take, take-append-drop}
use Rattle.std.proofs.Math.Seq.{take-suc}
use Rattle.std.specs.List.{slice_get}
use Rattle.run_types.specs.declared.names.InName.{InName}
use Rattle.planner.specs.declared.plan.InOpening.{InOpening}
use Rattle.openings.specs.Answers.{HasFirst, missing_from, missing_places}
use Rattle.openings.specs.Openings.{input_names}

-- the places that are missing, with one more answer
missing_more : (place : ℕ) (xs : List (Option ℕ)) (x : Option ℕ)
    → missing_from place (xs ++ x ∷ []) ≡ missing_from place xs ++ missing_from (place + length xs)
    (x ∷ [])
missing_more place [] x = ap (λ p. missing_from p (x ∷ [])) (omega arith)
missing_more place (None ∷ xs) x = ap (λ l. place ∷ l) (missing_more (place + 1) xs x
    ∙ ap (λ p. missing_from (place + 1) xs ++ missing_from p (x ∷ [])) (omega arith))
missing_more place (Some file ∷ xs) x = missing_more (place + 1) xs x
    ∙ ap (λ p. missing_from (place + 1) xs ++ missing_from p (x ∷ [])) (omega arith)

-- the places that are missing, with the answer at one more place
missing_at : (answers : List (Option ℕ)) (place : ℕ) → place < length answers →
    missing_places (take (place + 1) answers) ≡ missing_places (take place answers)
    ++ missing_from place (get_or answers place None ∷ [])
missing_at answers place h =
    let more : take (place + 1) answers ≡ take place answers ++ (get_or answers place None ∷ []) =
    rw add-one (take-suc answers place None h) in
    ap missing_places more ∙ missing_more 0 (take place answers) (get_or answers place None)
    ∙ ap (λ p. missing_places (take place answers) ++ missing_from p
    (get_or answers place None ∷ [])) (omega (arith, length-take place answers, h))

-- one answer is missing
one_missing : (x : Option ℕ) (place : ℕ) → is_some x ≡ false
    → missing_from place (x ∷ []) ≡ place ∷ []
one_missing None place e = refl
one_missing (Some file) place e = absurd (cc)

none_missing : (x : Option ℕ) (place : ℕ) → is_some x ≡ true → missing_from place (x ∷ []) ≡ []
none_missing None place e = absurd (cc)
none_missing (Some file) place e = refl

-- the place of an answer that is none was added
pub found_missing : (answers : List (Option ℕ)) (place : ℕ) (missing now : List ℕ)
    → place < length answers → is_some (get_or answers place None) ≡ false →
    missing ≡ missing_places (take place answers) → now ≡ missing ++ place ∷ []
    → now ≡ missing_places (take (place + 1) answers)
found_missing answers place missing now h e was is =
    is ∙ ap (λ l. l ++ place ∷ []) was
    ∙ ap (λ l. missing_places (take place answers) ++ l)
    (sym (one_missing (get_or answers place None) place e)) ∙ sym (missing_at answers place h)

-- no place is added for an answer that is there
pub found_there : (answers : List (Option ℕ)) (place : ℕ) (missing now : List ℕ)
    → place < length answers → is_some (get_or answers place None) ≡ true →
    missing ≡ missing_places (take place answers) → now ≡ missing
    → now ≡ missing_places (take (place + 1) answers)
found_there answers place missing now h e was is =
    is ∙ was ∙ sym (append-nil (missing_places (take place answers)))
    ∙ ap (λ l. missing_places (take place answers) ++ l)
    (sym (none_missing (get_or answers place None) place e)) ∙ sym (missing_at answers place h)

-- the places that are missing among answers, and among more that follow
missing_join : (place : ℕ) (xs ys : List (Option ℕ))
    → missing_from place (xs ++ ys) ≡ missing_from place xs ++ missing_from (place + length xs) ys
missing_join place [] ys = ap (λ p. missing_from p ys) (omega arith)
missing_join place (None ∷ xs) ys = ap (λ l. place ∷ l) (missing_join (place + 1) xs ys
    ∙ ap (λ p. missing_from (place + 1) xs ++ missing_from p ys) (omega arith))
missing_join place (Some file ∷ xs) ys = missing_join (place + 1) xs ys
    ∙ ap (λ p. missing_from (place + 1) xs ++ missing_from p ys) (omega arith)

-- the first place that is missing, if none before it is
pub first_found : (answers : List (Option ℕ)) (place : ℕ) → place < length answers
    → is_some (get_or answers place None) ≡ false →
    [] ≡ missing_places (take place answers) → HasFirst place (missing_places answers)
first_found answers place h e was =
    let front = found_missing answers place [] (place ∷ []) h e was refl in
    let rest = missing_from (0 + length (take (place + 1) answers)) (drop (place + 1) answers) in (
      rest,
      ap missing_places (sym (take-append-drop (place + 1) answers))
          ∙ missing_join 0 (take (place + 1) answers) (drop (place + 1) answers)
          ∙ ap (λ l. l ++ rest) (sym front),
    )

-- the input at a place has the name that is there
pub named_at : (openings : List InOpening) (place : ℕ) (name : InName) → place < length openings
    → name ≡ get_or (input_names openings) place name
    → (o : InOpening) × (slice_get openings place ≡ Some o) × (o.name ≡ name)
named_at [] place name below is = absurd (omega (arith, below))
named_at (o ∷ openings) zero name below is = (o, refl, sym is)
named_at (o ∷ openings) (suc place) name below is =
    named_at openings place name (omega (arith, below)) is
