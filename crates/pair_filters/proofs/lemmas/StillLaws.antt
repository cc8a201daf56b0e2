-- What the machine of uniq still writes, once more came.
use Rattle.std.proofs.Common.{◌≡◌, ◌≤◌, Bool, true, false, cond, not, ℕ, List, [], ◌++◌, refl, ap}
use Rattle.std.proofs.Common.{◌∙◌, sym, subst, arith}
use Rattle.std.specs.Prelude.{◌&&◌}
use Rattle.std.proofs.lemmas.List.{append-nil}
use Rattle.pair_filters.specs.declared.runs.Rules.{Rules}
use Rattle.pair_filters.specs.UniqShows.{uniq_still, uniq_most}
use Rattle.pair_filters.specs.UniqSteps.{TakesBytes, contents_behind, greatest_by, text_by}

pub still_open : (present closed : Bool) (rules : Rules) (begun : List (List ℕ))
    (partial x : List ℕ) → present ≡ true → closed ≡ false
    → uniq_still present closed rules begun partial x
    ≡ text_by rules (begun ++ contents_behind partial x)
still_open present closed rules begun partial x h k =
    ap (λ (b : Bool). cond (b && not closed) (text_by rules (begun ++ contents_behind partial x))
    []) h
    ∙ ap (λ (b : Bool). cond (not b) (text_by rules (begun ++ contents_behind partial x)) []) k

pub most_open : (present closed : Bool) (rules : Rules) (begun : List (List ℕ)) (partial x : List ℕ)
    → present ≡ true → closed ≡ false → uniq_most present closed rules begun partial x
    ≡ greatest_by rules (begun ++ contents_behind partial x)
most_open present closed rules begun partial x h k =
    ap (λ (b : Bool). cond (b && not closed)
    (greatest_by rules (begun ++ contents_behind partial x)) 0) h
    ∙ ap (λ (b : Bool). cond (not b) (greatest_by rules (begun ++ contents_behind partial x)) 0) k

pub still_closed : (present : Bool) (rules : Rules) (begun : List (List ℕ)) (partial x : List ℕ)
    → uniq_still present true rules begun partial x ≡ []
still_closed true rules begun partial x = refl
still_closed false rules begun partial x = refl

pub most_closed : (present : Bool) (rules : Rules) (begun : List (List ℕ)) (partial x : List ℕ)
    → uniq_most present true rules begun partial x ≡ 0
most_closed true rules begun partial x = refl
most_closed false rules begun partial x = refl

-- a piece of a present input
pub piece_still : (present closed : Bool) (rules : Rules) (begun begun' : List (List ℕ))
    (partial partial' piece made ys : List ℕ) → present ≡ true → closed ≡ false
    → TakesBytes rules begun begun' partial partial' piece [] made
    → uniq_still present closed rules begun partial (piece ++ ys)
    ≡ made ++ uniq_still present closed rules begun' partial' ys
piece_still present closed rules begun begun' partial partial' piece made ys h k t =
    still_open present closed rules begun partial (piece ++ ys) h k
    ∙ (t.splits ys ∙ ap (λ (x : List ℕ). made ++ x)
    (sym (still_open present closed rules begun' partial' ys h k)))

pub piece_most : (present closed : Bool) (rules : Rules) (begun begun' : List (List ℕ))
    (partial partial' piece made ys : List ℕ) → present ≡ true → closed ≡ false
    → TakesBytes rules begun begun' partial partial' piece [] made
    → uniq_most present closed rules begun' partial' ys ≤ uniq_most present closed rules begun
    partial (piece ++ ys)
piece_most present closed rules begun begun' partial partial' piece made ys h k t =
    omega (
      arith,
      most_open present closed rules begun partial (piece ++ ys) h k,
      most_open present closed rules begun' partial' ys h k,
      t.counts ys,
    )

-- the same bytes, and nothing made before
pub takes_of : (rules : Rules) (begun begun' : List (List ℕ))
    (partial partial' bytes piece made made' : List ℕ) → bytes ≡ piece → made ≡ []
    → TakesBytes rules begun begun' partial partial' bytes made made'
    → TakesBytes rules begun begun' partial partial' piece [] made'
takes_of rules begun begun' partial partial' bytes piece made made' e none t =
    subst (λ (x : List ℕ). TakesBytes rules begun begun' partial partial' x [] made') e
    (subst (λ (x : List ℕ). TakesBytes rules begun begun' partial partial' bytes x made') none
    t)

-- the end of a present input
pub end_still : (present closed : Bool) (rules : Rules) (begun begun' : List (List ℕ))
    (partial partial' made : List ℕ) → present ≡ true → closed ≡ false
    → made ≡ [] ++ text_by rules (begun ++ contents_behind partial [])
    → uniq_still present closed rules begun partial []
    ≡ made ++ uniq_still present true rules begun' partial' []
end_still present closed rules begun begun' partial partial' made h k e =
    still_open present closed rules begun partial [] h k
    ∙ (sym e
    ∙ (sym (append-nil made)
    ∙ ap (λ (x : List ℕ). made ++ x) (sym (still_closed present rules begun' partial' []))))

-- bytes that a call wrote, after those that were there
pub added_as : (before bytes made out : List ℕ) → out ≡ before ++ bytes → bytes ≡ made
    → out ≡ before ++ made
added_as before bytes made out e is = e ∙ ap (λ (x : List ℕ). before ++ x) is

pub made_as : (none made text : List ℕ) → none ≡ [] → made ≡ none ++ text → made ≡ [] ++ text
made_as none made text h e = e ∙ ap (λ (x : List ℕ). x ++ text) h
