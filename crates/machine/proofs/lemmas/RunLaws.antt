-- A machine of one input that is fed piece by piece and closed.
use Rattle.std.proofs.Common.{◌≡◌, ℕ, ◌<◌, ◌≤◌, ◌^◌, List, [], ◌∷◌, ◌++◌, Bool, true, false, cond}
use Rattle.std.proofs.Common.{Some, ap, ◌∙◌, sym, subst, refl, eqb, append_assoc, arith}
use Rattle.std.specs.Prelude.{◌||◌}
use Rattle.std.specs.List.{concat}
use Rattle.std.proofs.lemmas.List.{append-nil}
use Rattle.machine.specs.Law.{Shown, IsLawful, IsNew, IsEmptyOn, Feeds, Closes, IsTooLarge, before}
use Rattle.machine.specs.Law.{with_closed}
use Rattle.machine.specs.Makes.{Makes, after, on_first, with_taken}
use Rattle.machine.specs.Pieces.{Queued, contents}
use Rattle.machine.specs.Whole.{WholeAnswer, StreamAnswer}
use Rattle.machine.specs.declared.protocol.Presence.TheVariants.{Present}
use Rattle.machine.specs.declared.protocol.Want.{Want}
use Rattle.machine.specs.declared.protocol.Want.TheVariants.{Take, Finished}
use Rattle.machine.proofs.MakesLaws.{fun_ext, makes_fed, makes_closed, too_large_fed}
use Rattle.machine.proofs.MakesLaws.{too_large_closed}

-- what a machine would put out of these bytes, as an answer
abbrev pub answer_of : Shown → StreamAnswer
answer_of m ys = record { out = m.rest ys; count = m.most ys }

-- it was fed the pieces in front of those that are left, and put this out
pub record HasRun (first now : Shown) (all left out : Queued) : Type 0 where
  pub taken : List ℕ
  pub joined : taken ++ contents left ≡ contents all
  pub inputs : now.inputs ≡ first.inputs
  pub makes : first.inputs ≡ 1 → Makes (answer_of first) now first.closed (on_first taken)
      (contents out)

nothing_by : (b : Bool) (y : List ℕ) → cond b [] [] ++ y ≡ y
nothing_by true y = refl
nothing_by false y = refl

after_nothing : (ys : ℕ → List ℕ) → after (on_first []) ys ≡ ys
after_nothing ys = fun_ext (λ j. nothing_by (eqb j 0) (ys j))

more_by : (b : Bool) (t piece : List ℕ) → cond b (cond b t [] ++ piece) (cond b t [])
    ≡ cond b (t ++ piece) []
more_by true t piece = refl
more_by false t piece = refl

first_more : (t piece : List ℕ) → with_taken 0 piece (on_first t) ≡ on_first (t ++ piece)
first_more t piece = fun_ext (λ j. more_by (eqb j 0) t piece)

-- nothing was fed yet
pub run_none : (first : Shown) (all out : Queued) → contents out ≡ []
    → HasRun first first all all out
run_none first all out e =
    record {
      taken = [];
      joined = refl;
      inputs = refl;
      makes = λ one. record {
        splits = λ ys h. ap first.rest (after_nothing ys)
            ∙ ap (λ (x : List ℕ). x ++ first.rest ys) (sym e);
        counts = λ ys h. subst (λ (x : ℕ → List ℕ). first.most ys ≤ first.most x)
            (sym (after_nothing ys)) (omega arith);
        closed = λ j. refl;
      };
    }

-- the input that a machine of one input wants
only_input : (now : Shown) (i : ℕ) → IsLawful now → now.wanted ≡ Take i → now.inputs ≡ 1 → i ≡ 0
only_input now i lawful wants one = let h : i < now.inputs = (lawful.wants i wants).0 in omega arith

-- one piece more was fed
pub run_more : (first now now' : Shown) (all left left' out out' : Queued) (i : ℕ) (piece : List ℕ)
    → IsLawful now → now.wanted ≡ Take i → left.pieces ≡ piece ∷ left'.pieces
    → now'.inputs ≡ now.inputs → Feeds i piece now now' out out' → HasRun first now all left out
    → HasRun first now' all left' out'
run_more first now now' all left left' out out' i piece lawful wants next same g r =
    record {
      taken = r.taken ++ piece;
      joined = append_assoc r.taken piece (contents left')
          ∙ (ap (λ (x : List (List ℕ)). r.taken ++ concat x) (sym next) ∙ r.joined);
      inputs = same ∙ r.inputs;
      makes = λ one.
          let is_first : i ≡ 0 = only_input now i lawful wants (r.inputs ∙ one) in
          let taken : with_taken i piece (on_first r.taken) ≡ on_first (r.taken ++ piece) =
          ap (λ (k : ℕ). with_taken k piece (on_first r.taken)) is_first
          ∙ first_more r.taken piece in
          subst (λ (x : List ℕ). Makes (answer_of first) now' first.closed
          (on_first (r.taken ++ piece)) x) (sym g.added)
          (subst (λ (x : ℕ → List ℕ). Makes (answer_of first) now' first.closed x
          (contents out ++ g.made)) taken
          (makes_fed (answer_of first) now now' first.closed (on_first r.taken)
          (contents out) out out' i piece ((lawful.wants i wants).1) g (r.makes one)));
    }

-- if no input is closed, anything may come
none_closed : (closed : ℕ → Bool) (ys : ℕ → List ℕ) → ((j : ℕ) → closed j ≡ false)
    → IsEmptyOn closed ys
none_closed closed ys h j k = let e : closed j ≡ false = h j in absurd (cc)

-- the answer of the whole, by what was fed and what was left
whole_out : (first : Shown) (all left : List ℕ) (taken : List ℕ) (whole : WholeAnswer)
    → IsNew first whole (Present ∷ []) → taken ++ left ≡ all
    → first.rest (after (on_first taken) (on_first left)) ≡ (whole (Some all ∷ [])).out
whole_out first all left taken whole new joined =
    new.rest (after (on_first taken) (on_first left))
    ∙ ap (λ (x : List ℕ). (whole (Some x ∷ [])).out) joined

whole_count : (first : Shown) (all left : List ℕ) (taken : List ℕ) (whole : WholeAnswer)
    → IsNew first whole (Present ∷ []) → taken ++ left ≡ all
    → first.most (after (on_first taken) (on_first left)) ≤ (whole (Some all ∷ [])).count
whole_count first all left taken whole new joined =
    subst (λ (x : List ℕ). first.most
    (after (on_first taken) (on_first left)) ≤ (whole (Some x ∷ [])).count) joined
    (new.most (after (on_first taken) (on_first left)))

-- a machine that has finished has put out the whole answer
pub run_finished : (first now : Shown) (all left out : Queued) (whole : WholeAnswer)
    → HasRun first now all left out → IsLawful now → now.wanted ≡ Finished
    → IsNew first whole (Present ∷ []) → contents out ≡ (whole (Some (contents all) ∷ [])).out
run_finished first now all left out whole r lawful finished new =
    let m : Makes (answer_of first) now first.closed (on_first r.taken) (contents out) =
    r.makes new.inputs in
    let still : IsEmptyOn now.closed (on_first (contents left)) =
    none_closed now.closed (on_first (contents left)) (λ j. m.closed j ∙ new.unclosed j) in
    sym (append-nil (contents out))
    ∙ (ap (λ (x : List ℕ). contents out ++ x)
    (sym (lawful.finished finished (on_first (contents left)) still))
    ∙ (sym (m.splits (on_first (contents left)) still)
    ∙ whole_out first (contents all) (contents left) r.taken whole new r.joined))

-- a machine of one input that is closed has finished
closed_wants : (now : Shown) (want : Want) → now.wanted ≡ want → IsLawful now → now.inputs ≡ 1
    → now.closed 0 ≡ true → now.wanted ≡ Finished
closed_wants now Finished e lawful one shut = e
closed_wants now (Take i) e lawful one shut =
    let is_first : i ≡ 0 = only_input now i lawful e one in
    let unshut : now.closed i ≡ false = (lawful.wants i e).1 in
    let same : now.closed i ≡ now.closed 0 = ap now.closed is_first in absurd (cc)

same_by : (b : Bool) (x : List ℕ) → cond b x x ≡ x
same_by true x = refl
same_by false x = refl

nothing_on : (j : ℕ) → on_first [] j ≡ []
nothing_on j = same_by (eqb j 0) []

nothing_left : (left : Queued) → left.pieces ≡ [] → contents left ≡ []
nothing_left left e = ap concat e

-- a machine that was closed has put out the whole answer
pub run_closed : (first now now' : Shown) (all left out out' : Queued) (i : ℕ) (whole : WholeAnswer)
    → HasRun first now all left out → left.pieces ≡ [] → IsLawful now → IsLawful now'
    → now.wanted ≡ Take i → now'.inputs ≡ now.inputs → Closes i now now' out out'
    → IsNew first whole (Present ∷ []) → contents out' ≡ (whole (Some (contents all) ∷ [])).out
run_closed first now now' all left out out' i whole r none lawful lawful' wants same g new =
    let one : now.inputs ≡ 1 = r.inputs ∙ new.inputs in
    let is_first : i ≡ 0 = only_input now i lawful wants one in
    let m : Makes (answer_of first) now' (with_closed i first.closed) (on_first r.taken)
    (contents out ++ g.made) =
    makes_closed (answer_of first) now now' first.closed (on_first r.taken)
    (contents out) out out' i g (r.makes new.inputs) in
    let shut : now'.closed 0 ≡ true = m.closed 0
    ∙ ap (λ (k : ℕ). eqb 0 k || first.closed 0) is_first in
    let finished : now'.wanted ≡ Finished = closed_wants now' now'.wanted refl lawful' (same
    ∙ one) shut in
    let still : IsEmptyOn now'.closed (on_first []) = λ j k. nothing_on j in
    g.added
    ∙ (sym (append-nil (contents out ++ g.made))
    ∙ (ap (λ (x : List ℕ). (contents out ++ g.made) ++ x)
    (sym (lawful'.finished finished (on_first []) still))
    ∙ (sym (m.splits (on_first []) still)
    ∙ whole_out first (contents all) [] r.taken whole new
    (ap (λ (x : List ℕ). r.taken ++ x) (sym (nothing_left left none)) ∙ r.joined))))

-- a count that is too large for the machine is too large for the whole answer
pub run_too_large : (first now : Shown) (all left left' out : Queued) (i : ℕ) (piece : List ℕ)
    (whole : WholeAnswer) → HasRun first now all left out → left.pieces ≡ piece ∷ left'.pieces
    → IsLawful now → now.wanted ≡ Take i → IsTooLarge now now.closed (before i piece)
    → IsNew first whole (Present ∷ []) → 2 ^ 63 ≤ (whole (Some (contents all) ∷ [])).count
run_too_large first now all left left' out i piece whole r next lawful wants large new =
    let m : Makes (answer_of first) now first.closed (on_first r.taken) (contents out) =
    r.makes new.inputs in
    let is_first : i ≡ 0 = only_input now i lawful wants (r.inputs ∙ new.inputs) in
    let still : IsEmptyOn now.closed (on_first (contents left')) =
    none_closed now.closed (on_first (contents left')) (λ j. m.closed j ∙ new.unclosed j) in
    let taken : with_taken i piece (on_first r.taken) ≡ on_first (r.taken ++ piece) =
    ap (λ (k : ℕ). with_taken k piece (on_first r.taken)) is_first ∙ first_more r.taken piece in
    let joined : (r.taken ++ piece) ++ contents left' ≡ contents all =
    append_assoc r.taken piece (contents left')
    ∙ (ap (λ (x : List (List ℕ)). r.taken ++ concat x) (sym next) ∙ r.joined) in
    let most : 2 ^ 63 ≤ first.most
    (after (with_taken i piece (on_first r.taken)) (on_first (contents left'))) =
    too_large_fed (answer_of first) now first.closed (on_first r.taken) (contents out) i piece
    ((lawful.wants i wants).1) large m (on_first (contents left')) still in
    let most' : 2 ^ 63 ≤ first.most
    (after (on_first (r.taken ++ piece)) (on_first (contents left'))) =
    subst (λ (x : ℕ → List ℕ). 2 ^ 63 ≤ first.most (after x (on_first (contents left')))) taken
    most in
    let bound : first.most (after (on_first (r.taken ++ piece))
    (on_first (contents left'))) ≤ (whole (Some (contents all) ∷ [])).count =
    whole_count first (contents all) (contents left') (r.taken ++ piece) whole new joined in
    omega arith

pub run_too_large_closed : (first now : Shown) (all left out : Queued) (i : ℕ) (whole : WholeAnswer)
    → HasRun first now all left out → left.pieces ≡ []
    → IsTooLarge now (with_closed i now.closed) (λ ys. ys) → IsNew first whole (Present ∷ [])
    → 2 ^ 63 ≤ (whole (Some (contents all) ∷ [])).count
run_too_large_closed first now all left out i whole r none large new =
    let m : Makes (answer_of first) now first.closed (on_first r.taken) (contents out) =
    r.makes new.inputs in
    let most : 2 ^ 63 ≤ first.most (after (on_first r.taken) (on_first [])) =
    too_large_closed (answer_of first) now first.closed (on_first r.taken) (contents out) i large m
    (on_first []) (λ j k. nothing_on j) in
    let bound : first.most (after (on_first r.taken) (on_first [])) ≤ (whole
    (Some (contents all) ∷ [])).count =
    whole_count first (contents all) [] r.taken whole new
    (ap (λ (x : List ℕ). r.taken ++ x) (sym (nothing_left left none)) ∙ r.joined) in
    omega arith
