-- The inputs and the branches of a script's stages are apart.
use Rattle.std.proofs.Common.{◌≡◌, ℕ, suc, ◌<◌, ◌≤◌, ◌==◌, ◌&&◌, Bool, true, false, cond, List, []}
use Rattle.std.proofs.Common.{◌∷◌, refl, sym, ap, ◌∙◌, subst, ⊎_elim, arith}
use Rattle.std.specs.List.{count_by, enumerate_from}
use Rattle.std.proofs.lemmas.Bool.{cases_eq, eq-eqb, ne_eqb}
use Rattle.std.proofs.lemmas.List.Sums.{sum_by-cons, sum_by-le-sum_by}
use Rattle.planner.specs.declared.place.Place.{Place}
use Rattle.planner.specs.Places.{Stage}
use Rattle.planner.specs.Ends.{end_at, ends_at, all_ends}
use Rattle.planner.specs.Laws.{AreInTurn}
use Rattle.commands.proofs.CountedWords.{count_map, count_none, count_flat_map, one_at}
use Rattle.planner.proofs.lemmas.PipeLaws.{is_end}

no_stage : (ss : List Stage) (a s : ℕ) → AreInTurn a ss → s < a
    → count_by (λ (t : Stage). t.index == s) ss ≡ 0
no_stage [] a s h l = refl
no_stage (t ∷ ss) a s h l =
    let c = sum_by-cons (λ (t : Stage). cond (t.index == s) 1 0) t ss in
    let z : ◌≡◌ {A = ℕ} (cond (t.index == s) 1 0) 0 =
    ap (λ b. cond b 1 0) (ne_eqb t.index s (λ e. let f = h.0 in omega (arith, e, f))) in
    let ih = no_stage ss (suc a) s h.1 (omega arith) in
    omega (arith, c, z, ih)

-- no two stages have one index
pub one_stage : (ss : List Stage) (a s : ℕ) → AreInTurn a ss
    → count_by (λ (t : Stage). t.index == s) ss ≤ 1
one_stage [] a s h = omega arith
one_stage (t ∷ ss) a s h = ⊎_elim
    (λ (e : a ≡ s).
    let c = sum_by-cons (λ (t : Stage). cond (t.index == s) 1 0) t ss in
    let z : ◌≡◌ {A = ℕ} (cond (t.index == s) 1 0) 1 =
    ap (λ b. cond b 1 0) (eq-eqb t.index s (h.0 ∙ e)) in
    let n = no_stage ss (suc a) s h.1 (omega arith) in
    omega (arith, c, z, n))
    (λ (ne : a ≡ s → ⊥).
    let c = sum_by-cons (λ (t : Stage). cond (t.index == s) 1 0) t ss in
    let z : ◌≡◌ {A = ℕ} (cond (t.index == s) 1 0) 0 =
    ap (λ b. cond b 1 0) (ne_eqb t.index s (λ e. ne (sym h.0 ∙ e))) in
    let ih = one_stage ss (suc a) s h.1 in
    omega (arith, c, z, ih))
    (cases_eq a s)

-- those that pass a test and another
pub under : {X : Type 0} (q : Bool) (f : X → Bool) (xs : List X) → count_by f xs ≤ 1
    → count_by (λ x. q && f x) xs ≤ cond q 1 0
under true f xs h = h
under false f xs h = let z = count_none (λ x. false) xs (λ x. refl) in omega (arith, z)

-- no two ends of a script have one stage and one number
pub ends_at_most : (places : Stage → List Place) (ss : List Stage) → AreInTurn 0 ss → (s i : ℕ)
    → count_by (is_end s i) (all_ends places ss) ≤ 1
ends_at_most places ss h s i =
    let a = count_flat_map (is_end s i) (ends_at places) ss in
    let each : (t : Stage) → count_by (is_end s i) (ends_at places t) ≤ cond (t.index == s) 1 0 =
    λ t. subst (λ n. n ≤ cond (t.index == s) 1 0)
    (sym (count_map (is_end s i) (end_at t.index) (enumerate_from 0 (places t))))
    (under (t.index == s) (λ (p : ℕ × Place). p.0 == i) (enumerate_from 0 (places t))
    (one_at (places t) 0 i)) in
    let b = sum_by-le-sum_by (λ t. count_by (is_end s i) (ends_at places t))
    (λ (t : Stage). cond (t.index == s) 1 0) ss each in
    let c = one_stage ss 0 s h in
    omega (arith, a, b, c)
