-- Counts of names, one name on, and the lists of uses that they give.
use Rattle.std.proofs.Common.{◌≡◌, ℕ, suc, ◌+◌, ◌<◌, ◌≤◌, Bool, true, false, cond, List, [], ◌∷◌}
use Rattle.std.proofs.Common.{◌++◌, length, map, get_or, take, Option, Some, unwrap_or, refl, sym}
use Rattle.std.proofs.Common.{ap, ◌∙◌, ⊎_elim, arith}
use Rattle.std.specs.List.{Contains}
use Rattle.std.specs.Str.{bytes_eq}
use Rattle.std.proofs.lemmas.Bool.{cases_lt, cases_Bool, false≢true}
use Rattle.std.proofs.lemmas.List.{length-map, length-take-le, map-append, get_or-map}
use Rattle.std.proofs.lemmas.List.Sums.{sum_by-cons, sum_by-append, count_by-le-length}
use Rattle.std.proofs.lemmas.List.Elements.{All-map, Contains-append_left, Contains-append_right}
use Rattle.std.proofs.lemmas.Slice.Eq.{bytes_eq-Decides}
use denote.Ref.{Bor}
use Rattle.graphs.specs.declared.uses.Uses.{Uses}
use Rattle.graphs.specs.NamesByPlace.{texts}
use Rattle.graphs.specs.Uses.{times, uses_of, AreUses}
use Rattle.graphs.proofs.lemmas.PlaceLaws.{texts_more}

module _ (names : List (Bor (List ℕ))) (i : ℕ) (d : Bor (List ℕ)) (l : i < length names) where
  -- one more name is counted
  times_more : (q : List ℕ) → times q (texts (take (i + 1) names))
      ≡ times q (texts (take i names)) + cond (bytes_eq q (get_or names i d).now) 1 0
  times_more q =
      let x = (get_or names i d).now in
      let f : List ℕ → ℕ = λ y. cond (bytes_eq q y) 1 0 in
      let a = ap (times q) (texts_more names i d l) in
      let b = sum_by-append f (texts (take i names)) (x ∷ []) in
      let c = sum_by-cons f x [] in
      omega (arith, a, b, c)

  -- the count of a name that comes next has room for it
  pub times_below : (q : List ℕ) → times q (texts (take i names)) ≤ i
  times_below q =
      let a = count_by-le-length (bytes_eq q) (texts (take i names)) in
      let b = length-map (take i names) (λ n. n.now) in
      let c = length-take-le i names (omega arith) in
      omega (arith, a, b, c)

  -- a map that is changed at the next name counts it too
  pub tally_next : (old new : List ℕ → Option ℕ) (count : ℕ)
      → ((q : List ℕ) → unwrap_or (old q) 0 ≡ times q (texts (take i names)))
      → count ≡ unwrap_or (old (get_or names i d).now) 0
      → ((q : List ℕ) → new q ≡ cond (bytes_eq (get_or names i d).now q) (Some (count + 1)) (old q))
      → (q : List ℕ) → unwrap_or (new q) 0 ≡ times q (texts (take (i + 1) names))
  tally_next old new count was here changed q = by_case (bytes_eq x q) refl
    where
      x : List ℕ
      x = (get_or names i d).now

      by_case : (b : Bool) → bytes_eq x q ≡ b
          → unwrap_or (new q) 0 ≡ times q (texts (take (i + 1) names))
      by_case true e =
          let s : x ≡ q = (bytes_eq-Decides x q).0 e in
          let a : unwrap_or (new q) 0 ≡ count + 1 = ap (λ o. unwrap_or o 0) (changed q)
          ∙ ap (λ b. unwrap_or (cond b (Some (count + 1)) (old q)) 0) e in
          let m = times_more q in
          let z : ◌≡◌ {A = ℕ} (cond (bytes_eq q x) 1 0) 1 =
          ap (λ b. cond b 1 0) ((bytes_eq-Decides q x).1 (sym s)) in
          let w : count ≡ times q (texts (take i names)) = here
          ∙ (was x ∙ ap (λ y. times y (texts (take i names))) s) in
          omega (arith, a, m, z, w)
      by_case false e =
          let a : unwrap_or (new q) 0 ≡ unwrap_or (old q) 0 = ap (λ o. unwrap_or o 0) (changed q)
          ∙ ap (λ b. unwrap_or (cond b (Some (count + 1)) (old q)) 0) e in
          let m = times_more q in
          let other : bytes_eq q x ≡ false =
          ⊎_elim
          (λ h. absurd (false≢true (sym e
          ∙ (bytes_eq-Decides x q).1 (sym ((bytes_eq-Decides q x).0 h))))) (λ h. h)
          (cases_Bool (bytes_eq q x)) in
          let z : ◌≡◌ {A = ℕ} (cond (bytes_eq q x) 1 0) 0 = ap (λ b. cond b 1 0) other in
          let w = was q in
          omega (arith, a, m, z, w)

  -- one more entry
  pub uses_more : (f : List ℕ → Uses) (uses uses' : List Uses) (u : Uses)
      → uses ≡ map f (texts (take i names)) → uses' ≡ uses ++ u ∷ [] → u ≡ f (get_or names i d).now
      → uses' ≡ map f (texts (take (i + 1) names))
  uses_more f uses uses' u e more is =
      let x = (get_or names i d).now in
      more ∙ (ap (λ us. us ++ u ∷ []) e ∙ (ap (λ v. map f (texts (take i names)) ++ v ∷ []) is
      ∙ sym (ap (map f) (texts_more names i d l) ∙ map-append f (texts (take i names)) (x ∷ []))))

-- what is counted is there
counted_placed : (name : List ℕ) (names : List (List ℕ)) → 0 < times name names
    → Contains names name
counted_placed name [] h = absurd (omega arith)
counted_placed name (x ∷ names) h = by_case (bytes_eq name x) refl (counted_placed name names)
  where
    by_case : (b : Bool) → bytes_eq name x ≡ b → (0 < times name names → Contains names name)
        → Contains (x ∷ names) name
    by_case true e ih = (0, omega arith, sym ((bytes_eq-Decides name x).0 e))
    by_case false e ih =
        let s = sum_by-cons (λ y. cond (bytes_eq name y) 1 0) x names in
        let z : ◌≡◌ {A = ℕ} (cond (bytes_eq name x) 1 0) 0 = ap (λ b. cond b 1 0) e in
        let (k, l, f) = ih (omega (arith, s, z, h)) in
        (suc k, omega arith, f)

contains_map : (f : List ℕ → Uses) (names : List (List ℕ)) (name : List ℕ) → Contains names name
    → Contains (map f names) (f name)
contains_map f names name (k, l, e) =
    let n = length-map names f in
    (k, omega (arith, n, l), get_or-map f names k name (f name) l ∙ ap f e)

-- the uses of each name of three lists are all uses
pub uses_of_all : (made read written : List (List ℕ))
    → AreUses made read written (map (uses_of made read written) (made ++ read ++ written))
uses_of_all made read written = record {
  each = All-map (λ (u : Uses). (name : List ℕ) × (u ≡ uses_of made read written name))
      (uses_of made read written) (made ++ read ++ written)
      (λ k d l. (get_or (made ++ read ++ written) k d, refl));
  all = λ name h. contains_map (uses_of made read written) (made ++ read ++ written) name
      (is_placed name h);
}
  where
    is_placed : (name : List ℕ) → 0 < times name made + times name read + times name written
        → Contains (made ++ read ++ written) name
    is_placed name h = ⊎_elim
        (λ (m : 0 < times name made). Contains-append_left (made ++ read) written name
        (Contains-append_left made read name (counted_placed name made m)))
        (λ (m : times name made ≤ 0). ⊎_elim
        (λ (r : 0 < times name read). Contains-append_left (made ++ read) written name
        (Contains-append_right made read name (counted_placed name read r)))
        (λ (r : times name read ≤ 0). Contains-append_right (made ++ read) written name
        (counted_placed name written (omega arith)))
        (cases_lt 0 (times name read)))
        (cases_lt 0 (times name made))

pub texts_of_three : (made read written : List (Bor (List ℕ)))
    → texts (made ++ read ++ written) ≡ texts made ++ texts read ++ texts written
texts_of_three made read written =
    let f : Bor (List ℕ) → List ℕ = λ n. n.now in
    map-append f (made ++ read) written ∙ ap (λ xs. xs ++ texts written) (map-append f made read)
