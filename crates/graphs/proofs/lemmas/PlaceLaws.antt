-- The first place of a name, if one more name follows the others.
use Rattle.std.proofs.Common.{◌≡◌, ℕ, ◌+◌, ◌<◌, ◌≤◌, Bool, true, false, cond, List, [], ◌∷◌, ◌++◌}
use Rattle.std.proofs.Common.{length, get_or, take, not, Option, Some, None, unwrap_or, refl, sym}
use Rattle.std.proofs.Common.{ap, ◌∙◌, ⊎_elim, arith}
use Rattle.std.specs.List.{position, position_or_len}
use Rattle.std.specs.Str.{bytes_eq}
use Rattle.std.proofs.lemmas.Bool.{cases_lt, lt-ltb, le-ltb, eq-eqb, ne_eqb}
use Rattle.std.proofs.lemmas.List.{length_push, length-map, length-take-le, map-append, take_more}
use Rattle.std.proofs.lemmas.List.Folds.{position_or_len_push}
use Rattle.std.proofs.lemmas.List.Sums.{prefix_len-le-length}
use Rattle.std.proofs.lemmas.Slice.Eq.{bytes_eq-Decides}
use denote.Ref.{Bor}
use Rattle.graphs.specs.NamesByPlace.{texts, place_of}

module _ (p : List ℕ → Bool) (xs : List (List ℕ)) where
  -- the place of the first that passes, if there is one
  position_within : (k : ℕ) → position_or_len p xs ≡ k → k < length xs → position p xs ≡ Some k
  position_within k e l = ap (λ b. cond b (Some (position_or_len p xs)) None)
      (lt-ltb (position_or_len p xs) (length xs) (omega arith)) ∙ ap Some e

  -- and if there is none
  position_beyond : length xs ≤ position_or_len p xs → position p xs ≡ None
  position_beyond l = ap (λ b. cond b (Some (position_or_len p xs)) None)
      (le-ltb (position_or_len p xs) (length xs) l)

-- one that passes stays the first
position_kept : (p : List ℕ → Bool) (xs : List (List ℕ)) (y : List ℕ)
    → position_or_len p xs < length xs → position p (xs ++ y ∷ []) ≡ position p xs
position_kept p xs y l =
    let k = position_or_len p xs in
    let e = position_or_len_push p xs y
    ∙ ap (λ b. cond b (length xs + cond (p y) 0 1) k)
    (ne_eqb k (length xs) (λ h. omega arith)) in
    let n = length_push xs y in
    position_within p (xs ++ y ∷ []) k e (omega arith) ∙ sym (position_within p xs k refl l)

-- if none passes, the one after them may be the first
position_new : (p : List ℕ → Bool) (xs : List (List ℕ)) (y : List ℕ)
    → length xs ≤ position_or_len p xs → position p (xs ++ y ∷ [])
    ≡ cond (p y) (Some (length xs)) None
position_new p xs y l = by_case (p y) refl
  where
    n : length (xs ++ y ∷ []) ≡ length xs + 1
    n = length_push xs y

    here : position_or_len p (xs ++ y ∷ []) ≡ length xs + cond (p y) 0 1
    here =
        let k = position_or_len p xs in
        let m = prefix_len-le-length (λ x. not (p x)) xs in
        position_or_len_push p xs y
        ∙ ap (λ b. cond b (length xs + cond (p y) 0 1) k) (eq-eqb k (length xs) (omega arith))

    by_case : (b : Bool) → p y ≡ b → position p (xs ++ y ∷ []) ≡ cond b (Some (length xs)) None
    by_case true e =
        let z : ◌≡◌ {A = ℕ} (cond (p y) 0 1) 0 = ap (λ b. cond b 0 1) e in
        position_within p (xs ++ y ∷ []) (length xs) (omega (arith, here, z)) (omega (arith, n))
    by_case false e =
        let z : ◌≡◌ {A = ℕ} (cond (p y) 0 1) 1 = ap (λ b. cond b 0 1) e in
        position_beyond p (xs ++ y ∷ []) (omega (arith, here, z, n))

cond_same : (b : Bool) (o : Option ℕ) → cond b o o ≡ o
cond_same true o = refl
cond_same false o = refl

-- a name that has a place keeps it, and the last one gets the last place if it has none
place_push : (names : List (List ℕ)) (name q : List ℕ)
    → place_of (names ++ name ∷ []) q ≡ cond (bytes_eq name q)
    (Some (unwrap_or (place_of names q) (length names))) (place_of names q)
place_push names name q =
    let p : List ℕ → Bool = λ n. bytes_eq n q in
    let k = position_or_len p names in
    let f : Option ℕ → Option ℕ = λ o. cond (bytes_eq name q)
    (Some (unwrap_or o (length names))) o in
    ⊎_elim
    (λ (l : k < length names).
    let some = position_within p names k refl l in
    position_kept p names name l ∙ (some ∙ sym (ap f some ∙ cond_same (bytes_eq name q) (Some k))))
    (λ (l : length names ≤ k). position_new p names name l ∙ sym (ap f (position_beyond p names l)))
    (cases_lt k (length names))

-- one more name of a slice
pub texts_more : (names : List (Bor (List ℕ))) (i : ℕ) (d : Bor (List ℕ)) → i < length names
    → texts (take (i + 1) names) ≡ texts (take i names) ++ (get_or names i d).now ∷ []
texts_more names i d l = ap texts (take_more names i d l)
    ∙ map-append (λ n. n.now) (take i names) (get_or names i d ∷ [])

texts_length : (names : List (Bor (List ℕ))) (i : ℕ) → i < length names
    → length (texts (take i names)) ≡ i
texts_length names i l = length-map (take i names) (λ n. n.now)
    ∙ length-take-le i names (omega arith)

-- the same in a slice
place_more : (names : List (Bor (List ℕ))) (i : ℕ) (d : Bor (List ℕ)) → i < length names
    → (q : List ℕ) → place_of (texts (take (i + 1) names)) q
    ≡ cond (bytes_eq (get_or names i d).now q)
    (Some (unwrap_or (place_of (texts (take i names)) q) i)) (place_of (texts (take i names)) q)
place_more names i d l q =
    let x = (get_or names i d).now in
    let o = place_of (texts (take i names)) q in
    ap (λ ns. place_of ns q) (texts_more names i d l) ∙ (place_push (texts (take i names)) x q
    ∙ ap (λ n. cond (bytes_eq x q) (Some (unwrap_or o n)) o) (texts_length names i l))

-- a map that gives this name the place, unless it has one, knows the place of each name
pub places_next : (names : List (Bor (List ℕ))) (i : ℕ) (d : Bor (List ℕ)) → i < length names
    → (old new : List ℕ → Option ℕ) → ((q : List ℕ) → old q ≡ place_of (texts (take i names)) q)
    → new (get_or names i d).now ≡ Some (unwrap_or (old (get_or names i d).now) i)
    → ((q : List ℕ) → bytes_eq (get_or names i d).now q ≡ false → new q ≡ old q) → (q : List ℕ)
    → new q ≡ place_of (texts (take (i + 1) names)) q
places_next names i d l old new was own others q = by_case (bytes_eq x q) refl
    ∙ sym (place_more names i d l q)
  where
    x : List ℕ
    x = (get_or names i d).now

    by_case : (b : Bool) → bytes_eq x q ≡ b
        → new q ≡ cond (bytes_eq x q) (Some (unwrap_or (place_of (texts (take i names)) q) i))
        (place_of (texts (take i names)) q)
    by_case true e =
        let o = place_of (texts (take i names)) q in
        let s : x ≡ q = (bytes_eq-Decides x q).0 e in
        ap new (sym s)
        ∙ (own ∙ (ap (λ p. Some (unwrap_or p i)) (ap old s ∙ was q)
        ∙ sym (ap (λ b. cond b (Some (unwrap_or o i)) o) e)))
    by_case false e =
        let o = place_of (texts (take i names)) q in
        others q e ∙ (was q ∙ sym (ap (λ b. cond b (Some (unwrap_or o i)) o) e))
