-- The inputs of a stage that are read outside are its standard input, if that is used, and its
-- operands.
use Rattle.std.proofs.Common.{◌≡◌, ℕ, ◌+◌, ◌<◌, ◌≤◌, ◌==◌, ◌&&◌, ◌⊎◌, Bool, true, false, not, cond}
use Rattle.std.proofs.Common.{List, [], length, get_or, refl, sym, ap, ◌∙◌, subst, inl, inr, arith}
use Rattle.std.specs.List.{All, Contains, count_by, enumerate_from}
use Rattle.std.proofs.lemmas.Bool.{false≢true, and_from, and_parts}
use Rattle.std.proofs.lemmas.List.Elements.{All-contains}
use Rattle.std.proofs.lemmas.List.FromFn.{length-enumerate_from, get_or-enumerate_from}
use Rattle.std.proofs.lemmas.List.Sums.{sum_by-le-sum_by}
use Rattle.command_words.specs.Streams.{is_standard_input}
use Rattle.commands.specs.Operands.{input_names}
use Rattle.commands.proofs.CountedWords.{one_at, sum_add}
use Rattle.planner.specs.declared.place.Place.{Place}
use Rattle.planner.specs.declared.place.Place.TheVariants as place
use Rattle.planner.specs.Places.{Stage, named_place, standard_input, input_place, in_places}
use Rattle.planner.specs.Ends.{is_outside}
use Rattle.planner.specs.Openings.{uses_standard, standard_number, operand_input, numbered_names}
use Rattle.planner.specs.Openings.{in_side}
use Rattle.planner.proofs.lemmas.Apart.{ReadsOnce}
use Rattle.planner.proofs.lemmas.Members.{in_map, of_map, number_there}
use Rattle.planner.proofs.lemmas.Parts.{numbered_map, any_from, first_there}
use Rattle.planner.proofs.lemmas.Served.{AreEnds}
use Rattle.planner.proofs.lemmas.SortLaws.{some_counted, position_of_one}

-- a numbered thing is at its number
numbered_at : {A : Type 0} (xs : List A) (q : ℕ × A) → Contains (enumerate_from 0 xs) q
    → (q.0 < length xs) × (get_or xs q.0 q.1 ≡ q.1)
numbered_at {A} xs q (k, l, e) =
    let n = length-enumerate_from 0 xs in
    let k' : k < length xs = omega (arith, n, l) in
    let f = sym (get_or-enumerate_from 0 xs k q k') ∙ e in
    let a : 0 + k ≡ q.0 = ap (λ (p : ℕ × A). p.0) f in
    let b : get_or xs k q.1 ≡ q.1 = ap (λ (p : ℕ × A). p.1) f in
    let m : k ≡ q.0 = omega (arith, a) in
    (omega (arith, m, k'), subst (λ i. get_or xs i q.1 ≡ q.1) m b)

-- those that pass a test too, and those that do not
split_few : {A : Type 0} (f g : A → Bool) (xs : List A)
    → count_by (λ x. f x && g x) xs + count_by (λ x. not (f x) && g x) xs ≤ count_by g xs
split_few f g xs =
    let a = sum_add (λ x. cond (f x && g x) 1 0) (λ x. cond (not (f x) && g x) 1 0) xs in
    let b = sum_by-le-sum_by (λ x. cond (f x && g x) 1 0 + cond (not (f x) && g x) 1 0)
    (λ x. cond (g x) 1 0) xs (λ x. parts (f x) (g x)) in
    omega (arith, a, b)
  where
    parts : (x y : Bool) → ◌≤◌ (cond (x && y) 1 0 + cond (not x && y) 1 0) (cond y 1 0)
    parts true true = omega arith
    parts _ _ = omega arith

module _ (fifos : List (List ℕ)) (s : Stage) (once : ReadsOnce s) where
  abbrev names : List (List ℕ)
  names = input_names s.filter

  -- the inputs, numbered
  abbrev numbered : ℕ × List ℕ → ℕ × Place
  numbered q = (q.0, input_place fifos s q.1)

  places_in : (q : ℕ × List ℕ) → Contains (numbered_names s) q
      → Contains (enumerate_from 0 (in_places fifos s)) (numbered q)
  places_in q c = subst (λ zs. Contains zs (numbered q))
      (sym (numbered_map (input_place fifos s) 0 names)) (in_map numbered (numbered_names s) q c)

  -- the first `-`, if there is one
  first_standard : uses_standard s ≡ true
      → Contains (numbered_names s) (standard_number s, get_or names (standard_number s) [])
      × (is_standard_input (get_or names (standard_number s) []) ≡ true)
  first_standard u =
      let (w, d) = first_there is_standard_input names [] u in
      (number_there names (standard_number s) [] w, d)

  standard_in : uses_standard s ≡ true
      → Contains (enumerate_from 0 (in_places fifos s)) (standard_number s, standard_input fifos s)
  standard_in u =
      let word = get_or names (standard_number s) [] in
      let (c, d) = first_standard u in
      subst (λ b. Contains (enumerate_from 0 (in_places fifos s))
      (standard_number s, cond b (standard_input fifos s) (named_place fifos word false))) d
      (places_in (standard_number s, word) c)

  operand_in : (q : ℕ × List ℕ) → Contains (numbered_names s) q
      → is_outside (operand_input fifos q.1) ≡ true
      → Contains (enumerate_from 0 (in_places fifos s)) (q.0, operand_input fifos q.1)
  operand_in q c w = go (is_standard_input q.1) w (places_in q c)
    where
      go : (b : Bool) → is_outside (cond b place.Nothing (named_place fifos q.1 false)) ≡ true
          → Contains (enumerate_from 0 (in_places fifos s))
          (q.0, cond b (standard_input fifos s) (named_place fifos q.1 false))
          → Contains (enumerate_from 0 (in_places fifos s))
          (q.0, cond b place.Nothing (named_place fifos q.1 false))
      go true w c = absurd (false≢true w)
      go false w c = c

  are : (p : ℕ × Place) → Contains (enumerate_from 0 (in_places fifos s)) p → is_outside p.1 ≡ true
      → ((uses_standard s ≡ true) × ((standard_number s, standard_input fifos s) ≡ p))
      ⊎ ((q : ℕ × List ℕ) × Contains (numbered_names s) q × ((q.0, operand_input fifos q.1) ≡ p))
  are p c w =
      let (q, qc, qe) = of_map numbered (numbered_names s) p
      (subst (λ zs. Contains zs p) (numbered_map (input_place fifos s) 0 names) c) in
      let (l, g) = numbered_at names q qc in
      let P : Bool → Type 0 = λ b. ((uses_standard s ≡ true)
      × ((standard_number s, standard_input fifos s) ≡ p))
      ⊎ ((r : ℕ × List ℕ) × Contains (numbered_names s) r
      × ((r.0, operand_input fifos r.1) ≡ p)) in
      go q qc l g (is_standard_input q.1) refl qe
    where
      go : (q : ℕ × List ℕ) → Contains (numbered_names s) q → q.0 < length names
          → get_or names q.0 q.1 ≡ q.1 → (b : Bool) → is_standard_input q.1 ≡ b
          → (q.0, cond b (standard_input fifos s) (named_place fifos q.1 false)) ≡ p
          → ((uses_standard s ≡ true) × ((standard_number s, standard_input fifos s) ≡ p))
          ⊎ ((r : ℕ × List ℕ) × Contains (numbered_names s) r
          × ((r.0, operand_input fifos r.1) ≡ p))
      go q c l g true d e =
          let h = ap is_standard_input g ∙ d in
          inl (
            any_from is_standard_input names q.0 q.1 l h,
            ap (λ (i : ℕ). (i, standard_input fifos s))
                (position_of_one is_standard_input names once q.0 q.1 l h) ∙ e,
          )
      go q c l g false d e =
          inr (q, c, ap (λ b. (q.0, cond b place.Nothing (named_place fifos q.1 false))) d ∙ e)

  few : (i : ℕ) → cond (uses_standard s && (standard_number s == i)) 1 0 + count_by
      (λ (q : ℕ × List ℕ). is_outside (operand_input fifos q.1) && (q.0 == i))
      (numbered_names s) ≤ 1
  few i =
      let f = λ (q : ℕ × List ℕ). is_standard_input q.1 && (q.0 == i) in
      let g = λ (q : ℕ × List ℕ). not (is_standard_input q.1) && (q.0 == i) in
      let a = split_few (λ (q : ℕ × List ℕ). is_standard_input q.1) (λ q. q.0 == i) (numbered_names s) in
      let b = one_at names 0 i in
      let c = standard (uses_standard s && (standard_number s == i)) refl in
      let d =
      sum_by-le-sum_by
      (λ (q : ℕ × List ℕ). cond (is_outside (operand_input fifos q.1) && (q.0 == i)) 1 0)
      (λ q. cond (g q) 1 0) (numbered_names s)
      (λ q. operand q (is_standard_input q.1) (is_outside (named_place fifos q.1 false))) in
      omega (arith, a, b, c, d)
    where
      standard : (b : Bool) → (uses_standard s && (standard_number s == i)) ≡ b
          → cond b 1 0 ≤ count_by (λ (q : ℕ × List ℕ). is_standard_input q.1 && (q.0 == i)) (numbered_names s)
      standard false e = omega arith
      standard true e =
          let (u, n) = and_parts (uses_standard s) (standard_number s == i) e in
          let q : ℕ × List ℕ = (standard_number s, get_or names (standard_number s) []) in
          let ((k, l, c), d) = first_standard u in
          some_counted (λ (q : ℕ × List ℕ). is_standard_input q.1 && (q.0 == i)) (numbered_names s) k q l
          (ap (λ (r : ℕ × List ℕ). is_standard_input r.1 && (r.0 == i)) c
          ∙ and_from (is_standard_input q.1) (q.0 == i) d n)

      operand : (q : ℕ × List ℕ) (b c : Bool)
          → ◌≤◌
          (cond (is_outside (cond b place.Nothing (named_place fifos q.1 false)) && (q.0 == i)) 1 0)
          (cond (not b && (q.0 == i)) 1 0)
      operand q true c = omega arith
      operand q false c = less (is_outside (named_place fifos q.1 false))
        where
          less : (t : Bool) → ◌≤◌ (cond (t && (q.0 == i)) 1 0) (cond (q.0 == i) 1 0)
          less true = omega arith
          less false = omega arith

  ends : AreEnds (in_side fifos) s (in_places fifos s)
  ends = record { standard_in = standard_in; operand_in = operand_in; are = are; once = few }

-- so it is with each stage of a script
pub ins_are : (fifos : List (List ℕ)) (ss : List Stage) → All ReadsOnce ss → (s : Stage)
    → Contains ss s → AreEnds (in_side fifos) s (in_places fifos s)
ins_are fifos ss once s c = ends fifos s (All-contains ReadsOnce ss s once c)
