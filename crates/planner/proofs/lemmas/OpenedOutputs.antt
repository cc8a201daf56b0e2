-- The branches of a stage that are written outside are its standard output, if that is written, and
-- its operands.
use Rattle.std.proofs.Common.{◌≡◌, ℕ, ◌+◌, ◌≤◌, ◌==◌, ◌&&◌, ◌⊎◌, Bool, true, false, cond, List, []}
use Rattle.std.proofs.Common.{◌∷◌, ◌++◌, map, refl, sym, ap, subst, inl, inr, ⊎_elim, arith}
use Rattle.std.specs.List.{Contains, count_by, enumerate_from}
use Rattle.std.proofs.lemmas.List.Elements.{Contains-append_cases, Contains-append_left}
use Rattle.std.proofs.lemmas.List.Elements.{Contains-append_right}
use Rattle.std.proofs.lemmas.List.Sums.{sum_by-cons, sum_by-le-sum_by}
use Rattle.commands.specs.Operands.{output_operands, writes_standard}
use Rattle.commands.proofs.CountedWords.{one_at}
use Rattle.planner.specs.declared.place.Place.{Place}
use Rattle.planner.specs.Places.{Stage, standard_output, operand_place, out_places}
use Rattle.planner.specs.Ends.{is_outside}
use Rattle.planner.specs.Openings.{numbered_operands, out_side}
use Rattle.planner.proofs.lemmas.Members.{in_map, of_map}
use Rattle.planner.proofs.lemmas.Parts.{only_one, numbered_map}
use Rattle.planner.proofs.lemmas.Served.{AreEnds}

module _ (fifos : List (List ℕ)) (s : Stage) where
  -- the standard output, numbered, if it is written, and the operands
  abbrev standard : Bool → List (ℕ × Place)
  standard b = cond b ((0, standard_output fifos s) ∷ []) []

  abbrev numbered : ℕ × List ℕ → ℕ × Place
  numbered q = (q.0, operand_place fifos s q.1)

  abbrev places : List (ℕ × Place)
  places = enumerate_from 0 (out_places fifos s)

  abbrev parts : List (ℕ × Place)
  parts = standard (writes_standard s.filter) ++ map numbered (numbered_operands s)

  places_numbered : places ≡ parts
  places_numbered = go (writes_standard s.filter)
    where
      go : (b : Bool)
          → enumerate_from 0 (cond b (standard_output fifos s ∷ []) [] ++ map
          (operand_place fifos s) (output_operands s.filter))
          ≡ standard b ++ map numbered (enumerate_from (cond b 1 0) (output_operands s.filter))
      go true = ap (λ zs. (0, standard_output fifos s) ∷ zs)
          (numbered_map (operand_place fifos s) 1 (output_operands s.filter))
      go false = numbered_map (operand_place fifos s) 0 (output_operands s.filter)

  standard_in : writes_standard s.filter ≡ true → Contains places (0, standard_output fifos s)
  standard_in u =
      let p : ℕ × Place = (0, standard_output fifos s) in
      let here : Contains (standard (writes_standard s.filter)) p =
      subst (λ b. Contains (standard b) p) (sym u) (0, omega arith, refl) in
      subst (λ zs. Contains zs p) (sym places_numbered)
      (Contains-append_left (standard (writes_standard s.filter))
      (map numbered (numbered_operands s)) p here)

  operand_in : (q : ℕ × List ℕ) → Contains (numbered_operands s) q → Contains places (numbered q)
  operand_in q c = subst (λ zs. Contains zs (numbered q)) (sym places_numbered)
      (Contains-append_right (standard (writes_standard s.filter))
      (map numbered (numbered_operands s)) (numbered q) (in_map numbered (numbered_operands s) q c))

  are : (p : ℕ × Place) → Contains places p
      → ((writes_standard s.filter ≡ true) × ((0, standard_output fifos s) ≡ p))
      ⊎ ((q : ℕ × List ℕ) × Contains (numbered_operands s) q × (numbered q ≡ p))
  are p c = ⊎_elim (λ l. inl (first (writes_standard s.filter) refl l))
      (λ r. inr (of_map numbered (numbered_operands s) p r))
      (Contains-append_cases (standard (writes_standard s.filter))
      (map numbered (numbered_operands s)) p (subst (λ zs. Contains zs p) places_numbered c))
    where
      first : (b : Bool) → writes_standard s.filter ≡ b → Contains (standard b) p
          → (writes_standard s.filter ≡ true) × ((0, standard_output fifos s) ≡ p)
      first false w (i, l, e) = absurd (omega arith)
      first true w c = (w, only_one (0, standard_output fifos s) p c)

  -- the standard output and the operands together have each number at most once
  few : (i : ℕ) → cond (writes_standard s.filter && (0 == i)) 1 0 + count_by
      (λ (q : ℕ × List ℕ). is_outside (operand_place fifos s q.1) && (q.0 == i))
      (numbered_operands s) ≤ 1
  few i =
      let a =
      sum_by-le-sum_by
      (λ (q : ℕ × List ℕ). cond (is_outside (operand_place fifos s q.1) && (q.0 == i)) 1 0)
      (λ q. cond (q.0 == i) 1 0) (numbered_operands s)
      (λ q. less (is_outside (operand_place fifos s q.1)) (q.0 == i)) in
      let b = numbers (writes_standard s.filter) (output_operands s.filter) in
      omega (arith, a, b)
    where
      less : (t u : Bool) → ◌≤◌ (cond (t && u) 1 0) (cond u 1 0)
      less true u = omega arith
      less false u = omega arith

      numbers : (b : Bool) (words : List (List ℕ))
          → cond (b && (0 == i)) 1 0 + count_by (λ (q : ℕ × List ℕ). q.0 == i)
          (enumerate_from (cond b 1 0) words) ≤ 1
      numbers true words =
          let first : ℕ × List ℕ = (0, []) in
          let a = sum_by-cons (λ (q : ℕ × List ℕ). cond (q.0 == i) 1 0) first
          (enumerate_from 1 words) in
          let b = one_at ([] ∷ words) 0 i in
          omega (arith, a, b)
      numbers false words = let b = one_at words 0 i in omega (arith, b)

  pub outs_are : AreEnds (out_side fifos) s (out_places fifos s)
  outs_are = record {
    standard_in = standard_in;
    operand_in = λ q c w. operand_in q c;
    are =
        λ p c w. are p c;
    once = few;
  }
