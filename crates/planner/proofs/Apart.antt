-- No two outputs of a plan write to one destination.
use Rattle.std.proofs.Common.{◌≡◌, ℕ, suc, ◌+◌, ◌<◌, ◌≤◌, ◌&&◌, Bool, true, false, not, cond, List}
use Rattle.std.proofs.Common.{[], ◌∷◌, ◌++◌, length, map, get_or, Option, Some, None, bytes_eq}
use Rattle.std.proofs.Common.{slice_get, slice_index_or, refl, sym, ap, ◌∙◌, subst, ⊎_elim, arith}
use Rattle.std.specs.List.{count_by, flat_map}
use Rattle.std.proofs.lemmas.Bool.{cases_lt}
use Rattle.std.proofs.lemmas.Option.{same_Some}
use Rattle.std.proofs.lemmas.Slice.Eq.{bytes_eq-Decides}
use Rattle.std.proofs.lemmas.List.Elements.{Contains-get_or}
use Rattle.std.proofs.lemmas.List.Sums.{sum_by-append, sum_by-cons, sum_by-le-sum_by}
use Rattle.run_types.specs.declared.names.OutName.{OutName}
use Rattle.run_types.specs.declared.names.OutName.TheVariants as output
use Rattle.run_types.specs.Destinations.{FileOf, destination_of}
use Rattle.commands.specs.Operands.{output_operands, writes_standard, is_appending}
use Rattle.graphs.specs.NamesByPlace.{place_of}
use Rattle.graphs.specs.Uses.{times}
use Rattle.pipeline_text.specs.declared.script.Cmd.{Cmd}
use Rattle.pipeline_text.specs.declared.script.Pipeline.{Pipeline}
use Rattle.pipeline_text.specs.declared.script.Script.{Script}
use Rattle.pipeline_text.specs.declared.script.Target.{Target}
use Rattle.planner.specs.declared.place.Channel.TheVariants.{Bar}
use Rattle.planner.specs.declared.place.Place.{Place}
use Rattle.planner.specs.declared.place.Place.TheVariants as place
use Rattle.planner.specs.declared.openings.Opened.{Opened}
use Rattle.planner.specs.declared.plan.NodeName.{NodeName}
use Rattle.planner.specs.declared.plan.NodeName.TheVariants.{SinkOf}
use Rattle.planner.specs.declared.plan.OutOpening.{OutOpening}
use Rattle.planner.specs.Faults.{AreAbsent, the_faults, all_written, PutsOutside}
use Rattle.planner.specs.Laws.{OutputsAreApart}
use Rattle.planner.specs.Openings.{number_if, opens, opened_as, opened_at, opened_operand}
use Rattle.planner.specs.Openings.{opened_ends, first_operand, numbered_operands, out_side}
use Rattle.planner.specs.Openings.{out_opening}
use Rattle.planner.specs.Places.{Stage, target_of, place_by, output_by, standard_output, operand_place}
use Rattle.planner.specs.Places.{target_name, written_names}
use Rattle.planner.specs.Stages.{PlacedCommand, AreBody, placed_in, placed_from, placed, stage_with}
use Rattle.planner.specs.Stages.{stages_of, stages}
use Rattle.planner.specs.Tables.{out_name, names_of}
use Rattle.planner.specs.Ends.{in_ends, out_ends}
use Rattle.planner.proofs.lemmas.Apart.{count_enumerate, sum_members}
use Rattle.commands.proofs.CountedWords.{count_flat_map, count_none}
use Rattle.planner.proofs.lemmas.Parts.{of_mapped, same_place}
use Rattle.planner.proofs.lemmas.TurnLaws.{stages_first}

-- whether an output writes to the standard output, and whether it writes to the file of this name
abbrev is_standard : OutName → Bool
is_standard output.Standard = true
is_standard (output.File name append) = false

abbrev is_file : List ℕ → OutName → Bool
is_file n output.Standard = false
is_file n (output.File name append) = bytes_eq n name

abbrev to_standard : Place → Bool
to_standard p = is_standard (out_name p)

abbrev to_file : List ℕ → Place → Bool
to_file n p = is_file n (out_name p)

-- of what is opened for the outputs of a stage, what passes a test is the standard output or an
-- operand
module _ (fifos : List (List ℕ)) (names : List NodeName) (s : Stage) (test : Place → Bool) where
  place_counted : (operand used : Bool) (a : NodeName) (p : Place)
      → count_by (λ (o : Opened). test o.place) (opened_at names s operand used a p) ≤ cond
      (opens used p && test p) 1 0
  place_counted operand used a p = go (opens used p)
    where
      go : (b : Bool) → count_by (λ (o : Opened). test o.place)
          (cond b (opened_as s operand p (number_if used names a) ∷ []) []) ≤ cond (b && test p) 1 0
      go true = omega arith
      go false = omega arith

  outputs_counted : count_by (λ (o : Opened). test o.place)
      (opened_ends (out_side fifos) names s) ≤ cond
      (opens (writes_standard s.filter) (standard_output fifos s) && test (standard_output fifos s))
      1 0 + count_by (λ word. opens true (operand_place fifos s word) && test
      (operand_place fifos s word)) (output_operands s.filter)
  outputs_counted =
      let f = λ (o : Opened). test o.place in
      let g = λ (word : List ℕ). opens true (operand_place fifos s word) && test
      (operand_place fifos s word) in
      let qs = numbered_operands s in
      let a = sum_by-append (λ o. cond (f o) 1 0)
      (opened_at names s false (writes_standard s.filter) (SinkOf s.index 0)
      (standard_output fifos s)) (flat_map (opened_operand (out_side fifos) names s) qs) in
      let b = place_counted false (writes_standard s.filter) (SinkOf s.index 0)
      (standard_output fifos s) in
      let c = count_flat_map f (opened_operand (out_side fifos) names s) qs in
      let d = sum_by-le-sum_by (λ q. count_by f (opened_operand (out_side fifos) names s q))
      (λ (q : ℕ × List ℕ). cond (g q.1) 1 0) qs
      (λ q. place_counted true true (SinkOf s.index q.0) (operand_place fifos s q.1)) in
      let e = count_enumerate g (first_operand s) (output_operands s.filter) in
      omega (arith, a, b, c, d, e)

-- ---- files

-- a stage opens the file of a name no oftener than its writing places have the name
stage_named : (fifos : List (List ℕ)) (names : List NodeName) (n : List ℕ) (s : Stage)
    → count_by (λ (o : Opened). to_file n o.place) (opened_ends (out_side fifos) names s) ≤ times n
    (written_names s)
stage_named fifos names n s =
    let a = outputs_counted fifos names s (to_file n) in
    let b = standard (target_of s) in
    let c =
    sum_by-le-sum_by
    (λ word. cond (opens true (operand_place fifos s word) && to_file n
    (operand_place fifos s word)) 1 0) (λ word. cond (bytes_eq n word) 1 0)
    (output_operands s.filter)
    (λ word. named true (place_of fifos word) word (is_appending s.filter)) in
    let d = sum_by-append (λ m. cond (bytes_eq n m) 1 0) (target_name (target_of s))
    (output_operands s.filter) in
    omega (arith, a, b, c, d)
  where
    named : (used : Bool) (found : Option ℕ) (word : List ℕ) (append : Bool)
        → ◌≤◌
        (cond (opens used (place_by found word append) && to_file n (place_by found word append)) 1
        0) (cond (bytes_eq n word) 1 0)
    named used (Some fifo) word append = omega arith
    named used None word append = omega arith

    unnamed : (used last : Bool)
        → ◌≤◌
        (cond (opens used (cond last place.Standard (place.Through (Bar (suc s.index)))) && to_file
        n (cond last place.Standard (place.Through (Bar (suc s.index))))) 1 0) 0
    unnamed true true = omega arith
    unnamed false true = omega arith
    unnamed used false = omega arith

    standard : (t : Option Target)
        → ◌≤◌
        (cond (opens (writes_standard s.filter) (output_by fifos s t) && to_file n
        (output_by fifos s t)) 1 0) (times n (target_name t))
    standard None = unnamed (writes_standard s.filter) s.is_last
    standard (Some t) =
        let e = named (writes_standard s.filter) (place_of fifos t.name) t.name t.append in
        omega (arith, e)

module _ (fifos : List (List ℕ)) (ss : List Stage) (names : List NodeName)
    (absent : AreAbsent fifos ss the_faults) where
  -- no name is written in two places, a FIFO's or a file's
  written_once : (n : List ℕ) → times n (all_written ss) ≤ 1
  written_once n = ⊎_elim
      (λ (many : 1 < times n (all_written ss)). absurd (⊎_elim
      (λ (fifo : 0 < times n fifos). absent.1.0 (n, fifo, many))
      (λ (file : times n fifos ≤ 0). absent.1.1.1.1.1.1.0 (n, omega (arith, file), many))
      (cases_lt 0 (times n fifos))))
      (λ l. l)
      (cases_lt 1 (times n (all_written ss)))

  -- the file of a name is opened at most once
  file_once : (n : List ℕ) → count_by (λ (o : Opened). to_file n o.place)
      (flat_map (opened_ends (out_side fifos) names) ss) ≤ 1
  file_once n =
      let a = count_flat_map (λ (o : Opened). to_file n o.place)
      (opened_ends (out_side fifos) names) ss in
      let b = sum_by-le-sum_by (λ s. count_by (λ (o : Opened). to_file n o.place)
      (opened_ends (out_side fifos) names s)) (λ s. times n (written_names s)) ss
      (stage_named fifos names n) in
      let c = count_flat_map (bytes_eq n) written_names ss in
      let d = written_once n in
      omega (arith, a, b, c, d)

-- ---- the last command of the foreground pipeline

abbrev ends : PlacedCommand → Bool
ends c = not c.background && c.is_last

abbrev is_end : Stage → Bool
is_end s = not s.background && s.is_last

none_in : (k : ℕ) (first : Bool) (cs : List Cmd) → count_by ends (placed_in k true first cs) ≡ 0
none_in k first [] = refl
none_in k first (c ∷ []) = refl
none_in k first (c ∷ d ∷ cs) =
    let here : PlacedCommand = record {
      index = k;
      background = true;
      is_first = first;
      is_last =
          false;
      command = c;
    } in
    let a = sum_by-cons (λ c. cond (ends c) 1 0) here (placed_in (suc k) true false (d ∷ cs)) in
    let ih = none_in (suc k) false (d ∷ cs) in
    omega (arith, a, ih)

one_in : (k : ℕ) (first : Bool) (cs : List Cmd) → count_by ends (placed_in k false first cs) ≤ 1
one_in k first [] = omega arith
one_in k first (c ∷ []) = omega arith
one_in k first (c ∷ d ∷ cs) =
    let here : PlacedCommand = record {
      index = k;
      background = false;
      is_first = first;
      is_last =
          false;
      command = c;
    } in
    let a = sum_by-cons (λ c. cond (ends c) 1 0) here (placed_in (suc k) false false (d ∷ cs)) in
    let ih = one_in (suc k) false (d ∷ cs) in
    omega (arith, a, ih)

-- it is one at most
one_end : (k : ℕ) (ps : List Pipeline) → AreBody ps → count_by ends (placed_from k ps) ≤ 1
one_end k [] b = absurd b
one_end k (p ∷ []) b =
    let a = sum_by-append (λ c. cond (ends c) 1 0) (placed_in k p.background true p.commands) [] in
    let c = subst (λ g. count_by ends (placed_in k g true p.commands) ≤ 1) (sym b.0)
    (one_in k true p.commands) in
    omega (arith, a, c)
one_end k (p ∷ q ∷ ps) b =
    let a = sum_by-append (λ c. cond (ends c) 1 0) (placed_in k p.background true p.commands)
    (placed_from (k + length p.commands) (q ∷ ps)) in
    let c = subst (λ g. count_by ends (placed_in k g true p.commands) ≡ 0) (sym b.0)
    (none_in k true p.commands) in
    let ih = one_end (k + length p.commands) (q ∷ ps) b.2 in
    omega (arith, a, c, ih)

count_stages : (cs : List PlacedCommand) (ss : List Stage) → stages_of cs ≡ Some ss
    → count_by is_end ss ≡ count_by ends cs
count_stages [] ss e = ap (count_by is_end) (sym (same_Some [] ss e))
count_stages (c ∷ cs) ss e = stages_first c cs ss e (λ filter rest ef er es.
    let a = sum_by-cons (λ s. cond (is_end s) 1 0) (stage_with c filter) rest in
    let b = sum_by-cons (λ c. cond (ends c) 1 0) c cs in
    let ih = count_stages cs rest er in
    subst (λ us. count_by is_end us ≡ count_by ends (c ∷ cs)) es (omega (arith, a, b, ih)))

-- ---- the standard output

module _ (fifos : List (List ℕ)) (names : List NodeName) (s : Stage) (inside : PutsOutside fifos s
    → ⊥) where
  -- only the last command of a pipeline writes to the standard output of the run
  run_last : (t : Option Target) → output_by fifos s t ≡ place.Standard → s.is_last ≡ true
  run_last None e = go s.is_last e
    where
      go : (b : Bool) → cond b place.Standard (place.Through (Bar (suc s.index))) ≡ place.Standard
          → b ≡ true
      go true e = refl
      go false e = absurd (cc e)
  run_last (Some t) e = absurd (go (place_of fifos t.name) e)
    where
      go : (found : Option ℕ) → place_by found t.name t.append ≡ place.Standard → ⊥
      go (Some fifo) e = cc e
      go None e = cc e

  standard_few : (p : Place) → standard_output fifos s ≡ p
      → ◌≤◌ (cond (opens (writes_standard s.filter) p && to_standard p) 1 0) (cond (is_end s) 1 0)
  standard_few place.Standard e = go (writes_standard s.filter) refl s.background refl
    where
      last : s.is_last ≡ true
      last = run_last (target_of s) e

      go : (w : Bool) → writes_standard s.filter ≡ w → (b : Bool) → s.background ≡ b
          → ◌≤◌ (cond (w && true) 1 0) (cond (not b && s.is_last) 1 0)
      go false h b g = omega arith
      go true h true g = absurd (inside (record {
        last = last;
        background = g;
        main =
            ap
            (λ w. slice_index_or (cond w (standard_output fifos s ∷ []) [] ++ map
            (operand_place fifos s) (output_operands s.filter)) 0 place.Standard) h ∙ e;
      }))
      go true h false g =
          let l : ◌≡◌ {A = ℕ} (cond s.is_last 1 0) 1 = ap (λ b. cond b 1 0) last in
          omega (arith, l)
  standard_few (place.File name append) e = omega arith
  standard_few _ e = omega arith

  stage_standard : count_by (λ (o : Opened). to_standard o.place)
      (opened_ends (out_side fifos) names s) ≤ cond (is_end s) 1 0
  stage_standard =
      let a = outputs_counted fifos names s to_standard in
      let b = standard_few (standard_output fifos s) refl in
      let c = count_none (λ word. opens true (operand_place fifos s word) && to_standard
      (operand_place fifos s word)) (output_operands s.filter)
      (λ word. operand (place_of fifos word) word) in
      omega (arith, a, b, c)
    where
      operand : (found : Option ℕ) (word : List ℕ)
          → (opens true (place_by found word (is_appending s.filter)) && to_standard
          (place_by found word (is_appending s.filter))) ≡ false
      operand (Some fifo) word = refl
      operand None word = refl

-- the standard output of the run is opened at most once
standard_once : (s : Script) (ss : List Stage) (names : List NodeName) → AreBody s.pipelines
    → stages s ≡ Some ss → AreAbsent s.fifos ss the_faults
    → count_by (λ (o : Opened). to_standard o.place)
    (flat_map (opened_ends (out_side s.fifos) names) ss) ≤ 1
standard_once s ss names body means absent =
    let a = count_flat_map (λ (o : Opened). to_standard o.place)
    (opened_ends (out_side s.fifos) names) ss in
    let b = sum_members (λ t. count_by (λ (o : Opened). to_standard o.place)
    (opened_ends (out_side s.fifos) names t)) (λ t. cond (is_end t) 1 0) ss (λ k d l.
    stage_standard s.fifos names (get_or ss k d)
    (λ puts. absent.1.1.1.1.1.1.1.1.1.0 (get_or ss k d, Contains-get_or ss k d l, puts))) in
    let c = count_stages (placed s) ss means in
    let d = one_end 0 s.pipelines body in
    omega (arith, a, b, c, d)

-- ---- both

apart : (os : List Opened) → count_by (λ (o : Opened). to_standard o.place) os ≤ 1
    → ((n : List ℕ) → count_by (λ (o : Opened). to_file n o.place) os ≤ 1)
    → (i j : ℕ) (o r : Opened) → slice_get os i ≡ Some o → slice_get os j ≡ Some r
    → destination_of (out_name o.place) ≡ destination_of (out_name r.place) → i ≡ j
apart os standard file i j o r e g same = go (out_name o.place) refl (out_name r.place) refl same
  where
    go : (a : OutName) → out_name o.place ≡ a → (b : OutName) → out_name r.place ≡ b
        → destination_of a ≡ destination_of b → i ≡ j
    go output.Standard p output.Standard q h =
        same_place (λ (y : Opened). to_standard y.place) os standard i j o r e g (ap is_standard p)
        (ap is_standard q)
    go (output.File n x) p (output.File m y) q h =
        let f : FileOf n ≡ FileOf m = h in
        let nm : n ≡ m = cc f in
        same_place (λ (y : Opened). to_file n y.place) os (file n) i j o r e g (ap (is_file n) p
        ∙ (bytes_eq-Decides n n).1 refl) (ap (is_file n) q ∙ (bytes_eq-Decides n m).1 nm)
    go _ p _ q h = absurd (cc h)

-- no two outputs of a script's plan write to one destination
pub outputs_are_apart : OutputsAreApart
outputs_are_apart s plan body is i j o r e g same =
    let names = names_of (in_ends s.fifos is.ss) (out_ends s.fifos is.ss) is.order in
    let os = flat_map (opened_ends (out_side s.fifos) names) is.ss in
    let outputs : plan.outputs ≡ map out_opening os = ap (λ p. p.outputs) is.is in
    let (a, ae, ao) = of_mapped out_opening os i o (ap (λ xs. slice_get xs i) (sym outputs) ∙ e) in
    let (b, be, bo) = of_mapped out_opening os j r (ap (λ xs. slice_get xs j) (sym outputs) ∙ g) in
    let called : (q : Opened) (p : OutOpening) → out_opening q ≡ p
    → destination_of (out_name q.place) ≡ destination_of p.name =
    λ q p h. ap (λ (z : OutOpening). destination_of z.name) h in
    apart os (standard_once s is.ss names body is.means is.legal)
    (file_once s.fifos is.ss names is.legal) i j a b ae be (called a o ao
    ∙ (same ∙ sym (called b r bo)))
