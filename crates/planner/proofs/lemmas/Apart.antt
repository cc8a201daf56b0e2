-- Each input of a script meets at most one branch, and each branch at most one input.
use Rattle.std.proofs.Common.{◌≡◌, ℕ, suc, ◌+◌, ◌-◌, ◌<◌, ◌≤◌, ◌==◌, Bool, cond, List, [], ◌∷◌}
use Rattle.std.proofs.Common.{length, get_or, Some, refl, sym, ◌∙◌, subst, ⊎_elim, arith}
use Rattle.std.specs.List.{All, count_by, sum_by, enumerate_from, flat_map}
use Rattle.std.proofs.lemmas.Bool.{cases_lt, cases_eq, eqb-true, eq-eqb, ne_eqb}
use Rattle.std.proofs.lemmas.Option.{same_Some}
use Rattle.std.proofs.lemmas.List.Elements.{All-nil, All-cons, All-head, All-tail, Contains-get_or}
use Rattle.std.proofs.lemmas.List.Sums.{sum_by-cons, sum_by-le-sum_by}
use Rattle.command_words.specs.Streams.{is_standard_input}
use Rattle.pipeline_text.specs.declared.script.Script.{Script}
use Rattle.commands.specs.Operands.{input_names}
use Rattle.graphs.specs.NamesByPlace.{place_of}
use Rattle.graphs.specs.Orders.{IsPlannedOrder}
use Rattle.graphs.specs.Uses.{times}
use Rattle.planner.specs.declared.place.Channel.{Channel}
use Rattle.planner.specs.declared.place.Channel.TheVariants.{Fifo, Bar}
use Rattle.planner.specs.declared.place.Place.{Place}
use Rattle.planner.specs.declared.place.Place.TheVariants as place
use Rattle.planner.specs.declared.place.End.{End}
use Rattle.planner.specs.Places.{Stage, in_places, out_places, read_names, written_names}
use Rattle.planner.specs.Ends.{end_at, ends_at, all_ends, in_ends, out_ends, meets_at, meets}
use Rattle.planner.specs.Stages.{PlacedCommand, placed, stage_with, stages_of, stages}
use Rattle.planner.specs.Faults.{AreAbsent, the_faults}
use Rattle.planner.specs.Planned.{joined}
use Rattle.planner.specs.Laws.{AreInTurn}
use Rattle.planner.proofs.lemmas.TurnLaws.{stages_first}
use Rattle.commands.proofs.Dashes.{dash_once}
use Rattle.commands.proofs.CountedWords.{count_map, sum_agree, count_agree, count_none}
use Rattle.commands.proofs.CountedWords.{count_flat_map}
use Rattle.planner.proofs.lemmas.PipeLaws.{AreApart, is_end, own_end}
use Rattle.planner.proofs.lemmas.SortLaws.{some_counted}
use Rattle.planner.proofs.lemmas.EachOnce.{one_stage, ends_at_most}
use Rattle.planner.proofs.lemmas.Channels.{implied, is_at, has, named, barred, branches_fit}
use Rattle.planner.proofs.lemmas.Channels.{inputs_fit, few_at}
use Rattle.planner.proofs.lemmas.StageLaws.{occurs_once}
use Rattle.planner.proofs.lemmas.RiseLaws.{end_within}

-- a stage has its standard input at most once among its inputs
abbrev pub ReadsOnce : Stage → Type 0
ReadsOnce s = count_by is_standard_input (input_names s.filter) ≤ 1

dashes_of : (cs : List PlacedCommand) (ss : List Stage) → stages_of cs ≡ Some ss → All ReadsOnce ss
dashes_of [] ss e = subst (All ReadsOnce) (same_Some [] ss e) (All-nil ReadsOnce)
dashes_of (c ∷ cs) ss e = stages_first c cs ss e
    (λ filter rest ef er es. subst (All ReadsOnce) es
    (All-cons ReadsOnce (stage_with c filter) rest (dash_once c.command.words filter ef)
    (dashes_of cs rest er)))

-- so has each stage of a script
pub stages_read_once : (s : Script) (ss : List Stage) → stages s ≡ Some ss → All ReadsOnce ss
stages_read_once s ss e = dashes_of (placed s) ss e

-- ---- counts over all stages

-- a count over numbered things
pub count_enumerate : {X : Type 0} (g : X → Bool) (a : ℕ) (xs : List X)
    → count_by (λ (p : ℕ × X). g p.1) (enumerate_from a xs) ≡ count_by g xs
count_enumerate g a [] = refl
count_enumerate {X} g a (x ∷ xs) =
    let b = sum_by-cons (λ (p : ℕ × X). cond (g p.1) 1 0) (a, x) (enumerate_from (a + 1) xs) in
    let c = sum_by-cons (λ y. cond (g y) 1 0) x xs in
    let ih = count_enumerate g (a + 1) xs in
    omega (arith, b, c, ih)

count_ends : (g : Place → Bool) (places : Stage → List Place) (ss : List Stage)
    → count_by (λ (x : End). g x.place) (all_ends places ss)
    ≡ sum_by (λ s. count_by g (places s)) ss
count_ends g places ss =
    count_flat_map (λ (x : End). g x.place) (ends_at places) ss
    ∙ sum_agree (λ s. count_by (λ (x : End). g x.place) (ends_at places s))
    (λ s. count_by g (places s)) ss (λ s.
    count_map (λ (x : End). g x.place) (end_at s.index) (enumerate_from 0 (places s))
    ∙ count_enumerate g 0 (places s))

-- a sum of terms that are no more than others, at the members of a list
pub sum_members : {A : Type 0} (f g : A → ℕ) (xs : List A) → All (λ x. f x ≤ g x) xs
    → sum_by f xs ≤ sum_by g xs
sum_members f g [] h = omega arith
sum_members f g (x ∷ xs) h =
    let a = sum_by-cons f x xs in
    let b = sum_by-cons g x xs in
    let c = All-head (λ x. f x ≤ g x) x xs h in
    let ih = sum_members f g xs (All-tail (λ x. f x ≤ g x) x xs h) in
    omega (arith, a, b, c, ih)

-- which of two are compared first is nothing to it
same_back : (k l : ℕ) → (k == l) ≡ (l == k)
same_back k l = ⊎_elim (λ (e : k ≡ l). eq-eqb k l e ∙ sym (eq-eqb l k (sym e)))
    (λ (n : k ≡ l → ⊥). ne_eqb k l n ∙ sym (ne_eqb l k (λ e. n (sym e)))) (cases_eq k l)

pub meets_back : (p q : Place) → meets_at p q ≡ meets_at q p
meets_back (place.Through (Fifo k)) (place.Through (Fifo l)) = same_back k l
meets_back (place.Through (Bar k)) (place.Through (Bar l)) = same_back k l
meets_back place.Nothing place.Nothing = refl
meets_back place.Standard place.Nothing = refl
meets_back (place.File name append) place.Nothing = refl
meets_back _ _ = refl

-- At most one end has a channel, if the names of a FIFO are few, and the stages of a `|` are.
module _ (fifos : List (List ℕ)) (ss : List Stage) (places : Stage → List Place) (names : Stage
    → List (List ℕ)) (bar : Stage → ℕ) (fit : (c : Channel)
    → All (λ s. count_by (has c) (places s) ≤ named fifos c (names s) + barred c (bar s)) ss)
    (bars : (k : ℕ) → count_by (λ s. bar s == k) ss ≤ 1) (few : (name : List ℕ)
    → 0 < times name fifos → (1 < times name (flat_map names ss) → ⊥)) where
  one_met : (p : Place) → count_by (λ (e : End). meets_at e.place p) (all_ends places ss) ≤ 1
  one_met (place.Through (Fifo k)) =
      let a = count_ends (has (Fifo k)) places ss in
      let b = sum_members (λ s. count_by (has (Fifo k)) (places s))
      (λ s. named fifos (Fifo k) (names s)) ss (λ i d l. let h = fit (Fifo k) i d l in
      omega (arith, h)) in
      let c = count_flat_map (λ name. is_at k (place_of fifos name)) names ss in
      let d = few_at fifos (flat_map names ss) k
      (λ name f. ⊎_elim (λ (l : 1 < times name (flat_map names ss)). absurd (few name f l))
      (λ l. l) (cases_lt 1 (times name (flat_map names ss)))) in
      omega (arith, a, b, c, d)
  one_met (place.Through (Bar k)) =
      let a = count_ends (has (Bar k)) places ss in
      let b = sum_members (λ s. count_by (has (Bar k)) (places s)) (λ s. cond (bar s == k) 1 0) ss
      (λ i d l. let h = fit (Bar k) i d l in omega (arith, h)) in
      let c = bars k in
      omega (arith, a, b, c)
  one_met p =
      let z = count_none (λ (e : End). meets_at e.place p) (all_ends places ss)
      (λ e. meets_back e.place p) in
      omega (arith, z)

module _ (fifos : List (List ℕ)) (ss : List Stage) (turn : AreInTurn 0 ss)
    (absent : AreAbsent fifos ss the_faults) (once : All ReadsOnce ss) (order : List ℕ)
    (planned : IsPlannedOrder (length ss) (joined fifos ss) order) where
  one_written : (p : Place) → count_by (λ (o : End). meets_at o.place p) (out_ends fifos ss) ≤ 1
  one_written = one_met fifos ss (out_places fifos) written_names (λ s. suc s.index)
      (λ c i d l. branches_fit fifos c (get_or ss i d))
      (λ k.
      let a = sum_by-le-sum_by (λ (s : Stage). cond (suc s.index == k) 1 0)
      (λ (s : Stage). cond (s.index == k - 1) 1 0) ss
      (λ s. implied (suc s.index == k) (s.index == k - 1)
      (λ e. let f = eqb-true (suc s.index) k e in eq-eqb s.index (k - 1) (omega (arith, f)))) in
      let b = one_stage ss 0 (k - 1) turn in
      omega (arith, a, b))
      (λ name f l. absent.1.0 (name, f, l))

  one_read : (p : Place) → count_by (λ (x : End). meets_at x.place p) (in_ends fifos ss) ≤ 1
  one_read = one_met fifos ss (in_places fifos) read_names (λ s. s.index)
      (λ c i d l. inputs_fit fifos c (get_or ss i d) (once i d l))
      (λ k. one_stage ss 0 k turn)
      (λ name f l. absent.1.1.0 (name, f, l))

  end_once : (places : Stage → List Place) (a : ℕ) (d : End) → a < length (all_ends places ss)
      → count_by (is_end (get_or (all_ends places ss) a d).stage
      (get_or (all_ends places ss) a d).number) (all_ends places ss) ≡ 1
  end_once places a d l =
      let x = get_or (all_ends places ss) a d in
      let m = ends_at_most places ss turn x.stage x.number in
      let n = some_counted (is_end x.stage x.number) (all_ends places ss) a d l (own_end x) in
      omega (arith, m, n)

  stage_once : (a : ℕ) (d : End) → a < length (out_ends fifos ss)
      → count_by (λ t. (get_or (out_ends fifos ss) a d).stage == t) order ≡ 1
  stage_once a d l =
      let o = get_or (out_ends fifos ss) a d in
      let s : ℕ = o.stage in
      let (i, il, e) =
      planned.all s (end_within fifos ss order turn planned (out_places fifos) o
      (Contains-get_or (out_ends fifos ss) a d l)) in
      let m = occurs_once (length ss) (joined fifos ss) order planned s in
      let n = count_agree (λ t. s == t) (λ t. t == s) order (same_back s) in
      let k = some_counted (λ t. s == t) order i s il (eq-eqb s (get_or order i s) (sym e)) in
      omega (arith, m, n, k)

  -- what the wiring asks of the inputs, the branches and the order
  pub plan_apart : AreApart (in_ends fifos ss) (out_ends fifos ss) order
  plan_apart = record {
    inputs = end_once (in_places fifos);
    branches = end_once (out_places fifos);
    stages = stage_once;
    fed = λ x. one_written x.place;
    read = λ o. let a = count_agree (meets o) (λ (x : End). meets_at x.place o.place)
        (in_ends fifos ss) (λ x. meets_back o.place x.place) in let b = one_read o.place in
        omega (arith, a, b);
  }
