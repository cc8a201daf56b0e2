-- Each stage of a plan has the inputs of its filter, at least one, and at most 33 branches.
use Rattle.std.proofs.Common.{◌≡◌, ℕ, zero, suc, ◌+◌, ◌-◌, ◌<◌, ◌≤◌, Bool, true, false, cond, List}
use Rattle.std.proofs.Common.{[], ◌∷◌, length, map, Option, Some, slice_get, refl, sym, ap, ◌∙◌}
use Rattle.std.proofs.Common.{subst, inr, ⊎_elim, arith}
use Rattle.std.specs.List.{All}
use Rattle.std.proofs.lemmas.Bool.{cases_lt}
use Rattle.std.proofs.lemmas.List.{length-append, length-map}
use Rattle.std.proofs.lemmas.List.Elements.{All-contains}
use Rattle.commands.specs.Filters.{filter_means, input_count}
use Rattle.commands.specs.Operands.{input_operands, input_names, output_operands, writes_standard}
use Rattle.commands.specs.Operands.{operand_count}
use Rattle.commands.specs.declared.spec.FilterSpec.{FilterSpec}
use Rattle.graphs.specs.Orders.{IsPlannedOrder}
use Rattle.planner.specs.declared.plan.Node.TheVariants as node
use Rattle.planner.specs.Places.{Stage, input_place, in_places, standard_output, operand_place}
use Rattle.planner.specs.Places.{written_standard, out_places}
use Rattle.planner.specs.Ends.{in_ends, out_ends}
use Rattle.planner.specs.Faults.{AreAbsent, the_faults, operands_max}
use Rattle.planner.specs.Laws.{AreInTurn, IsSized, IsStageAt, HasSizedStages, StagesAreSized}
use Rattle.planner.specs.Planned.{joined, plan_of}
use Rattle.planner.specs.Stages.{placed, is_negated}
use Rattle.planner.specs.Tables.{numbers_from, pipes_of, pipe_of_input, pipe_of_branch, input_pipes}
use Rattle.planner.specs.Tables.{branch_pipes}
use Rattle.planner.proofs.lemmas.MadePlan.{stages_mean}
use Rattle.planner.proofs.lemmas.NodeKinds.{nodes_in, IsSourceNode, IsStageNode, IsSinkNode}
use Rattle.planner.proofs.lemmas.NodeKinds.{node_kinds, stage_holds}
use Rattle.commands.proofs.InputCounts.{inputs_counted, some_input, few_branches}
use Rattle.planner.proofs.Plans.{stages_as_many, body_has_stages}
use Rattle.planner.proofs.lemmas.TurnLaws.{stages_in_turn}

length_numbers : (a n : ℕ) → length (numbers_from a n) ≡ n
length_numbers a zero = refl
length_numbers a (suc n) = ap suc (length_numbers (suc a) n)

-- how many branches a stage has
branches_long : (fifos : List (List ℕ)) (s : Stage)
    → length (out_places fifos s) ≡ cond (writes_standard s.filter) 1 0 + length
    (output_operands s.filter)
branches_long fifos s =
    let a = length-append (written_standard fifos s)
    (map (operand_place fifos s) (output_operands s.filter)) in
    let b = length-map (output_operands s.filter) (operand_place fifos s) in
    let c = go (writes_standard s.filter) in
    omega (arith, a, b, c)
  where
    go : (w : Bool) → length (cond w (standard_output fifos s ∷ []) []) ≡ cond w 1 0
    go true = refl
    go false = refl

module _ (fifos : List (List ℕ)) (ss : List Stage) (turn : AreInTurn 0 ss)
    (absent : AreAbsent fifos ss the_faults)
    (means : All (λ (s : Stage). filter_means s.command.words ≡ Some s.filter) ss) (order : List ℕ)
    (planned : IsPlannedOrder (length ss) (joined fifos ss) order) (negated : Bool) where
  of_stage : (k number : ℕ) (filter : FilterSpec) (inputs : List ℕ) (branches : List (Option ℕ))
      → IsStageNode fifos ss order k (node.Stage number filter inputs branches)
      → IsSized filter inputs branches
  of_stage k number filter inputs branches h =
      let ps = pipes_of (in_ends fifos ss) (out_ends fifos ss) order in
      let s = h.s in
      let is : node.Stage (suc s.index) s.filter (input_pipes fifos ps s) (branch_pipes fifos ps s)
      ≡ node.Stage number filter inputs branches = h.is in
      let f : s.filter ≡ filter = cc is in
      let i : input_pipes fifos ps s ≡ inputs = cc is in
      let b : branch_pipes fifos ps s ≡ branches = cc is in
      let il : length inputs ≡ length (input_names s.filter) =
      ap (λ (xs : List ℕ). length xs) (sym i)
      ∙ (length-map (numbers_from 0 (length (in_places fifos s))) (pipe_of_input ps s.index)
      ∙ (length_numbers 0 (length (in_places fifos s))
      ∙ length-map (input_names s.filter) (input_place fifos s))) in
      let bl : length branches ≡ length (out_places fifos s) =
      ap (λ (xs : List (Option ℕ)). length xs) (sym b)
      ∙ (length-map (numbers_from 0 (length (out_places fifos s))) (pipe_of_branch ps s.index)
      ∙ length_numbers 0 (length (out_places fifos s))) in
      let few : operand_count s.filter ≤ 32 =
      ⊎_elim
      (λ (l : operands_max < operand_count s.filter).
      absurd (absent.1.1.1.1.1.1.1.1.1.1.0 (inr (inr (s, h.s_in, l))))) (λ l. l)
      (cases_lt operands_max (operand_count s.filter)) in
      let bf = few_branches s.filter few in
      let bm = branches_long fifos s in
      let some = some_input (input_operands s.filter) in
      let m = inputs_counted s.command.words s.filter
      (All-contains (λ (t : Stage). filter_means t.command.words
      ≡ Some t.filter) ss s means h.s_in) in
      record {
        some = omega (arith, il, some);
        counted = il ∙ (m ∙ ap input_count f);
        few = omega (arith, bl, bf, bm);
      }

  stage_sized : (k number : ℕ) (filter : FilterSpec) (inputs : List ℕ) (branches : List (Option ℕ))
      → slice_get (nodes_in fifos ss order) k ≡ Some (node.Stage number filter inputs branches)
      → IsSized filter inputs branches
  stage_sized k number filter inputs branches e = ⊎_elim
      (λ (h : IsSourceNode fifos ss order k (node.Stage number filter inputs branches)).
      absurd (cc h.is))
      (λ rest. ⊎_elim (of_stage k number filter inputs branches)
      (λ (h : IsSinkNode fifos ss order k (node.Stage number filter inputs branches)).
      absurd (cc h.is)) rest)
      (node_kinds fifos ss turn order planned k (node.Stage number filter inputs branches) e)

  result_holds : 0 < length ss → IsStageAt (plan_of fifos ss negated order)
      (plan_of fifos ss negated order).result.0
  result_holds some =
      let ps = pipes_of (in_ends fifos ss) (out_ends fifos ss) order in
      let (s, e) = stage_holds fifos ss turn order planned (length ss - 1) (omega arith) in
      record {
        number = suc s.index;
        filter = s.filter;
        inputs = input_pipes fifos ps s;
        branches =
            branch_pipes fifos ps s;
        is = e;
      }

  plan_is_sized : 0 < length ss → HasSizedStages (plan_of fifos ss negated order)
  plan_is_sized some = record { sized = stage_sized; result = result_holds some }

-- the stages of every plan are of that size
pub stages_are_sized : StagesAreSized
stages_are_sized s plan body is =
    let l = stages_as_many (placed s) is.ss is.means in
    let b = body_has_stages s.pipelines body in
    subst HasSizedStages (sym is.is)
    (plan_is_sized s.fifos is.ss (stages_in_turn s is.ss is.means) is.legal
    (stages_mean (placed s) is.ss is.means) is.order is.planned (is_negated s.pipelines)
    (omega (arith, l, b)))
