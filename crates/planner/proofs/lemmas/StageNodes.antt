-- The node of a stage, from its parts.
use Rattle.std.proofs.Common.{◌≡◌, ℕ, ◌+◌, List, map, length, ap, sym, ◌∙◌, add-one}
use Rattle.std.specs.Prelude.{Option}
use Rattle.std.specs.List.{range_with_len}
use Rattle.std.proofs.lemmas.List.{length-map}
use Rattle.commands.specs.Operands.{input_names}
use Rattle.commands.specs.declared.spec.FilterSpec.{FilterSpec}
use Rattle.planner.specs.declared.plan.Node.TheVariants as node
use Rattle.planner.specs.declared.plan.Pipe.{Pipe}
use Rattle.planner.specs.Places.{Stage, input_place, out_places}
use Rattle.planner.specs.Tables.{numbers_from, pipe_of_input, pipe_of_branch, input_pipes}
use Rattle.planner.specs.Tables.{branch_pipes, stage_node}
use Rattle.planner.proofs.lemmas.GatherLaws.{map_numbers}

module _ (fifos : List (List ℕ)) (ps : List Pipe) (s : Stage) where
  inputs_are : (count : ℕ) (inputs : List ℕ) → count ≡ length (input_names s.filter)
      → inputs ≡ map (pipe_of_input ps s.index) (range_with_len 0 count)
      → inputs ≡ input_pipes fifos ps s
  inputs_are count inputs counts is =
      is
      ∙ (map_numbers (pipe_of_input ps s.index) count
      ∙ ap (λ n. map (pipe_of_input ps s.index) (numbers_from 0 n)) (counts
      ∙ sym (length-map (input_names s.filter) (input_place fifos s))))

  branches_are : (count : ℕ) (branches : List (Option ℕ)) → count ≡ length (out_places fifos s)
      → branches ≡ map (pipe_of_branch ps s.index) (range_with_len 0 count)
      → branches ≡ branch_pipes fifos ps s
  branches_are count branches counts is =
      is ∙ (map_numbers (pipe_of_branch ps s.index) count
      ∙ ap (λ n. map (pipe_of_branch ps s.index) (numbers_from 0 n)) counts)

  pub stage_node_is : (ins outs : ℕ) (spec : FilterSpec) (inputs : List ℕ)
      (branches : List (Option ℕ)) → spec ≡ s.filter → ins ≡ length (input_names s.filter)
      → inputs ≡ map (pipe_of_input ps s.index) (range_with_len 0 ins)
      → outs ≡ length (out_places fifos s)
      → branches ≡ map (pipe_of_branch ps s.index) (range_with_len 0 outs)
      → node.Stage (s.index + 1) spec inputs branches ≡ stage_node fifos ps s
  stage_node_is ins outs spec inputs branches meant counted reads counts writes =
      let number = add-one s.index in
      let i = inputs_are ins inputs counted reads in
      let b = branches_are outs branches counts writes in
      cc
