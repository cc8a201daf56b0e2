use Rattle.std.proofs.Common.{◌≡◌, ℕ, List, length, ap, ◌∙◌}
use Rattle.std.specs.Prelude.{unwrap_or}
use Rattle.std.specs.List.{position}
use Rattle.command_words.specs.Streams.{is_standard_input}
use Rattle.commands.specs.Operands.{input_operands}
use Rattle.planner.specs.Places.{Stage}
use Rattle.planner.proofs.lemmas.NodeNameLaws.{first_standard}
use Rattle.planner.proofs.openings.standard_number.Goals as goal

pub returns : goal.returns
returns c =
    let operands = c.input_operands-operands.result.now in
    let are : operands ≡ input_operands c.args.stage.now.filter = c.input_operands-operands.ensures
    ∙ ap (λ (s : Stage). input_operands s.filter) c.stage.view_is in
    c.unwrap_or.ensures
    ∙ (ap (λ found. unwrap_or found (length operands)) c.place_of_input.ensures
    ∙ (ap (λ (names : List (List ℕ)). unwrap_or (position is_standard_input names) (length names)) are
    ∙ first_standard (input_operands c.args.stage.now.filter)))
