use Rattle.std.proofs.Common.{◌≡◌, drop}
use Rattle.std.specs.List.{list_any}
use Rattle.command_line.specs.Faults.{names_fault}
use Rattle.command_line.proofs.faults.explanation_in.Given as goal

abbrev pub invariant-loop-explanation : goal.invariant-loop-explanation
invariant-loop-explanation l =
    list_any (λ explanation. names_fault l.fn.code (explanation.code.now, explanation.name.now))
    (drop l.explanation-index l.explanations)
    ≡ list_any (λ explanation. names_fault l.fn.code (explanation.code.now, explanation.name.now))
    l.explanations
