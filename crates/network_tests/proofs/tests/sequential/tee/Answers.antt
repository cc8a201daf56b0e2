use Rattle.std.proofs.Common.{sym, subst}
use Rattle.graphs.specs.Graph.{IsPlan}
use Rattle.network_tests.proofs.tests.sequential.tee.Goals as goal

pub sequential_answer-requires-clause-plan : goal.sequential_answer-requires-clause-plan
sequential_answer-requires-clause-plan c =
    subst IsPlan (sym c.in_ok-plan.ensures) c.worked_answers_are_right.ensures.tee_plan
