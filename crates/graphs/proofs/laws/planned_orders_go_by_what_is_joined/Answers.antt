use Rattle.graphs.proofs.JoinLaws.{planned_goes_by_joins}
use Rattle.graphs.proofs.laws.planned_orders_go_by_what_is_joined.Goals as goal

pub returns : goal.returns
returns c = planned_goes_by_joins
