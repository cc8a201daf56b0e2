use Rattle.std.proofs.Common.{◌≤◌, arith}
use Rattle.std.proofs.lemmas.List.Elements.{All-from_get_or}
use Rattle.graphs.proofs.stripping.lowest.Goals as goal

pub returns-clause-each : goal.returns-clause-each
returns-clause-each c =
    All-from_get_or (λ t. c.loop-number.low ≤ t) c.args.numbers.now 0
    (λ k l. c.loop-number.invariant.1 k (omega arith))
