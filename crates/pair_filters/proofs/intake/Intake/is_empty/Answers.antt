use Rattle.std.proofs.Common.{ap, arith}
use Rattle.pair_filters.specs.Intakes.{Left, held}
use Rattle.pair_filters.proofs.lemmas.IntakeLaws.{nothing_left}
use Rattle.pair_filters.proofs.intake.Intake.is_empty.Goals as goal

pub returns : goal.returns
returns c =
    let s = c.self.inside in
    nothing_left (held s.piece) s.at s.len c.args.self.now.left
    (ap (λ (v : Left). v.left) c.self.view_is) (omega arith)
