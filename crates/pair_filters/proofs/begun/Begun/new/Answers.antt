use Rattle.std.proofs.Common.{ap, arith}
use Rattle.machine.specs.Lines.{content}
use Rattle.pair_filters.proofs.lemmas.KeyLaws.{no_key}
use Rattle.pair_filters.proofs.begun.Begun.new.Goals as goal

pub invariant_of-result : goal.invariant_of-result
invariant_of-result c =
    record {
      ended = λ h. absurd (omega (arith, h));
      right =
          no_key c.args.rules (content c.new.result.items) (ap content c.new.ensures.items);
    }
