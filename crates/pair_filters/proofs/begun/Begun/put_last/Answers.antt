use Rattle.std.proofs.Common.{ap, arith}
use Rattle.machine.specs.Lines.{content}
use Rattle.pair_filters.proofs.lemmas.KeyLaws.{no_key}
use Rattle.pair_filters.proofs.begun.Begun.put_last.Goals as goal

pub invariant_of-self : goal.invariant_of-self
invariant_of-self c = record {
  ended = λ h. absurd (omega (arith, h));
  right =
      no_key c.args.self.now.rules (content c.clear_and_shrink.new.bytes.items)
      (ap content c.clear_and_shrink.ensures);
}
