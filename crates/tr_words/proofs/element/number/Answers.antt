use Rattle.std.proofs.Common.{arith}
use Rattle.tr_words.proofs.lemmas.ElementLaws.{number_fits}
use Rattle.tr_words.proofs.element.number.Goals as goal

pub overflow_mul-more : goal.overflow_mul-more
overflow_mul-more c =
    omega (
      arith,
      number_fits c.args.radix c.loop-digit.number c.requires.1
          c.loop-digit.invariant.1,
    )

pub overflow_add-more : goal.overflow_add-more
overflow_add-more c =
    omega (
      arith,
      number_fits c.args.radix c.loop-digit.number c.requires.1
          c.loop-digit.invariant.1,
    )
