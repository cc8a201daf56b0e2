use Rattle.std.proofs.Common.{◌∙◌, arith}
use Rattle.std.specs.Str.Parse.{ParsesUnsigned, ExplainsUnsignedError, HasUnsignedDigitsIfOk}
use Rattle.clap.specs.Words.{found_of}
use Rattle.clap.proofs.WalkLemmas.{one_text-rows}
use Rattle.command_line.proofs.lemmas.Readings.{number_given}
use Rattle.command_line.proofs.request.number.Goals as goal

pub returns-clause-given : goal.returns-clause-given
returns-clause-given c text is within =
    number_given _ (λ t r. ParsesUnsigned 64 10 t r × ExplainsUnsignedError 10 t r
    × HasUnsignedDigitsIfOk t r) c.args.most text c.get_one.result c.clamp.result
    (c.get_one.ensures.value text (one_text-rows (found_of c.args.matches.now) c.args.name.now
    ∙ is)) (λ t r gives. gives.0)
    (λ value read low high. omega (arith, c.clamp.ensures, rw read at c.unwrap_or.ensures)) within
