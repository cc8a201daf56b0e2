use Rattle.std.proofs.Common.{◌≡◌, ◌+◌, ◌-◌, ◌∙◌, ap, arith, drop, ℕ}
use Rattle.command_words.specs.Arguments.{argument}
use Rattle.command_words.proofs.lemmas.ArgumentLaws.{argument_up, argument_here}
use Rattle.command_words.proofs.arguments.argument.Goals as goal

pub returns-in-Some : goal.returns-in-Some
returns-in-Some c =
    let at = c.loop-at.at - 1 in
    let n : at + 1 ≡ c.loop-at.at = omega arith in
    argument_up c.args.letter c.args.given.now at c.in-Some.word.now
    (argument_here c.args.letter c.args.given.now at c.index-given-at.result
    (omega (arith, c.loop-at.invariant.within)) c.index-given-at.is
    (ap (λ (k : ℕ). argument c.args.letter (drop k c.args.given.now)) n ∙ c.loop-at.invariant.none)
    ∙ c.in-Some.ensures)
