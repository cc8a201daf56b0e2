use Rattle.std.proofs.Common.{arith, sym}
use Rattle.tr_words.proofs.lemmas.ElementLaws.{escape_octal}
use Rattle.tr_words.proofs.element.escape.Goals as goal

pub returns-clause-value : goal.returns-clause-value
returns-clause-value c =
    escape_octal c.args.string.now c.octal_digits-digits.result.now c.number.result (omega arith)
    (sym c.if-not-is_octal.ensures) c.octal_digits-digits.ensures.value
    c.octal_digits-digits.ensures.small c.number.ensures
