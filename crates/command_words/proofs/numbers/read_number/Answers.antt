use Rattle.std.proofs.Common.{sym, ◌∙◌, ap, get_or}
use Rattle.std.proofs.lemmas.List.{drop_all, get_or_default}
use Rattle.command_words.specs.inner.NumberSteps.{with_digits}
use Rattle.command_words.proofs.lemmas.ArgumentLaws.{some_from}
use Rattle.command_words.proofs.lemmas.ArgumentLaws.{number_is, digits_refused}
use Rattle.command_words.proofs.numbers.read_number.Goals as goal

pub returns-in_err-value : goal.returns-in_err-value
returns-in_err-value c =
    let l = c.loop-byte in
    let w = c.args.word.now in
    c.from_residual.ensures
    ∙ (sym (digits_refused w l.value l.byte-index (get_or w l.byte-index 0) c.loop-byte-test.true
    (get_or_default w l.byte-index 0 (get_or w l.byte-index 0) c.loop-byte-test.true)
    l.invariant.read c.in_err-value.ensures)
    ∙ number_is w (some_from w (sym c.if-is_empty.ensures)))

pub returns : goal.returns
returns c =
    let l = c.loop-byte in
    let w = c.args.word.now in
    sym (sym (number_is w (some_from w (sym c.if-is_empty.ensures)))
    ∙ (l.invariant.read
    ∙ ap (with_digits l.value) (drop_all l.byte-index w c.loop-byte-test.false)))
