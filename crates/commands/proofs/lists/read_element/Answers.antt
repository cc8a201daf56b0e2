use Rattle.std.proofs.Common.{sym, ◌∙◌, ap, ℕ, Option, Some, take}
use Rattle.std.proofs.lemmas.List.{take_rest}
use Rattle.command_words.specs.Texts.{◌>>=◌}
use Rattle.commands.specs.Lists.{range_of, range_between}
use Rattle.commands.proofs.lemmas.ListLaws.{element_split, element_plain}
use Rattle.commands.proofs.lists.read_element.Goals as goal
use Rattle.std.proofs.Common.{◌+◌}

pub returns-in_err-number-in-None : goal.returns-in_err-number-in-None
returns-in_err-number-in-None c =
    c.from_residual.ensures ∙ sym (element_plain c.args.part.now c.in-None.ensures
    ∙ ap (λ (o : Option ℕ). o >>= λ n. range_of n (Some n))
    (sym c.in_err-number-in-None.ensures))

pub returns-in-Some : goal.returns-in-Some
returns-in-Some c =
    c.read_between.ensures
    ∙ (ap (range_between (take c.in-Some.at c.args.part.now))
    (take_rest c.args.part.now (c.in-Some.at + 1))
    ∙ sym (element_split c.args.part.now c.in-Some.at c.in-Some.ensures))

pub returns-in_ok-number-in-None : goal.returns-in_ok-number-in-None
returns-in_ok-number-in-None c =
    c.checked.ensures ∙ sym (element_plain c.args.part.now c.in-None.ensures
    ∙ ap (λ (o : Option ℕ). o >>= λ n. range_of n (Some n))
    (sym c.in_ok-number-in-None.ensures))
