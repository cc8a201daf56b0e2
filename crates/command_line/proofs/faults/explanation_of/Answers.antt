use Rattle.std.proofs.Common.{◌≡◌, ◌∙◌, ap, is_some, subst, sym, true}
use Rattle.std.specs.Prelude.{IfSome}
use Rattle.command_line.specs.Faults.{names_fault}
use Rattle.command_line.proofs.lemmas.Faults.{named_first, named_second}
use Rattle.command_line.proofs.faults.explanation_of.Goals as goal

pub returns-in-Some-clause-found : goal.returns-in-Some-clause-found
returns-in-Some-clause-found c = named_first c.args.code.now (sym (ap is_some c.in-Some.is)
    ∙ c.explanation_in.ensures.found)

pub returns-in-None-clause-found : goal.returns-in-None-clause-found
returns-in-None-clause-found c =
    named_second c.args.code.now (is_some c.explanation_in-in-None.result)
    (sym (ap is_some c.in-None.is) ∙ c.explanation_in.ensures.found)
    c.explanation_in-in-None.ensures.found

pub returns-in-Some-clause-named : goal.returns-in-Some-clause-named
returns-in-Some-clause-named c =
    subst
    (λ found. IfSome found (λ explanation. names_fault c.args.code.now
    (explanation.code.now, explanation.name.now) ≡ true)) c.in-Some.is
    c.explanation_in.ensures.named

pub returns-in-None-clause-named : goal.returns-in-None-clause-named
returns-in-None-clause-named c = c.explanation_in-in-None.ensures.named
