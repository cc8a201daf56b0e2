use Rattle.std.proofs.Common.{◌≡◌, ◌∙◌, ap, codes, is_some, option_map, subst, sym, true}
use Rattle.std.specs.Prelude.{IfSome}
use Rattle.clap.specs.Words.{found_of, rows_of}
use Rattle.command_line.specs.Faults.{names_fault}
use Rattle.command_line.specs.Requests.{GivesFlag}
use Rattle.command_line.proofs.lemmas.Readings.{text_given}
use Rattle.command_line.proofs.request.question.Goals as goal

pub returns-in_default-clause-asks : goal.returns-in_default-clause-asks
returns-in_default-clause-asks c = (
  subst (λ set. GivesFlag (rows_of (found_of c.args.matches.now)) (codes "version") set)
      c.if-is_set.false c.is_set.ensures,
  text_given (found_of c.args.matches.now) (codes "explain") c.get_str.result c.get_str.ensures
      ∙ ap (option_map (λ s. s.now)) c.in_default.is,
)

pub returns-in-Some-explanation_of-clause-asks : goal.returns-in-Some-explanation_of-clause-asks
returns-in-Some-explanation_of-clause-asks c = (
  subst (λ set. GivesFlag (rows_of (found_of c.args.matches.now)) (codes "version") set)
      c.if-is_set.false c.is_set.ensures,
  (
    text_given (found_of c.args.matches.now) (codes "explain") c.get_str.result c.get_str.ensures
        ∙ ap (option_map (λ s. s.now)) c.in-Some.is,
    sym c.explanation_of.ensures.found ∙ ap is_some c.in-Some-explanation_of.is,
  ),
  subst (λ found. IfSome found (λ explanation. names_fault c.in-Some.code.now
      (explanation.code.now, explanation.name.now) ≡ true)) c.in-Some-explanation_of.is
      c.explanation_of.ensures.named,
)

pub returns-in-None-clause-misused : goal.returns-in-None-clause-misused
returns-in-None-clause-misused c = (
  subst (λ set. GivesFlag (rows_of (found_of c.args.matches.now)) (codes "version") set)
      c.if-is_set.false c.is_set.ensures,
  (
    c.in-Some.code.now,
    text_given (found_of c.args.matches.now) (codes "explain") c.get_str.result c.get_str.ensures
        ∙ ap (option_map (λ s. s.now)) c.in-Some.is,
    sym c.explanation_of.ensures.found ∙ ap is_some c.in-None.is,
    sym c.names_all.ensures ∙ c.if-names_all.false,
  ),
)

pub returns-then-names_all-clause-asks : goal.returns-then-names_all-clause-asks
returns-then-names_all-clause-asks c = (
  subst (λ set. GivesFlag (rows_of (found_of c.args.matches.now)) (codes "version") set)
      c.if-is_set.false c.is_set.ensures,
  (
    c.in-Some.code.now,
    text_given (found_of c.args.matches.now) (codes "explain") c.get_str.result c.get_str.ensures
        ∙ ap (option_map (λ s. s.now)) c.in-Some.is,
    sym c.names_all.ensures ∙ c.if-names_all.true,
  ),
)
