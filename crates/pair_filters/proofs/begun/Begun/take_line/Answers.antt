use Rattle.std.proofs.Common.{◌∙◌, List, ℕ, ap, subst, sym}
use Rattle.machine.specs.Lines.{content}
use Rattle.pair_filters.specs.LineKeys.{key_by}
use Rattle.pair_filters.specs.UniqSteps.{TakesLine, lines_begun}
use Rattle.pair_filters.proofs.lemmas.UniqLaws.{goes_on_by, takes_more, takes_other, one_too_many}
use Rattle.pair_filters.proofs.begun.Begun.take_line.Goals as goal

pub returns-in_err-self-clause-too_large : goal.returns-in_err-self-clause-too_large
returns-in_err-self-clause-too_large c =
    let m = c.args.self.now in
    λ h. one_too_many c.args.self.now.rules
    (content m.first.items) c.args.line.now.items m.count c.goes_on-is_same.result
    (goes_on_by c.args.self.now.rules (content m.first.items) c.args.line.now.items c.key.result.now
    c.key-2.result.now m.count c.goes_on-is_same.result c.goes_on-is_same.ensures c.key.ensures
    (c.key-2.ensures ∙ ap (key_by m.rules) c.deref.ensures.value))
    c.if-is_same.true (c.in_err-self.ensures.1) (c.in_err-self.ensures.2)

pub returns-then-is_same-clause-ok : goal.returns-then-is_same-clause-ok
returns-then-is_same-clause-ok c =
    let m = c.args.self.now in
    takes_more c.args.self.now.rules (content m.first.items) c.args.line.now.items m.count
    c.in_ok-self.field-0 c.goes_on-is_same.result c.args.made.now
    (goes_on_by c.args.self.now.rules (content m.first.items) c.args.line.now.items c.key.result.now
    c.key-2.result.now m.count c.goes_on-is_same.result c.goes_on-is_same.ensures c.key.ensures
    (c.key-2.ensures ∙ ap (key_by m.rules) c.deref.ensures.value))
    c.if-is_same.true c.in_ok-self.ensures

pub returns-clause-ok : goal.returns-clause-ok
returns-clause-ok c =
    let m = c.args.self.now in
    let made = c.put_last.new.made in
    subst (λ (ls : List (List ℕ)). TakesLine c.args.self.now.rules
    (lines_begun m) ls c.args.line.now.items c.args.made.now made)
    (sym c.in_ok-begin_with.ensures.ok)
    (takes_other c.args.self.now.rules (content m.first.items) c.args.line.now.items m.count
    c.goes_on-is_same.result c.args.made.now made
    (goes_on_by c.args.self.now.rules (content m.first.items) c.args.line.now.items c.key.result.now
    c.key-2.result.now m.count c.goes_on-is_same.result c.goes_on-is_same.ensures c.key.ensures
    (c.key-2.ensures ∙ ap (key_by m.rules) c.deref.ensures.value))
    c.if-is_same.false c.in_ok-put_last.ensures.ok)
