use Rattle.std.proofs.Common.{◌≡◌, sym, ap, ◌∙◌, subst, rules}
use Rattle.std.specs.Io.KnownBytes.{prepend_known}
use Rattle.waiting_inputs.specs.inner.Line.{given, IsEnd}
use Rattle.waiting_inputs.specs.declared.reading.Reading.TheVariants as reading
use Rattle.waiting_inputs.proofs.lemmas.Lines.{gives_next}
use Rattle.waiting_inputs.proofs.input.Input.give.Goals as goal

pub returns-in-Gave-clause-next : goal.returns-in-Gave-clause-next
returns-in-Gave-clause-next c =
    let was : c.self.inside.reading ≡ reading.Gave c.in-Gave.chunk = sym c.replace.ensures.value
    ∙ c.in-Gave.is in
    let now : c.args.self.now ≡ prepend_known c.in-Gave.chunk c.self.inside.results =
    sym c.self.view_is ∙ ap (λ r. prepend_known (given r) c.self.inside.results) was in
    rw now (gives_next c.in-Gave.chunk (given c.left_of.result) c.self.inside.results
    c.give-count.result c.give-count.new.into c.args.into.now (search rules) (search rules)
    (search rules) (λ none. c.self.invariant (subst IsEnd (sym was) none)))
