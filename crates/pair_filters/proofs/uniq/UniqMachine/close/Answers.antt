use Rattle.std.proofs.Common.{◌++◌, [], arith, subst, sym, true}
use Rattle.machine.specs.Law.{Closes}
use Rattle.machine.specs.OneInput.{one_input, wants_first}
use Rattle.machine.proofs.OneInputLaws.{one_input_closes}
use Rattle.pair_filters.specs.declared.runs.Rules.{Rules}
use Rattle.pair_filters.specs.UniqShows.{uniq_most, uniq_shows, uniq_still}
use Rattle.pair_filters.specs.UniqSteps.{contents_behind, lines_begun, text_by}
use Rattle.pair_filters.proofs.lemmas.StillLaws.{end_still, made_as, most_closed}
use Rattle.pair_filters.proofs.uniq.UniqMachine.close.Goals as goal

pub returns-clause-ok : goal.returns-clause-ok
returns-clause-ok c =
    let m = c.args.self.now in
    let made = c.end.new.made in
    let partial' = c.end.new.partial.items in
    let begun = lines_begun m.begun in
    let begun' = lines_begun c.end.new.self in
    let first = wants_first m.input.closed c.args._input c.requires in
    subst (λ (r : Rules). Closes c.args._input (uniq_shows m)
    (one_input true (uniq_still m.input.present true r begun' partial')
    (uniq_most m.input.present true r begun' partial')) c.args.out.now c.pour.new.out)
    (sym c.end.ensures.rules)
    (one_input_closes m.input.closed
    (uniq_still m.input.present m.input.closed m.begun.rules begun m.partial.items)
    (uniq_still m.input.present true m.begun.rules begun' partial')
    (uniq_most m.input.present m.input.closed m.begun.rules begun m.partial.items)
    (uniq_most m.input.present true m.begun.rules begun' partial') c.args._input made
    c.args.out.now c.pour.new.out c.requires
    c.in_ok-pour.ensures.ok
    (end_still m.input.present m.input.closed m.begun.rules begun begun' m.partial.items partial'
    made c.if-not-self.false (first.0)
    (made_as c.clear.new.self made
    (text_by m.begun.rules (begun ++ contents_behind m.partial.items [])) c.clear.ensures
    c.in_ok-end.ensures.ok))
    (omega (arith, most_closed m.input.present m.begun.rules begun' partial' [])))
