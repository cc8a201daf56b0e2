use Rattle.std.proofs.Common.{ℕ, ◌+◌, length, ap, sym, ◌∙◌}
use Rattle.machine.proofs.Cuts.{contents_added}
use Rattle.std.specs.List.{flat_map}
use Rattle.commands.specs.Wc.{written_line}
use Rattle.byte_filters.specs.WcSteps.{closing, is_present}
use Rattle.byte_filters.proofs.lemmas.WcMoves.{wc_closed_as, wc_closed_too_many, input_is, is_here}
use Rattle.byte_filters.proofs.lemmas.WcMoves.{last_is}
use Rattle.byte_filters.proofs.wc.WcMachine.close.Goals as goal

pub returns-in_err-sums-clause-too_large : goal.returns-in_err-sums-clause-too_large
returns-in_err-sums-clause-too_large c =
    let m = c.args.self.now in
    let many = c.in_err-sums.ensures in
    λ fault ys none.
    wc_closed_too_many m c.args._input c.requires
    (is_here m c.here.result c.here.ensures (sym c.is_present-here.ensures ∙ many.1)) many.2
    many.3 ys none

pub returns-clause-ok : goal.returns-clause-ok
returns-clause-ok c =
    let m = c.args.self.now in
    rw c.next.ensures
    (wc_closed_as m c.args._input c.is_present-here.result c.is_last-last.result c.in_ok-sums.sums
    c.nothing-self.result c.in_ok-text.text.items c.args.out.now c.push_vec.new.self
    c.nothing-self.ensures c.requires (c.is_present-here.ensures
    ∙ ap is_present (input_is m c.here.result c.here.ensures))
    (last_is c.is_last-last.result (m.inputs.at + 1)
    (length m.inputs.presence) c.is_last-last.ensures) c.in_ok-sums.ensures
    (c.in_ok-text.ensures
    ∙ ap (λ (k : ℕ). flat_map written_line
    (closing m.spec k c.is_present-here.result c.is_last-last.result m.counts
    c.in_ok-sums.sums)) c.at.ensures)
    (contents_added c.args.out.now c.push_vec.new.self c.in_ok-text.text.items
    c.in_ok-push_vec.ensures.ok))
