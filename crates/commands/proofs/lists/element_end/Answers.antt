use Rattle.std.proofs.Common.{sym, arith, length}
use Rattle.std.proofs.lemmas.List.Sums.{position_or_len_is}
use Rattle.commands.specs.Lists.{is_separator}
use Rattle.commands.proofs.lists.element_end.Goals as goal

pub returns-then-is_separator-clause-end : goal.returns-then-is_separator-clause-end
returns-then-is_separator-clause-end c =
    sym (position_or_len_is is_separator c.args.list.now c.loop-i.i 0
    (omega arith) c.loop-i.invariant (λ low. sym c.if-is_separator.ensures))

pub returns-clause-end : goal.returns-clause-end
returns-clause-end c =
    sym (position_or_len_is is_separator c.args.list.now (length c.args.list.now) 0 (omega arith)
    (λ k low. c.loop-i.invariant k (omega arith)) (λ low. absurd (omega arith)))
