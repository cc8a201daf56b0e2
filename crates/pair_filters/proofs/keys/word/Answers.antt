use Rattle.std.proofs.Common.{sym, arith, length, ap, not, ◌∙◌}
use Rattle.std.proofs.lemmas.List.Sums.{prefix_len_is}
use Rattle.commands.specs.Keys.{is_no_blank}
use Rattle.pair_filters.proofs.keys.word.Goals as goal

pub returns-then-is_blank-clause-value : goal.returns-then-is_blank-clause-value
returns-then-is_blank-clause-value c =
    sym (prefix_len_is is_no_blank c.args.bytes.now c.loop-i.i 0 (omega arith) c.loop-i.invariant
    (λ low. ap not (sym c.is_blank.ensures ∙ c.if-is_blank.true)))

pub returns-clause-value : goal.returns-clause-value
returns-clause-value c =
    sym (prefix_len_is is_no_blank c.args.bytes.now (length c.args.bytes.now) 0 (omega arith)
    (λ k low. c.loop-i.invariant k (omega arith)) (λ low. absurd (omega arith)))
