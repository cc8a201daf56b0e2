use Rattle.std.proofs.Common.{sym, arith, length}
use Rattle.std.proofs.lemmas.List.Sums.{prefix_len_is}
use Rattle.command_words.specs.Bytes.{is_blank_byte}
use Rattle.pair_filters.proofs.keys.blanks.Goals as goal

pub returns-then-not-is_blank-clause-value : goal.returns-then-not-is_blank-clause-value
returns-then-not-is_blank-clause-value c =
    sym (prefix_len_is is_blank_byte c.args.bytes.now c.loop-i.i 0 (omega arith) c.loop-i.invariant
    (λ low. cc))

pub returns-clause-value : goal.returns-clause-value
returns-clause-value c =
    sym (prefix_len_is is_blank_byte c.args.bytes.now (length c.args.bytes.now) 0 (omega arith)
    (λ k low. c.loop-i.invariant k (omega arith)) (λ low. absurd (omega arith)))
