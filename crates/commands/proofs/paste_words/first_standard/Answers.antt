use Rattle.std.proofs.Common.{[], ◌∙◌, ap, sym, arith, length}
use Rattle.std.proofs.lemmas.List.{get_or_read}
use Rattle.std.proofs.lemmas.List.Sums.{position_or_len_is}
use Rattle.command_words.specs.Streams.{is_standard_input}
use Rattle.commands.proofs.paste_words.first_standard.Goals as goal

pub returns-then-is_standard_input : goal.returns-then-is_standard_input
returns-then-is_standard_input c =
    let i = c.loop-i.i in
    sym (position_or_len_is is_standard_input c.args.operands.now i [] (omega arith) c.loop-i.invariant
    (λ low.
    ap is_standard_input
    (sym (c.bytes.ensures
    ∙ get_or_read c.args.operands.now i c.index-operands-i.result low c.index-operands-i.is []))
    ∙ sym c.if-is_standard_input.ensures))

pub returns : goal.returns
returns c =
    sym (position_or_len_is is_standard_input c.args.operands.now (length c.args.operands.now) []
    (omega arith) (λ k low. c.loop-i.invariant k (omega arith)) (λ low. absurd (omega arith)))
