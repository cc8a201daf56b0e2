use Rattle.std.proofs.Common.{sym, ◌∙◌}
use Rattle.byte_filters.proofs.lemmas.CountLaws.{ends_last}
use Rattle.byte_filters.proofs.counts.ends_in_word.Goals as goal

pub returns : goal.returns
returns c = c.is_word.ensures ∙ ends_last c.args.before c.args.bytes.now (sym c.if-is_empty.ensures)
