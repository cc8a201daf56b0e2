use Rattle.std.proofs.Common.{◌≡◌, ◌++◌, not}
use Rattle.tr_words.specs.Tables.{complement, is_among}
use Rattle.tr_words.proofs.lemmas.ExpansionLaws.{passing}
use Rattle.tr_words.proofs.table.complement.Given as goal

abbrev pub invariant-loop-index : goal.invariant-loop-index
invariant-loop-index l = l.others.items ++ passing (λ x. not (is_among x l.bytes)) l.index
    ≡ complement l.bytes
