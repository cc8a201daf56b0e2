use Rattle.std.proofs.Common.{sym, ◌+◌}
use Rattle.pair_filters.proofs.lemmas.CircleLaws.{last_circle, next_circle, no_delimiters}
use Rattle.pair_filters.proofs.lemmas.CircleLaws.{none_from}
use Rattle.pair_filters.proofs.delimiters.next_number.Goals as goal

pub returns-then-is_empty : goal.returns-then-is_empty
returns-then-is_empty c = λ cells. no_delimiters c.args.delimiters.now 0 (c.args.k + 1) cells
    (none_from c.args.delimiters.now (sym c.if-is_empty.ensures))

pub returns-then-next-delimiters : goal.returns-then-next-delimiters
returns-then-next-delimiters c =
    λ cells. last_circle c.args.delimiters.now c.args.k c.in_circle-next.result cells
    c.in_circle-next.ensures.value c.if-next-delimiters.true

pub returns-else-next-delimiters : goal.returns-else-next-delimiters
returns-else-next-delimiters c =
    λ cells. next_circle c.args.delimiters.now c.args.k c.in_circle-next.result cells
    c.in_circle-next.ensures.value
