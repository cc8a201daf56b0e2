use Rattle.std.proofs.Common.{◌+◌, refl, take, arith}
use Rattle.std.specs.Prelude.{decimal}
use Rattle.std.proofs.lemmas.Fmt.{decimal_digit}
use Rattle.command_words.specs.Bytes.{space}
use Rattle.pair_filters.proofs.lemmas.ShortLaws.{counted_kept, counted_text}
use Rattle.pair_filters.proofs.short_runs.put_short_counted.Goals as goal

pub returns-clause-made : goal.returns-clause-made
returns-clause-made c =
    let to = c.args.to in
    counted_text c.args.few.now c.put_at.new.few c.put_at-2.new.few c.copy_short.new.few
    (decimal c.args.count) (take c.args.len c.args.line.now) to (to + 1)
    (to + 2) c.copy_short.result c.args.count (48 + c.args.count) space refl (omega arith)
    c.put_at.ensures.written c.put_at-2.ensures.written c.copy_short.ensures.copied
    (decimal_digit c.args.count (omega (arith, c.requires.count)))

pub returns-clause-kept : goal.returns-clause-kept
returns-clause-kept c =
    let to = c.args.to in
    counted_kept c.args.few.now c.put_at.new.few c.put_at-2.new.few c.copy_short.new.few to (to + 2)
    (48 + c.args.count) space (omega (arith, c.requires.room))
    (omega (arith, c.requires.room, c.put_at.ensures.long)) refl
    c.put_at.ensures.written c.put_at-2.ensures.written c.copy_short.ensures.kept
