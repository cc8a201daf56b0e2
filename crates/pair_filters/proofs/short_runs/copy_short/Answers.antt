use Rattle.std.proofs.Common.{◌+◌, take, arith}
use Rattle.pair_filters.proofs.lemmas.ShortLaws.{copied_kept, copied_some}
use Rattle.pair_filters.proofs.short_runs.copy_short.Goals as goal

pub returns-clause-copied : goal.returns-clause-copied
returns-clause-copied c =
    copied_some c.args.few.now c.args.bytes.now c.copy_sixteen.new.few c.args.to 16 c.args.len
    (omega (arith, c.requires.room)) c.requires.len c.copy_sixteen.ensures.copied

pub returns-clause-kept : goal.returns-clause-kept
returns-clause-kept c =
    copied_kept c.args.few.now (take 16 c.args.bytes.now) c.copy_sixteen.new.few c.args.to
    (c.args.to + 16) (omega (arith, c.requires.room))
    (omega arith) c.copy_sixteen.ensures.copied
