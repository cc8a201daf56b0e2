use Rattle.std.proofs.Common.{◌-◌, arith}
use Rattle.line_filters.proofs.lemmas.TailLaws.{puts_none}
use Rattle.line_filters.proofs.held.Held.put_behind.Goals as goal

pub returns-then-from-skip-clause-ok : goal.returns-then-from-skip-clause-ok
returns-then-from-skip-clause-ok c =
    puts_none c.args.counted c.args.self.bytes.items c.args.skip c.args.self.amount
    (c.args.skip - c.from-then-from-skip.result) c.args.out.now c.requires
    (omega (arith, c.from.ensures, c.if-from-skip.true))
    (omega (arith, c.from-then-from-skip.ensures))
