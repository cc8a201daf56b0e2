use Rattle.std.proofs.Common.{refl, inl, inr}
use Rattle.planner.proofs.lemmas.FaultLaws.{holds, fails, written_twice, read_and_written}
use Rattle.planner.proofs.checks.check_files.Goals as goal

pub returns-then-is_written_twice : goal.returns-then-is_written_twice
returns-then-is_written_twice c fifos stages are =
    inl (
      refl,
      holds c.is_written_twice.result
          (written_twice fifos stages c.args.uses.now are) c.is_written_twice.ensures
          c.if-is_written_twice.true,
    )

pub returns-then-is_read_and_written : goal.returns-then-is_read_and_written
returns-then-is_read_and_written c fifos stages are =
    inr (
      fails c.is_written_twice.result (written_twice fifos stages c.args.uses.now are)
          c.is_written_twice.ensures c.if-is_written_twice.false,
      inl (
        refl,
        holds c.is_read_and_written.result
            (read_and_written fifos stages c.args.uses.now are) c.is_read_and_written.ensures
            c.if-is_read_and_written.true,
      ),
    )

pub returns-else-is_read_and_written : goal.returns-else-is_read_and_written
returns-else-is_read_and_written c fifos stages are = (
  fails c.is_written_twice.result (written_twice fifos stages c.args.uses.now are)
      c.is_written_twice.ensures c.if-is_written_twice.false,
  (
    fails c.is_read_and_written.result (read_and_written fifos stages c.args.uses.now are)
        c.is_read_and_written.ensures c.if-is_read_and_written.false,
    tt,
  ),
)
