use Rattle.std.proofs.Common.{refl, inl, inr}
use Rattle.planner.proofs.lemmas.FaultLaws.{holds, fails, made_twice, many_writers, many_readers}
use Rattle.planner.proofs.lemmas.FaultLaws.{no_reader, no_writer}
use Rattle.planner.proofs.checks.check_fifos.Goals as goal

pub returns-then-is_made_twice : goal.returns-then-is_made_twice
returns-then-is_made_twice c fifos stages are =
    inl (
      refl,
      holds c.is_made_twice.result
          (made_twice fifos stages c.args.uses.now are) c.is_made_twice.ensures c.if-is_made_twice.true,
    )

pub returns-then-has_many_writers : goal.returns-then-has_many_writers
returns-then-has_many_writers c fifos stages are =
    inr (
      fails c.is_made_twice.result (made_twice fifos stages c.args.uses.now are)
          c.is_made_twice.ensures c.if-is_made_twice.false,
      inl (
        refl,
        holds c.has_many_writers.result
            (many_writers fifos stages c.args.uses.now are) c.has_many_writers.ensures
            c.if-has_many_writers.true,
      ),
    )

pub returns-then-has_many_readers : goal.returns-then-has_many_readers
returns-then-has_many_readers c fifos stages are =
    inr (
      fails c.is_made_twice.result (made_twice fifos stages c.args.uses.now are)
          c.is_made_twice.ensures c.if-is_made_twice.false,
      inr (
        fails c.has_many_writers.result (many_writers fifos stages c.args.uses.now are)
            c.has_many_writers.ensures c.if-has_many_writers.false,
        inl (
          refl,
          holds c.has_many_readers.result
              (many_readers fifos stages c.args.uses.now are) c.has_many_readers.ensures
              c.if-has_many_readers.true,
        ),
      ),
    )

pub returns-then-has_no_reader : goal.returns-then-has_no_reader
returns-then-has_no_reader c fifos stages are =
    inr (
      fails c.is_made_twice.result (made_twice fifos stages c.args.uses.now are)
          c.is_made_twice.ensures c.if-is_made_twice.false,
      inr (
        fails c.has_many_writers.result (many_writers fifos stages c.args.uses.now are)
            c.has_many_writers.ensures c.if-has_many_writers.false,
        inr (
          fails c.has_many_readers.result (many_readers fifos stages c.args.uses.now are)
              c.has_many_readers.ensures c.if-has_many_readers.false,
          inl (
            refl,
            holds c.has_no_reader.result
                (no_reader fifos stages c.args.uses.now are) c.has_no_reader.ensures c.if-has_no_reader.true,
          ),
        ),
      ),
    )

pub returns-then-has_no_writer : goal.returns-then-has_no_writer
returns-then-has_no_writer c fifos stages are =
    inr (
      fails c.is_made_twice.result (made_twice fifos stages c.args.uses.now are)
          c.is_made_twice.ensures c.if-is_made_twice.false,
      inr (
        fails c.has_many_writers.result (many_writers fifos stages c.args.uses.now are)
            c.has_many_writers.ensures c.if-has_many_writers.false,
        inr (
          fails c.has_many_readers.result (many_readers fifos stages c.args.uses.now are)
              c.has_many_readers.ensures c.if-has_many_readers.false,
          inr (
            fails c.has_no_reader.result (no_reader fifos stages c.args.uses.now are)
                c.has_no_reader.ensures c.if-has_no_reader.false,
            inl (
              refl,
              holds c.has_no_writer.result
                  (no_writer fifos stages c.args.uses.now are) c.has_no_writer.ensures
                  c.if-has_no_writer.true,
            ),
          ),
        ),
      ),
    )

pub returns-else-has_no_writer : goal.returns-else-has_no_writer
returns-else-has_no_writer c fifos stages are = (
  fails c.is_made_twice.result (made_twice fifos stages c.args.uses.now are)
      c.is_made_twice.ensures c.if-is_made_twice.false,
  (
    fails c.has_many_writers.result (many_writers fifos stages c.args.uses.now are)
        c.has_many_writers.ensures c.if-has_many_writers.false,
    (
      fails c.has_many_readers.result (many_readers fifos stages c.args.uses.now are)
          c.has_many_readers.ensures c.if-has_many_readers.false,
      (
        fails c.has_no_reader.result (no_reader fifos stages c.args.uses.now are)
            c.has_no_reader.ensures c.if-has_no_reader.false,
        (
          fails c.has_no_writer.result (no_writer fifos stages c.args.uses.now are)
              c.has_no_writer.ensures c.if-has_no_writer.false,
          tt,
        ),
      ),
    ),
  ),
)
