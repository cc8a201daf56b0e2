-- What cat makes of its whole inputs: the present ones in operand order, one after another
-- (POSIX.1-2017 XCU cat); and tee of its one input: the same (XCU tee).
use Rattle.machine.specs.Whole.{joined_answer, WholeAnswer}

-- the whole answer of cat and of tee
abbrev pub cat_whole : WholeAnswer
cat_whole = joined_answer
