use Rattle.std.proofs.Common.{arith, replicate}
use Rattle.lanes.proofs.lemmas.MarkLaws.{few_bit, front_is}
use Rattle.lanes.proofs.chunk.few_marks.Goals as goal

pub returns : goal.returns
returns c =
    few_bit c.args.byte c.chunk_marks.result c.args.bytes.now c.copy_front.new.to c.requires
    (omega arith)
    (front_is c.args.bytes.now c.copy_front.new.to (replicate 64 0) c.copy_front.ensures)
    c.chunk_marks.ensures
