use Rattle.lanes.proofs.lemmas.MarkLaws.{near_first}
use Rattle.lanes.proofs.near.find_in_chunk.Goals as goal

pub returns : goal.returns
returns c = near_first c.args.bytes.now c.args.byte c.args.at c.chunk_marks-marks.result c.requires
    c.chunk_marks-marks.ensures c.if-marks-eq0.false
