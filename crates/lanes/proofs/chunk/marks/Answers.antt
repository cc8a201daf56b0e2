use Rattle.std.proofs.Common.{◌∙◌, ap, ℕ}
use Rattle.std.specs.Int.{bit_at}
use Rattle.lanes.proofs.lemmas.MarkLaws.{bit_is}
use Rattle.lanes.proofs.chunk.marks.Goals as goal

pub returns-then-bytes-at-ge-CHUNK : goal.returns-then-bytes-at-ge-CHUNK
returns-then-bytes-at-ge-CHUNK c k small within =
    ap (λ (m : ℕ). bit_at m k) c.chunk_marks.ensures
    ∙ bit_is c.args.byte c.args.bytes.now c.args.at k small within
