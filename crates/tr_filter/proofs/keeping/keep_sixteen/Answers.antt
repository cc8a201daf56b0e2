use Rattle.std.proofs.Common.{drop, take}
use Rattle.std.proofs.lemmas.Simd.{length-chunk}
use Rattle.tr_filter.specs.inner.Nibbles.{is_left}
use Rattle.tr_filter.proofs.lemmas.LaneLaws.{both_put, half_small}
use Rattle.tr_filter.proofs.keeping.keep_sixteen.Goals as goal

pub put_eight-requires-clause-marks : goal.put_eight-requires-clause-marks
put_eight-requires-clause-marks c =
    let bytes = c.args.bytes.now in
    half_small (is_left c.args.gone.now) (take 16 (drop c.args.from bytes))
    c.left_marks-marks.result (length-chunk c.args.from 16 bytes c.requires.room)
    c.left_marks-marks.ensures.marks

pub returns-clause-made : goal.returns-clause-made
returns-clause-made c =
    let bytes = c.args.bytes.now in
    let p = is_left c.args.gone.now in
    both_put p (take 16 (drop c.args.from bytes)) c.turned.result bytes c.put_eight-middle.new.bytes
    c.put_eight.new.bytes c.left_marks-marks.result c.args.kept c.put_eight-middle.result
    c.put_eight.result
    (length-chunk c.args.from 16 bytes c.requires.room)
    c.left_marks-marks.ensures.marks c.turned.ensures (c.put_eight-middle.ensures.put p)
    (c.put_eight.ensures.put p)
