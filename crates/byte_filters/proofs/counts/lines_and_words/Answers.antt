use Rattle.std.proofs.Common.{arith, ap, length, length-drop}
use Rattle.byte_filters.proofs.lemmas.CountLaws.{words_few}
use Rattle.byte_filters.proofs.lemmas.StartLaws.{begun_chunk}
use Rattle.byte_filters.proofs.lemmas.TallyLaws.{ended_chunk}
use Rattle.byte_filters.proofs.counts.lines_and_words.Goals as goal

pub loop-at-preserved : goal.loop-at-preserved
loop-at-preserved c =
    let l = c.loop-at in (
      begun_chunk c.args.before c.args.bytes.now l.at l.words c.starts-begun.result l.last
          c.is_word-last.result (omega arith) c.starts-begun.ensures.value c.is_word-last.ensures
          l.invariant.0,
      ended_chunk c.args.bytes.now l.at l.lines c.line_ends-lines.result
          c.line_ends-lines.ensures.value l.invariant.1,
    )

pub overflow_add-result-2 : goal.overflow_add-result-2
overflow_add-result-2 c =
    let l = c.loop-at in
    let rest = c.skip-rest.result.now in
    let many = words_few l.last rest in
    let long = ap length c.skip-rest.ensures in
    omega (
      arith,
      many,
      long,
      length-drop l.at c.args.bytes.now,
      c.words_after.ensures,
      l.invariant.0.few,
      l.invariant.0.within,
    )
