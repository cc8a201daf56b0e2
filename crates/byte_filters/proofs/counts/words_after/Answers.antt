use Rattle.std.proofs.Common.{arith}
use Rattle.machine.proofs.SplitLaws.{some_long}
use Rattle.byte_filters.proofs.lemmas.CountLaws.{begun_more}
use Rattle.byte_filters.proofs.lemmas.StartLaws.{begun_chunk}
use Rattle.byte_filters.proofs.counts.words_after.Goals as goal

pub few_words-requires : goal.few_words-requires
few_words-requires c =
    omega (arith, some_long 64 c.skip.result.now c.prefix-some.result.now c.prefix-some.ensures)

pub overflow_add-words : goal.overflow_add-words
overflow_add-words c = omega (
  arith,
  c.loop-at.invariant.few,
  c.starts-words.ensures.few,
  c.loop-at.invariant.within,
)

pub loop-at-preserved-then-bytes-at-ge-CHUNK : goal.loop-at-preserved-then-bytes-at-ge-CHUNK
loop-at-preserved-then-bytes-at-ge-CHUNK c =
    begun_chunk c.args.before c.args.bytes.now c.loop-at.at c.loop-at.words c.starts-words.result
    c.loop-at.last c.is_word-last.result
    (omega arith) c.starts-words.ensures.value c.is_word-last.ensures c.loop-at.invariant

pub loop-at-preserved : goal.loop-at-preserved
loop-at-preserved c =
    begun_more c.args.before c.args.bytes.now c.skip.result.now c.prefix-some.result.now
    c.loop-at.at c.loop-at.words 64 c.few_words.result c.loop-at.last c.ends_in_word-last.result
    c.skip.ensures c.prefix-some.ensures c.few_words.ensures c.ends_in_word-last.ensures
    c.loop-at.invariant
