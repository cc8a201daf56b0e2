use Rattle.std.proofs.Common.{Bool, not, cond, ap, ◌∙◌, ◌+◌, arith}
use Rattle.std.specs.Prelude.{◌&&◌}
use Rattle.byte_filters.proofs.lemmas.CountLaws.{words_more, ends_more, at_most_one}
use Rattle.byte_filters.proofs.counts.few_words.Goals as goal

pub loop-byte-preserved : goal.loop-byte-preserved
loop-byte-preserved c =
    let l = c.loop-byte in
    let word = c.is_word-word in
    let begun = c.begins-words.ensures
    ∙ ap (λ (b : Bool). cond (not l.last && b) 1 0) word.ensures in
    record {
      words = ap (λ n. l.words + n) begun
          ∙ words_more c.args.before l.last c.args.bytes.now l.byte-index l.words
          c.loop-byte-test.true l.invariant.words l.invariant.last;
      last = word.ensures
          ∙ ends_more c.args.before c.args.bytes.now l.byte-index c.loop-byte-test.true;
      few = omega (
        arith,
        at_most_one (not l.last && word.result),
        c.begins-words.ensures,
        l.invariant.few,
      );
    }
