use Rattle.std.proofs.Common.{◌≡◌, ◌≤◌, take}
use Rattle.commands.specs.Wc.{words_after}
use Rattle.byte_filters.specs.WcSteps.{ends_in_word}
use Rattle.byte_filters.proofs.counts.few_words.Given as goal

abbrev pub invariant-loop-byte : goal.invariant-loop-byte
invariant-loop-byte l =
    record {
      words : l.words ≡ words_after l.before (take l.byte-index l.bytes);
      last : l.last ≡ ends_in_word l.before (take l.byte-index l.bytes);
      few : l.words ≤ l.byte-index;
    }
