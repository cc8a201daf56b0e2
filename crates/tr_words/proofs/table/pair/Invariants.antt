use Rattle.tr_words.proofs.TableLaws.{HasEntered}
use Rattle.tr_words.proofs.table.pair.Given as goal

abbrev pub invariant-loop-byte : goal.invariant-loop-byte
invariant-loop-byte l = HasEntered l.fn.table l.table l.bytes1 l.bytes2 l.byte-index l.rest
