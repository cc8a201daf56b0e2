use Rattle.std.proofs.Common.{◌≡◌, ◌+◌, drop}
use Rattle.std.specs.List.{prefix_len}
use Rattle.tr_words.specs.Classes.{is_lower}
use Rattle.tr_words.proofs.element.leading_letters.Given as goal

abbrev pub invariant-loop-i : goal.invariant-loop-i
invariant-loop-i l = l.i + prefix_len is_lower (drop l.i l.string) ≡ prefix_len is_lower l.string
