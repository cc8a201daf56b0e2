use Rattle.std.proofs.Common.{◌≡◌, ◌++◌, length}
use Rattle.commands.specs.PasteWords.{elements}
use Rattle.commands.proofs.paste_words.delimiters_in.Given as goal

abbrev pub invariant-loop-element : goal.invariant-loop-element
invariant-loop-element l = l.delimiters.items ++ elements l.rest ≡ elements l.list

abbrev pub decreases-loop-element : goal.decreases-loop-element
decreases-loop-element l = length l.rest
