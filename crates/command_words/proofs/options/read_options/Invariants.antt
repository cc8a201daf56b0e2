use Rattle.std.proofs.Common.{◌≡◌, None, length}
use Rattle.command_words.specs.Options.{splits_after, with_front}
use Rattle.command_words.proofs.options.read_options.Given as goal

abbrev pub invariant-words : goal.invariant-words
invariant-words l = with_front l.given.items (splits_after None l.letters l.rest)
    ≡ with_front l.fn.given.items (splits_after None l.letters l.words)

abbrev pub decreases-words : goal.decreases-words
decreases-words l = length l.rest
