use Rattle.std.proofs.Common.{◌≡◌, length}
use Rattle.command_words.specs.Options.{group_of, with_given}
use Rattle.command_words.proofs.options.read_group.Given as goal

abbrev pub invariant-loop-rest : goal.invariant-loop-rest
invariant-loop-rest l = with_given l.given.items (group_of l.letters l.rest)
    ≡ with_given l.fn.given.items (group_of l.letters l.group)

abbrev pub decreases-loop-rest : goal.decreases-loop-rest
decreases-loop-rest l = length l.rest
