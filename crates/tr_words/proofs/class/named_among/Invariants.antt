use Rattle.std.proofs.Common.{◌≡◌, length}
use Rattle.std.specs.List.{find}
use Rattle.command_words.specs.Texts.{same_bytes}
use Rattle.tr_words.specs.Classes.{name_of}
use Rattle.tr_words.proofs.class.named_among.Given as goal

abbrev pub invariant-loop-class : goal.invariant-loop-class
invariant-loop-class l = find (λ class. same_bytes l.name (name_of class)) l.rest
    ≡ find (λ class. same_bytes l.name (name_of class)) l.classes

abbrev pub decreases-loop-class : goal.decreases-loop-class
decreases-loop-class l = length l.rest
