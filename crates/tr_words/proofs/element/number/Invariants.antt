use Rattle.std.proofs.Common.{◌≡◌, ◌+◌, ◌≤◌, min, take}
use Rattle.tr_words.specs.Strings.{number, string_max}
use Rattle.tr_words.proofs.element.number.Given as goal

abbrev pub invariant-loop-digit : goal.invariant-loop-digit
invariant-loop-digit l =
    (l.number ≡ min (number l.radix (take l.digit-index l.digits)) (string_max + 1))
    × (l.number ≤ 65537)
