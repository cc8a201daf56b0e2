-- What cut keeps of a line that has not ended (POSIX.1-2017 XCU cut, OPTIONS).
use Rattle.std.specs.Prelude.{◌≡◌, []}
use Rattle.line_filters.specs.declared.cut.Cut.{Cut}
use Rattle.commands.specs.declared.cut_words.Parts.TheVariants.{Bytes}

-- under -b and -c cut keeps only the number of the bytes of a line, and none of them
abbrev pub CutsCountBytes : Type 0
CutsCountBytes = (m : Cut) → m.parts ≡ Bytes → m.partial.items ≡ []
