use Rattle.std.proofs.Common.{length, ◌-◌}
use Rattle.program.proofs.lemmas.ReadLaws.{ReadSoFar}
use Rattle.program.proofs.script.read_text.Given as goal

abbrev pub invariant-reading : goal.invariant-reading
invariant-reading g l = ReadSoFar l.file l.text.items (g.F.Files.shows l.initial.files)
    (g.F.Files.shows l.files)

abbrev pub decreases-reading : goal.decreases-reading
decreases-reading g l = 65537 - length l.text.items
