use Rattle.std.specs.Prelude.{IsTrue}
use Rattle.folders.proofs.lemmas.Renaming.{RenamedSoFar}
use Rattle.folders.proofs.steps.rename_all.Given as goal

abbrev pub invariant-loop-output : goal.invariant-loop-output
invariant-loop-output g l = IsTrue g.F.Folder.names_known → RenamedSoFar l.outputs l.output (g.F.Folder.shows l.fn.folder) (g.F.Folder.shows l.folder)
