use Rattle.std.specs.Prelude.{IsTrue}
use Rattle.folders.proofs.lemmas.Leaving.{LeftSoFar}
use Rattle.folders.proofs.steps.leave_all.Given as goal

abbrev pub invariant-loop-output : goal.invariant-loop-output
invariant-loop-output g l = IsTrue g.F.Folder.names_known → LeftSoFar l.outputs l.output l.left (g.F.Folder.shows l.fn.folder) (g.F.Folder.shows l.folder)
