use Rattle.std.specs.Prelude.{IsTrue}
use Rattle.folders.proofs.lemmas.Loops.{StoredSoFar}
use Rattle.folders.proofs.steps.store_all.Given as goal

abbrev pub invariant-loop-output : goal.invariant-loop-output
invariant-loop-output g l = IsTrue g.F.Folder.names_known → StoredSoFar l.outputs l.output (g.F.Folder.shows l.fn.folder) (g.F.Folder.shows l.folder)
