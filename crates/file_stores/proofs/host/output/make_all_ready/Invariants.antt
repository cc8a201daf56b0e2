use Rattle.std.proofs.Common.{◌≡◌}
use Rattle.std.specs.Prelude.{IsTrue}
use Rattle.folders.specs.inner.Folder.{LeavesAlone}
use Rattle.folders.specs.inner.Outputs.{IsNoNew}
use Rattle.file_stores.proofs.lemmas.HeldReady.{ReadySoFar}
use Rattle.file_stores.proofs.host.output.make_all_ready.Given as goal

abbrev pub invariant-loop-file : goal.invariant-loop-file
invariant-loop-file g l =
    ReadySoFar (l.outputs.items ≡ l.fn.outputs.items) (l.holding.outputs ≡ l.fn.holding.outputs)
    (IsTrue g.D.Folder.names_known → LeavesAlone (IsNoNew l.fn.holding.outputs) (g.D.Folder.shows l.fn.holding.disk) (g.D.Folder.shows l.holding.disk))
