use Rattle.std.proofs.Common.{◌≢◌}
use Rattle.std.specs.Prelude.{IsTrue}
use Rattle.folders.specs.inner.Folder.{LeavesAlone}
use Rattle.held_outputs.proofs.new_file.made.Given as goal

abbrev pub invariant-loop : goal.invariant-loop
invariant-loop g l = IsTrue g.D.Folder.names_known → LeavesAlone (λ n. n ≢ l.name) (g.D.Folder.shows l.fn.disk) (g.D.Folder.shows l.disk)
