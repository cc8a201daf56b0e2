use Rattle.std.proofs.Common.{length}
use Rattle.held_outputs.proofs.system.SystemDiskFolder.store_names.Given as goal

abbrev pub decreases-loop-folder : goal.decreases-loop-folder
decreases-loop-folder g l = length l.self.folders.items
