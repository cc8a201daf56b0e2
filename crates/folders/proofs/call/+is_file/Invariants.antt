use Rattle.std.proofs.Common.{length}
use Rattle.folders.proofs.call.+is_file.Given as goal

abbrev pub decreases-is_file : goal.decreases-is_file
decreases-is_file l = length l.calls.now
