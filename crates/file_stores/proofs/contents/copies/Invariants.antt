use Rattle.std.proofs.Common.{◌≡◌, take}
use Rattle.file_stores.proofs.contents.copies.Given as goal

abbrev pub invariant-loop-file : goal.invariant-loop-file
invariant-loop-file l = l.copies.items ≡ take l.file-index l.files
