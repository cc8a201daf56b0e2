use Rattle.std.proofs.Common.{inl, refl}
use Rattle.file_stores.proofs.placed.FileAnyPlace.go_to.Goals as goal

pub returns : goal.returns
returns c = inl refl
