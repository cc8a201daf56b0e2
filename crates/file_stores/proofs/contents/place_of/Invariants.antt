use Rattle.file_stores.proofs.lemmas.Places.{NoneBefore}
use Rattle.file_stores.proofs.contents.place_of.Given as goal

abbrev pub invariant-loop-place : goal.invariant-loop-place
invariant-loop-place l = NoneBefore l.name l.files l.place
