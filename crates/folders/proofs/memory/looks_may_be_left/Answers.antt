use Rattle.folders.proofs.lemmas.MemoryReal.{looks_may_be_left}
use Rattle.folders.proofs.memory.looks_may_be_left.Goals as goal

pub returns : goal.returns
returns c = looks_may_be_left
