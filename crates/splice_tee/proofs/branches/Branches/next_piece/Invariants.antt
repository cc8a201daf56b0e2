use Rattle.std.proofs.Common.{◌≡◌, ◌++◌, map, take, drop}
use Rattle.splice_tee.specs.BranchStates.{lacking_again}
use Rattle.splice_tee.proofs.branches.Branches.next_piece.Given as goal

abbrev pub invariant-loop-served : goal.invariant-loop-served
invariant-loop-served l =
    l.served-items ≡ map lacking_again (take l.served-index l.fn.self)
    ++ drop l.served-index l.fn.self
