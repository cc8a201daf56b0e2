use Rattle.std.proofs.Common.{◌≡◌, take, drop}
use Rattle.std.specs.List.{AllZip}
use Rattle.bounded_pipe.specs.Events.{HangsUp}
use Rattle.stages.proofs.inlet.hang_up_each.Given as goal

abbrev pub invariant-loop-end : goal.invariant-loop-end
invariant-loop-end l = record {
  done : AllZip HangsUp (take l.end-index l.fn.ends.items) (take l.end-index l.end-items);
  rest : drop l.end-index l.end-items ≡ drop l.end-index l.fn.ends.items;
}
