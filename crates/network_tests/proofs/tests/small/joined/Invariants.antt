use Rattle.std.proofs.Common.{◌≡◌, take}
use Rattle.machine.specs.Whole.{joined}
use Rattle.network_tests.specs.inner.Plans.{whole_lists}
use Rattle.network_tests.proofs.tests.small.joined.Given as goal

abbrev pub invariant-loop-input : goal.invariant-loop-input
invariant-loop-input l = l.bytes.items ≡ joined (whole_lists (take l.input-index l.inputs))
