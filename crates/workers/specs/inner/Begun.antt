-- A group of stages that was to get a thread of its own (POSIX.1-2017 XSH pthread_create): it got
-- one, or has stayed on the thread of the caller.
use Rattle.lending.specs.inner.Loans.{Grouped}
use Rattle.workers.specs.declared.begun.Begun.{Begun}
use Rattle.workers.specs.declared.begun.Begun.TheVariants.{Thread, Here}

-- the group that was handed over
abbrev pub begun_from : {M : Type 0} → Begun M → Grouped M
begun_from (Thread handle) = handle.promise.0.value
begun_from (Here group) = group
