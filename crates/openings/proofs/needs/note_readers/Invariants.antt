use Rattle.std.proofs.Common.{ℕ}
use Rattle.std.specs.List.{slice_get}
use Rattle.openings.specs.inner.Needs.{CoversFirst}
use Rattle.openings.proofs.needs.note_readers.Given as goal

abbrev pub invariant-loop-pipe : goal.invariant-loop-pipe
invariant-loop-pipe l = (k : ℕ) → CoversFirst l.plan l.pipe k (slice_get l.needs k)
