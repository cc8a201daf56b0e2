-- A node that lends a pipe end: it stays as it is, but for what is left of the end.
use Rattle.std.specs.Prelude.{ℕ}
use Rattle.std.specs.Borrow.{Lends, MutBor, Fml, RattleType}
use Rattle.machine.specs.declared.protocol.Machine.{Ghosts}
use Rattle.bounded_pipe.specs.Ends.{Writing, Reading}
use Rattle.bounded_pipe.specs.contracts.writing.PipeOut as writing_end
use Rattle.bounded_pipe.specs.contracts.reading.PipeIn as reading_end
use Rattle.network_nodes.specs.inner.Actors.{with_out, with_in}
use Rattle.network_nodes.specs.declared.actor.Actor.{Actor}
use Rattle.network_nodes.specs.contracts.actor.Actor.{the_row}

module _ (M : RattleType) (machine : Ghosts M.Denot) (a : MutBor (Actor M.Denot)) where
  -- the node ends with the last value of the end of its branch k
  abbrev pub LendsOut : ℕ → MutBor Writing → Fml
  LendsOut k r = Lends (the_row M machine) writing_end.the_row a r (with_out a.now k)

  -- the same with the end of its input k
  abbrev pub LendsIn : ℕ → MutBor Reading → Fml
  LendsIn k r = Lends (the_row M machine) reading_end.the_row a r (with_in a.now k)
