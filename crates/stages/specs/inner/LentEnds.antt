-- A stage, or its inlet, that lends a pipe end: it stays as it is, but for what is left of the end.
use Rattle.std.specs.Prelude.{ℕ, slice_set}
use Rattle.std.specs.Borrow.{Lends, MutBor, Fml, RattleType}
use Rattle.machine.specs.declared.protocol.Machine.{Ghosts}
use Rattle.bounded_pipe.specs.Ends.{Writing, Reading}
use Rattle.bounded_pipe.specs.contracts.writing.PipeOut as writing_end
use Rattle.bounded_pipe.specs.contracts.reading.PipeIn as reading_end
use Rattle.stages.specs.Inlets.{Taking}
use Rattle.stages.specs.inner.Staged.{Staged}
use Rattle.stages.specs.contracts.inlet.Inlet as inlet
use Rattle.stages.specs.contracts.stage.Stage as stage

-- the inlet ends with the last value of the end of the input k, and is otherwise as it was
abbrev pub LendsEnd : MutBor Taking → ℕ → MutBor Reading → Fml
LendsEnd i k r =
    Lends inlet.the_row reading_end.the_row i r
    (λ w. record i.now { ends = slice_set i.now.ends k w })

module _ (M : RattleType) (machine : Ghosts M.Denot) (s : MutBor (Staged M.Denot)) where
  -- the stage ends with the last value of the end of its branch k, and is otherwise as it was
  abbrev pub LendsOut : ℕ → MutBor Writing → Fml
  LendsOut k r =
      Lends (stage.the_row M machine) writing_end.the_row s r
      (λ w. record s.now {
        outlet =
            record s.now.outlet { ends = slice_set s.now.outlet.ends k w };
      })

  -- the same with the end of its input k
  abbrev pub LendsIn : ℕ → MutBor Reading → Fml
  LendsIn k r =
      Lends (stage.the_row M machine) reading_end.the_row s r
      (λ w. record s.now { inlet = record s.now.inlet { ends = slice_set s.now.inlet.ends k w } })
