use Rattle.std.proofs.Common.{◌≡◌, refl, sym, subst, Some}
use Rattle.std.specs.Prelude.{slice_get}
use Rattle.std.specs.List.{concat}
use Rattle.machine.specs.Whole.{StreamAnswer}
use Rattle.bounded_pipe.specs.Ends.{Writing}
use Rattle.splice_tee.specs.BranchStates.{served_at}
use Rattle.run_types.specs.declared.node_state.NodeState.{NodeState}
use Rattle.run_types.specs.declared.node_state.NodeState.TheVariants as state
use Rattle.stages.specs.Stages.{BranchKeeps, StageCase}
use Rattle.stages.specs.Owed.{branch_owed, is_finished}
use Rattle.stages.specs.inner.Staged.{Staged}
use Rattle.stages.specs.inner.Steps.{InCase, part}
use Rattle.stages.proofs.lemmas.DebtLaws.{branch_kept}
use Rattle.stages.proofs.stage.Stage.owes.Goals as goal

pub returns : goal.returns
returns g c =
    let shows = g.M.Machine.shows in
    subst (λ (t : Staged g.row.M.Denot). (answer : StreamAnswer) (w : Writing)
    → InCase shows answer t → t.state ≡ state.Running
    → slice_get t.outlet.ends c.args.k ≡ Some w
    → c.owes.result ≡ branch_owed (part shows t) w (served_at t.outlet.served c.args.k))
    c.self.view_is
    (λ answer w case running at.
    let i = c.self.inside in
    let t : Staged g.row.M.Denot =
    record { machine = i.machine; inlet = i.inlet; outlet = i.outlet; state = i.state } in
    let finished : is_finished (shows t.machine).wanted ≡ c.has_finished.result =
    subst (λ (u : Staged g.row.M.Denot). is_finished (shows u.machine).wanted
    ≡ c.has_finished.result) (sym c.self.view_is) (sym c.has_finished.ensures) in
    let keeps =
    subst (λ (s : NodeState). StageCase t.outlet.block answer
    (part shows t) s t.inlet.ends t.outlet.ends) running case in
    let b = branch_kept (BranchKeeps t.outlet.block keeps.made t.outlet.front
    (concat t.outlet.owed)) t.outlet.ends t.outlet.served c.args.k w keeps.branches at in
    c.owes.ensures (part shows t) w refl refl refl finished at b.noted b.close)
