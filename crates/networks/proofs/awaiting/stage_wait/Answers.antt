use Rattle.std.proofs.Common.{◌≡◌, ◌<◌, ◌+◌, ℕ, Option, Some, length, get_or, inr, sym, ◌∙◌, subst}
use Rattle.std.proofs.Common.{arith}
use Rattle.std.specs.Prelude.{slice_get, IfSome}
use Rattle.std.proofs.lemmas.Option.{slice_get-get_or}
use Rattle.std.proofs.lemmas.Bool.{false≢true}
use Rattle.bounded_pipe.specs.Pipes.{IsFull}
use Rattle.network_nodes.specs.declared.actor.Link.{Link}
use Rattle.network_nodes.specs.inner.Actors.{out_at, in_at}
use Rattle.network_laws.specs.Waits.{IsFullAt}
use Rattle.stages.specs.Owed.{owed_size}
use Rattle.stages.specs.inner.Steps.{part}
use Rattle.networks.specs.Networks.{state_by}
use Rattle.networks.proofs.SightLaws.{has_ends}
use Rattle.networks.proofs.lemmas.AwaitLaws.{pipe_within, or_within, end_at, full_by, first_passed}
use Rattle.networks.proofs.lemmas.AwaitLaws.{first_added, first_of_all, owed_in, IsFirstSoFar}
use Rattle.networks.proofs.lemmas.AwaitLaws.{so_far}
use Rattle.networks.proofs.awaiting.stage_wait.Goals as goal
use Rattle.networks.proofs.awaiting.stage_wait.Goals.{then-owes+else-not-is_full_at, else-owes}

pub owes-requires : goal.owes-requires
owes-requires g c = omega (arith, c.loop-branch-test.true, c.branch_count-branch-end.ensures.served)

pub branch_pipe-pipe-requires : goal.branch_pipe-pipe-requires
branch_pipe-pipe-requires g c =
    omega (arith, c.loop-branch-test.true, c.branch_count-branch-end.ensures.served)

pub bounds-pipes-pipe : goal.bounds-pipes-pipe
bounds-pipes-pipe g c =
    pipe_within c.args.nodes.now c.args.pipes.now c.requires.wired c.args.node c.args.stage.now
    c.requires.here c.loop-branch.branch c.branch_pipe-pipe.result c.branch_pipe-pipe.ensures

pub is_full_at-requires-clause-ends : goal.is_full_at-requires-clause-ends
is_full_at-requires-clause-ends g c =
    has_ends c.args.pipes.now c.args.nodes.now c.requires.wired
    (λ p l e. let b = c.requires.beside p l e in let s = b.sees in
    s.ends) c.branch_pipe-pipe.result _
    (slice_get-get_or c.args.pipes.now c.branch_pipe-pipe.result _
    (pipe_within c.args.nodes.now c.args.pipes.now c.requires.wired c.args.node c.args.stage.now
    c.requires.here c.loop-branch.branch c.branch_pipe-pipe.result c.branch_pipe-pipe.ensures))

pub is_full_at-requires-clause-beside : goal.is_full_at-requires-clause-beside
is_full_at-requires-clause-beside g c =
    c.requires.beside c.branch_pipe-pipe.result _
    (slice_get-get_or c.args.pipes.now c.branch_pipe-pipe.result _
    (pipe_within c.args.nodes.now c.args.pipes.now c.requires.wired c.args.node c.args.stage.now
    c.requires.here c.loop-branch.branch c.branch_pipe-pipe.result c.branch_pipe-pipe.ensures))

pub returns-then-not-is_full_at-clause-full : goal.returns-then-not-is_full_at-clause-full
returns-then-not-is_full_at-clause-full g c = λ files answer case running.
    let shows = g.M.Machine.shows in
    let nodes = c.args.nodes.now in
    let pipes = c.args.pipes.now in
    let t = c.args.stage.now in
    let b = c.loop-branch.branch in
    let p = c.branch_pipe-pipe.result in
    let at = c.branch_pipe-pipe.ensures in
    let st = state_by shows nodes pipes files in
    let owed = sym (c.owes.ensures answer (st.writing p) case running
    (end_at nodes pipes c.requires.wired c.args.node t c.requires.here shows files b p at))
    ∙ c.if-owes.true in
    let l : Link = get_or pipes p (record { writer = 0; branch = 0; reader = 0; input = 0 }) in
    inr (λ all.
    let full : IsFullAt st (owed_size (part shows t)) p =
    owed_in st (part shows t) (IsFullAt st (owed_size (part shows t))) t.outlet.pipes
    t.outlet.served b p at
    (omega (arith, c.loop-branch-test.true, c.branch_count-branch-end.ensures.served)) owed
    all in
    false≢true (sym c.if-not-is_full_at.true ∙ c.is_full_at.ensures.1
    (subst (λ (n : ℕ). IsFull n (out_at nodes l) (in_at nodes l)) (sym c.owed_size-size.ensures)
    ((full_by nodes pipes c.requires.wired c.args.node t c.requires.here shows files p l
    (owed_size (part shows t))
    (slice_get-get_or pipes p _
    (pipe_within nodes pipes c.requires.wired c.args.node t c.requires.here b p at))).1 full))))

pub loop-branch-preserved : goal.loop-branch-preserved
loop-branch-preserved g c = (
  elim c.if-owes.branch [
    | then-owes+else-not-is_full_at w ↦
        subst (λ (o : Option ℕ). IfSome o (λ p. p < length c.args.pipes.now))
        (sym (w.first-is ∙ w.or-first.ensures))
        (or_within (λ p. p < length c.args.pipes.now) c.loop-branch.first w.branch_pipe-pipe.result
        c.loop-branch.invariant.0
        (pipe_within c.args.nodes.now c.args.pipes.now c.requires.wired c.args.node c.args.stage.now
        c.requires.here c.loop-branch.branch w.branch_pipe-pipe.result
        w.branch_pipe-pipe.ensures))
    | else-owes w ↦ subst (λ (o : Option ℕ). IfSome o (λ p. p < length c.args.pipes.now))
        (sym w.first-is) c.loop-branch.invariant.0
  ],
  λ files answer case running.
      let shows = g.M.Machine.shows in
      let nodes = c.args.nodes.now in
      let pipes = c.args.pipes.now in
      let t = c.args.stage.now in
      let x = part shows t in
      let b = c.loop-branch.branch in
      let st = state_by shows nodes pipes files in
      let so = c.loop-branch.invariant.1 files answer case running in
      let within : b < length t.outlet.served =
      omega (arith, c.loop-branch-test.true, c.branch_count-branch-end.ensures.served) in
      elim c.if-owes.branch [
        | then-owes+else-not-is_full_at w ↦
            let p = w.branch_pipe-pipe.result in
            let at = w.branch_pipe-pipe.ensures in
            let owed =
            sym (c.owes.ensures answer (st.writing p) case running
            (end_at nodes pipes c.requires.wired c.args.node t c.requires.here shows files b p
            at)) ∙ w.if-owes.true in
            let l : Link =
            get_or pipes p (record { writer = 0; branch = 0; reader = 0; input = 0 }) in
            let full : IsFullAt st (owed_size x) p =
            (full_by nodes pipes c.requires.wired c.args.node t c.requires.here shows files p l
            (owed_size x) (slice_get-get_or pipes p _
            (pipe_within nodes pipes c.requires.wired c.args.node t c.requires.here b p at))).0
            (subst (λ (n : ℕ). IsFull n (out_at nodes l) (in_at nodes l)) c.owed_size-size.ensures
            (w.is_full_at.ensures.0 w.if-not-is_full_at.false)) in
            first_added st x (owed_size x) t.outlet.pipes t.outlet.served b p c.loop-branch.first
            c.if-owes.first at within owed full (w.first-is ∙ w.or-first.ensures) so
        | else-owes w ↦
            let p = get_or t.outlet.pipes b 0 in
            let at : slice_get t.outlet.pipes b ≡ Some p =
            slice_get-get_or t.outlet.pipes b 0
            (omega (arith, c.loop-branch-test.true, c.branch_count-branch-end.ensures.pipes)) in
            let owed =
            sym (c.owes.ensures answer (st.writing p) case running
            (end_at nodes pipes c.requires.wired c.args.node t c.requires.here shows files b p
            at)) ∙ w.if-owes.false in
            subst (λ (o : _). IsFirstSoFar st (owed_size x)
            (so_far st x t.outlet.pipes t.outlet.served (b + 1)) o) (sym w.first-is)
            (first_passed st x (owed_size x) t.outlet.pipes t.outlet.served b p c.loop-branch.first
            at within owed so)
      ],
)

pub returns-clause-full : goal.returns-clause-full
returns-clause-full g c = λ files answer case running.
    let shows = g.M.Machine.shows in
    let t = c.args.stage.now in
    let st = state_by shows c.args.nodes.now c.args.pipes.now files in
    let n = c.branch_count-branch-end.ensures in
    first_of_all st (part shows t) (owed_size (part shows t)) t.outlet.pipes t.outlet.served
    c.loop-branch.branch c.loop-branch.first
    (omega (arith, c.loop-branch-test.false, c.loop-branch.auto.branch-end, n.pipes))
    (omega (arith, n.pipes, n.served)) (c.loop-branch.invariant.1 files answer case running)
