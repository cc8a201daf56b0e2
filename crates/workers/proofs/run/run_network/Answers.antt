use Rattle.network_laws.specs.Outcome.{Agree}
use Rattle.networks.specs.Turns.{NoneFailed, network_run}
use Rattle.std.proofs.Common.{◌≡◌, ◌≤◌, ℕ, append-nil, [], map, refl, subst, sym, inl, ◌∙◌, ⊎_elim}
use Rattle.std.proofs.Common.{arith}
use Rattle.collector.specs.Files.{FilesShown, reads_of}
use Rattle.collector.specs.declared.fault.RunFault.TheVariants as named
use Rattle.machine.specs.Law.{Shown}
use Rattle.network_laws.specs.State.{Setup}
use Rattle.network_laws.specs.declared.outcome.Outcome.{Outcome}
use Rattle.network_laws.specs.declared.outcome.Outcome.TheVariants as outcome
use Rattle.networks.proofs.EndLaws.{refused}
use Rattle.networks.proofs.FaultLaws.{faults_kept}
use Rattle.networks.proofs.Kept.{kept_grown, grown_keeps_refl, grown_keeps_trans}
use Rattle.networks.specs.Bounds.{most_rounds}
use Rattle.networks.specs.Networks.{Networked, TouchesNodes, IsRight}
use Rattle.networks.specs.inner.KeptNetworks.{KeepsGrown}
use Rattle.std.specs.List.{AllByRecursion}
use Rattle.lending.specs.inner.Loans.{IsStageAt}
use Rattle.lending.proofs.SeparateLaws.{all_front, separate_front, stages_stay}
use Rattle.workers.specs.inner.Runs.{RunsTo}
use Rattle.workers.proofs.lemmas.LoopLaws.{faults_after, not_both, none_untrue}
use Rattle.workers.proofs.lemmas.RoundCounts.{spends_none, spends_phase, counted_few}
use Rattle.workers.proofs.run.run_network.Goals as goal

pub loop-init : goal.loop-init
loop-init g c = record {
  next = tt;
  finite = tt;
  keeps = grown_keeps_refl g.M.Machine.shows c.args.network (g.F.Files.shows c.args.files.now);
  opened = c.requires.opened;
  unfailed = c.requires.unfailed;
  faults = c.in-Ok.ensures;
  failures = refl;
  given = omega arith;
  spends = λ s right. spends_none g.M.Machine.shows s c.args.network
      (g.F.Files.shows c.args.files.now);
}

pub next_phase-requires-clause-stages : goal.next_phase-requires-clause-stages
next_phase-requires-clause-stages g c κs within =
    let keeps = c.loop.invariant.keeps in
    let same = keeps.same in
    all_front (AllByRecursion (IsStageAt c.loop.network.nodes)) c.loop.given c.args.groups.now
    (stages_stay c.args.network.nodes c.loop.network.nodes same.nodes
    (map (λ v. v.items) c.args.groups.now) c.requires.stages)

pub next_phase-requires-clause-once : goal.next_phase-requires-clause-once
next_phase-requires-clause-once g c κs within =
    separate_front c.loop.given c.args.groups.now c.requires.once

pub run_in_turn_with-requires-clause-faults : goal.run_in_turn_with-requires-clause-faults
run_in_turn_with-requires-clause-faults g c =
    let p = c.in-Ok-next_phase.ensures.phase in
    let keeps = p.keeps in
    faults_kept (λ had has. has ≡ had) c.loop.network c.in-Ok-next_phase.phase.network c.loop.faults
    keeps.same c.loop.invariant.faults

-- a run for which memory or a thread was refused, by the network and the files as they were then
refused_run : {M : Type 0} (shows : M → Shown) (s : Setup) (old n : Networked M)
    (before now : FilesShown) → KeepsGrown shows old before n now → NoneFailed n
    → IsRight shows s old before → RunsTo shows s old before now (outcome.Faulted named.NoMemory)
refused_run shows s old n before now keeps none right = record {
  new = n;
  same = keeps.same;
  growths = keeps.growths s right;
  forest = keeps.forest s right;
  right = keeps.right s right;
  ends = inl (refl, none);
  outcome_is = refused shows s n now before.failures [] (keeps.right s right);
}

pub returns-in_default-clause-outcome : goal.returns-in_default-clause-outcome
returns-in_default-clause-outcome g c = λ s right.
    let shows = g.M.Machine.shows in
    let files = g.F.Files.shows c.args.files.now in
    subst (λ (o : Outcome). RunsTo shows s c.args.network files files o)
    (sym c.refused.ensures.outcome)
    (refused_run shows s c.args.network c.args.network files files
    (grown_keeps_refl shows c.args.network files) c.requires.unfailed right)

pub returns-in_default-clause-touches : goal.returns-in_default-clause-touches
returns-in_default-clause-touches g c =
    let keeps = grown_keeps_refl g.M.Machine.shows c.args.network
    (g.F.Files.shows c.args.files.now) in
    keeps.touches

pub returns-in_default-next_phase-clause-outcome : goal.returns-in_default-next_phase-clause-outcome
returns-in_default-next_phase-clause-outcome g c = λ s right.
    let shows = g.M.Machine.shows in
    let first = g.F.Files.shows c.args.files.now in
    let last = g.F.Files.shows c.loop.files in
    let i = c.loop.invariant in
    subst (λ y. RunsTo shows s c.args.network first
    (g.F.Files.shows y) c.refused-in_default-next_phase.result.outcome)
    (sym c.in_default-next_phase.ensures.refused)
    (subst (λ (o : Outcome). RunsTo shows s c.args.network first last o)
    (sym c.refused-in_default-next_phase.ensures.outcome)
    (refused_run shows s c.args.network c.loop.network first last i.keeps i.unfailed right))

pub returns-in-Ok-run_in_turn_with-clause-outcome :
    goal.returns-in-Ok-run_in_turn_with-clause-outcome
returns-in-Ok-run_in_turn_with-clause-outcome g c = λ s right.
    let shows = g.M.Machine.shows in
    let i = c.loop.invariant in
    let keeps = i.keeps in
    let p = c.in-Ok-next_phase.ensures.phase in
    let phased = p.keeps in
    let first = g.F.Files.shows c.args.files.now in
    let before = g.F.Files.shows c.loop.files in
    let after = g.F.Files.shows c.next_phase.new.files in
    let last = g.F.Files.shows c.run_in_turn_with.new.files in
    let next = c.in-Ok-next_phase.phase.network in
    let all = grown_keeps_trans shows c.args.network next c.run_in_turn_with.new.self first after
    last
    (grown_keeps_trans shows c.args.network c.loop.network next first before after keeps
    (kept_grown shows c.loop.network next before after phased))
    c.run_in_turn_with.ensures.keeps in
    let r = phased.right s (keeps.right s right) in
    let reach = inl (omega (arith, i.failures)) in
    record {
      new = c.run_in_turn_with.new.self;
      same = all.same;
      growths = all.growths s right;
      forest = all.forest s right;
      right = all.right s right;
      ends = c.in-Ok-run_in_turn_with.ensures.ends s r;
      outcome_is = c.in-Ok-run_in_turn_with.ensures.truly s r first.failures
          (p.counts first.failures reach)
          (p.faults first.failures reach
          (none_untrue first.failures before.failures c.loop.network i.unfailed));
    }

pub returns-in-Ok-run_in_turn_with-clause-ends : goal.returns-in-Ok-run_in_turn_with-clause-ends
returns-in-Ok-run_in_turn_with-clause-ends g c = λ s right.
    let keeps = c.loop.invariant.keeps in
    let p = c.in-Ok-next_phase.ensures.phase in
    let phased = p.keeps in
    c.in-Ok-run_in_turn_with.ensures.ends s (phased.right s (keeps.right s right))

pub returns-in-Ok-run_in_turn_with-clause-flows : goal.returns-in-Ok-run_in_turn_with-clause-flows
returns-in-Ok-run_in_turn_with-clause-flows g c = λ s right forest.
    let keeps = c.loop.invariant.keeps in
    let p = c.in-Ok-next_phase.ensures.phase in
    let phased = p.keeps in
    let run = c.in-Ok-run_in_turn_with.ensures.outcome in
    run.flows s (phased.right s (keeps.right s right)) forest

pub returns-in-Ok-run_in_turn_with-clause-sound : goal.returns-in-Ok-run_in_turn_with-clause-sound
returns-in-Ok-run_in_turn_with-clause-sound g c = λ h.
    let i = c.loop.invariant in
    let p = c.in-Ok-next_phase.ensures.phase in
    let run = c.in-Ok-run_in_turn_with.ensures.outcome in
    ⊎_elim
    (λ same. run.sound h ∙ (same ∙ i.failures))
    (λ any. absurd (not_both c.in-Ok-run_in_turn_with.outcome h
    (c.in-Ok-run_in_turn_with.ensures.failed any).0))
    p.sound

pub returns-in_default-next_phase-clause-touches : goal.returns-in_default-next_phase-clause-touches
returns-in_default-next_phase-clause-touches g c =
    let keeps = c.loop.invariant.keeps in
    subst (λ y. TouchesNodes c.args.network.nodes (g.F.Files.shows c.args.files.now)
    (g.F.Files.shows y)) (sym c.in_default-next_phase.ensures.refused) keeps.touches

pub returns-in-Ok-run_in_turn_with-clause-touches :
    goal.returns-in-Ok-run_in_turn_with-clause-touches
returns-in-Ok-run_in_turn_with-clause-touches g c =
    let shows = g.M.Machine.shows in
    let p = c.in-Ok-next_phase.ensures.phase in
    let first = g.F.Files.shows c.args.files.now in
    let before = g.F.Files.shows c.loop.files in
    let after = g.F.Files.shows c.next_phase.new.files in
    let last = g.F.Files.shows c.run_in_turn_with.new.files in
    let next = c.in-Ok-next_phase.phase.network in
    let all = grown_keeps_trans shows c.args.network next c.run_in_turn_with.new.self first after
    last
    (grown_keeps_trans shows c.args.network c.loop.network next first before after
    c.loop.invariant.keeps (kept_grown shows c.loop.network next before after p.keeps))
    c.run_in_turn_with.ensures.keeps in
    all.touches

pub loop-preserved : goal.loop-preserved
loop-preserved g c =
    let shows = g.M.Machine.shows in
    let i = c.loop.invariant in
    let p = c.in-Ok-next_phase.ensures.phase in
    let first = g.F.Files.shows c.args.files.now in
    let before = g.F.Files.shows c.loop.files in
    let after = g.F.Files.shows c.next_phase.new.files in
    let last = g.F.Files.shows c.run_in_turn_with.new.files in
    let next = c.in-Ok-next_phase.phase.network in
    let spent = c.in_default-run_in_turn_with.ensures.spent in
    record {
      next = tt;
      finite = tt;
      keeps = grown_keeps_trans shows c.args.network next c.run_in_turn_with.new.self first after
          last
          (grown_keeps_trans shows c.args.network c.loop.network next first before after i.keeps
          (kept_grown shows c.loop.network next before after p.keeps))
          c.run_in_turn_with.ensures.keeps;
      opened = c.run_in_turn_with.ensures.opened;
      unfailed = spent.unfailed;
      faults = faults_after c.loop.network next c.run_in_turn_with.new.self c.loop.faults
          c.run_in_turn_with.new.faults (let keeps = p.keeps in
          keeps.same) (let keeps = c.run_in_turn_with.ensures.keeps in
          keeps.same) (c.in_default-run_in_turn_with.ensures.kept refl) i.faults;
      failures = ⊎_elim (λ same. spent.sound ∙ (same ∙ i.failures))
          (λ any. absurd (c.in_default-run_in_turn_with.ensures.failed any).0) p.sound;
      given = omega (arith, c.given-given.ensures, i.given);
      spends = λ s right.
          let phased = p.keeps in
          let keeps = i.keeps in
          let same = keeps.same in
          let now = phased.right s (keeps.right s right) in
          spends_phase shows s c.loop.rounds c.from-more.result _ c.args.network c.loop.network next
          c.run_in_turn_with.new.self first before after last
          (omega (arith, c.saturating_add-rounds.ensures)) same.most phased.same
          (i.spends s right) (p.on s.graph) (spent.further s now);
    }

pub returns-in_default-next_phase-clause-few : goal.returns-in_default-next_phase-clause-few
returns-in_default-next_phase-clause-few g c = λ s right contents agree.
    let shows = g.M.Machine.shows in
    let i = c.loop.invariant in
    let keeps = i.keeps in
    let first = g.F.Files.shows c.args.files.now in
    let before = g.F.Files.shows c.loop.files in
    subst (λ (n : ℕ). n ≤ most_rounds s contents)
    (sym c.refused-in_default-next_phase.ensures.rounds)
    (counted_few shows s c.loop.rounds c.args.network c.loop.network first before before right
    (keeps.right s right) keeps.same (i.spends s right)
    (λ file. record { bytes = ([], append-nil (reads_of before file).bytes); ended = λ e. refl })
    contents
    (subst (λ y. Agree s (network_run shows c.args.network first c.args.network (g.F.Files.shows y))
    contents) c.in_default-next_phase.ensures.refused agree))

pub returns-in-Ok-run_in_turn_with-clause-few : goal.returns-in-Ok-run_in_turn_with-clause-few
returns-in-Ok-run_in_turn_with-clause-few g c = λ s right contents agree.
    let shows = g.M.Machine.shows in
    let i = c.loop.invariant in
    let keeps = i.keeps in
    let p = c.in-Ok-next_phase.ensures.phase in
    let first = g.F.Files.shows c.args.files.now in
    let before = g.F.Files.shows c.loop.files in
    let after = g.F.Files.shows c.next_phase.new.files in
    let last = g.F.Files.shows c.run_in_turn_with.new.files in
    let next = c.in-Ok-next_phase.phase.network in
    let rest = grown_keeps_trans shows c.loop.network next c.run_in_turn_with.new.self before after
    last (kept_grown shows c.loop.network next before after p.keeps)
    c.run_in_turn_with.ensures.keeps in
    let touched = rest.touches in
    counted_few shows s c.loop.rounds c.args.network c.loop.network first before last right
    (keeps.right s right) keeps.same (i.spends s right) touched.reads contents
    agree
