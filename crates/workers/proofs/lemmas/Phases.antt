-- What a phase leaves.
use Rattle.std.proofs.Common.{◌≡◌, Bool, true, false, List, [], refl, subst, sym, ap, inl, inr, ◌∙◌}
use Rattle.std.proofs.Common.{⊎_elim, rules, arith}
use Rattle.std.specs.Prelude.{◌≢◌, IsTrue, IsFalse, ◌⊎◌}
use Rattle.std.specs.List.{AllZip}
use Rattle.machine.specs.Law.{Shown}
use Rattle.collector.specs.Files.{FilesShown}
use Rattle.network_laws.specs.State.{Setup}
use Rattle.networks.specs.Networks.{Networked, HasOpened, IsJoined, IsRight}
use Rattle.networks.specs.Turns.{AnyFailed}
use Rattle.lending.specs.inner.Loans.{Grouped, GroupGoesOn, AreOut, filled, IsWhole, IsSet}
use Rattle.lending.specs.inner.Loans.{RunsFiles, Settles, with_nodes}
use Rattle.lending.proofs.FillLaws.{left_opened, filled_touches}
use Rattle.lending.proofs.KeptNodes.{whole_of, set_of}
use Rattle.lending.proofs.StepLaws.{steps_refl, steps_trans}
use Rattle.lending.proofs.PhaseLaws.{phase_out, phase_whole, phase_set, phase_opened, phase_same}
use Rattle.lending.proofs.PhaseLaws.{phase_on, phase_reaches, phase_true, phase_failed}
use Rattle.networks.proofs.Kept.{keeps_trans}
use Rattle.lending.specs.declared.apart.Flow.{Flow}
use Rattle.lending.specs.declared.apart.Flow.TheVariants as flow
use Rattle.workers.specs.inner.Phases.{RunsPhase}

-- no read and no write failed, or a node has
sound_or : (same failed : Type 0) (sound : Bool) → (IsTrue sound → same) → (IsFalse sound → failed)
    → same ⊎ failed
sound_or same failed true f g = inl (f refl)
sound_or same failed false f g = inr (g refl)

module _ {M : Type 0} where
  -- no rounds of sources and sinks, and more of them
  pub rounds_none : (shows : M → Shown) (f : FilesShown) (n : Networked M) → HasOpened n f
      → RunsFiles shows f f n n
  rounds_none shows f n opened = record {
    steps = steps_refl shows f n.nodes;
    tables =
        refl;
    opened = opened;
  }

  pub rounds_more : (shows : M → Shown) (f g h : FilesShown) (n m later : Networked M)
      → RunsFiles shows f g n m → RunsFiles shows g h m later → RunsFiles shows f h n later
  rounds_more shows f g h n m later runs more = record {
    steps = steps_trans shows f g h n.nodes m.nodes later.nodes runs.steps more.steps;
    tables = more.tables ∙ ap (λ (x : Networked M). with_nodes x later.nodes) runs.tables;
    opened = more.opened;
  }

  -- more of them, and then a look at the files that changes nothing of what they show
  pub rounds_seen : (shows : M → Shown) (f g h seen : FilesShown) (n m later : Networked M)
      → seen ≡ h → RunsFiles shows f g n m → RunsFiles shows g h m later
      → RunsFiles shows f seen n later
  rounds_seen shows f g h seen n m later same runs more =
      subst (λ (x : FilesShown). RunsFiles shows f x n later) (sym same)
      (rounds_more shows f g h n m later runs more)

  -- the files of the nodes that are here are open
  pub here_open : (f : FilesShown) (first n : Networked M) (gs : List (Grouped M))
      → filled n gs ≡ first → AreOut n.nodes gs → HasOpened first f → HasOpened n f
  here_open f first n gs back out opened =
      left_opened f gs n.nodes out (subst (λ (x : Networked M). HasOpened x f) (sym back) opened)

  module _ (shows : M → Shown) (f g : FilesShown) (first n m : Networked M)
      (gs hs : List (Grouped M)) (joined : IsJoined first) (back : filled n gs ≡ first)
      (out : AreOut n.nodes gs) (runs : RunsFiles shows f g n m)
      (all : AllZip (GroupGoesOn shows) gs hs) where
    whole : IsWhole (filled n gs)
    whole = subst (λ (x : Networked M). IsWhole x) (sym back) (whole_of first joined)

    -- all groups are out after it
    pub out_after : AreOut m.nodes hs
    out_after = phase_out shows f g n m gs hs out whole runs all

    -- and with them put back the network is whole
    pub whole_after : IsWhole (filled m hs)
    whole_after = phase_whole shows f g n m gs hs out whole runs all

    -- the phase, once all groups are back and all pipes were looked at
    pub phase_ran : (opened : HasOpened first f) (sound : Bool)
        → (IsTrue sound → g.failures ≡ f.failures) → (IsFalse sound → AnyFailed m)
        → (later : Networked M) →
        Settles (filled m hs) later
        → ((files : FilesShown) → HasOpened (filled m hs) files → HasOpened later files)
        → ((s : Setup) (files : FilesShown) → IsSet shows s (filled m hs) files
        → IsRight shows s later files) →
        RunsPhase shows first f later g
    phase_ran opened sound same failed later settles stays right =
        subst (λ (x : Networked M). RunsPhase shows x f later g) back
        record {
          keeps = record {
            same = phase_same shows f g n m gs hs out whole runs all later settles;
            right =
                λ s r. right s g (phase_set shows f g n m gs hs out whole runs all s
                (set_of shows s (filled n gs) f r));
            touches = let r = runs.steps in filled_touches n.nodes gs f g out r.touches;
          };
          opened =
              stays g (phase_opened shows f g n m gs hs out whole runs all
              (subst (λ (x : Networked M). HasOpened x f) (sym back) opened));
          on = phase_on shows f g n m gs hs out whole runs all later settles;
          sound = sound_or (g.failures ≡ f.failures) (AnyFailed later) sound same
              (λ no. phase_failed shows f g n m gs hs out whole runs all later settles (failed no));
          counts = phase_reaches shows f g n m gs hs out whole runs all later settles;
          faults = phase_true shows f g n m gs hs out whole runs all later settles;
        }

abbrev holds : Bool → Type 0
holds true = Unit {0}
holds false = ⊥

-- whether rounds have met no failure
abbrev is_sound : Flow → Bool
is_sound flow.Quiet = true
is_sound flow.Moving = true
is_sound flow.Failed = false

sound_same : (same : Type 0) (r : Flow) → (r ≢ flow.Failed → same) → IsTrue (is_sound r) → same
sound_same same flow.Quiet f t = f (search rules)
sound_same same flow.Moving f t = f (search rules)
sound_same same flow.Failed f t = absurd (subst holds (sym t) tt)

unsound_failed : (failed : Type 0) (r : Flow) → (r ≡ flow.Failed → failed) → IsFalse (is_sound r)
    → failed
unsound_failed failed flow.Failed f t = f refl
unsound_failed failed _ f t = absurd (subst holds t tt)

-- ---- rounds of what is here, with no group out

module _ {M : Type 0} (shows : M → Shown) (f g : FilesShown) (first n m : Networked M)
    (same : n ≡ first) (joined : IsJoined n) (runs_here : RunsFiles shows f g n m)
    (none : List (Grouped M)) (is : none ≡ []) where
  here_joined : IsJoined first
  here_joined = subst (λ (x : Networked M). IsJoined x) same joined

  pub here_whole : IsWhole (filled m none)
  here_whole = subst (λ (gs : List (Grouped M)). IsWhole (filled m gs)) (sym is)
      (whole_after shows f g first n m [] [] here_joined same tt runs_here tt)

  pub here_ran : (opened : HasOpened first f) (r : Flow)
      → (r ≢ flow.Failed → g.failures ≡ f.failures) → (r ≡ flow.Failed → AnyFailed m)
      → (later : Networked M) →
      Settles (filled m none) later
      → ((files : FilesShown) → HasOpened (filled m none) files → HasOpened later files)
      → ((s : Setup) (files : FilesShown) → IsSet shows s (filled m none) files
      → IsRight shows s later files) →
      RunsPhase shows first f later g
  here_ran opened r sound failed later settles stays right =
      let e : filled m none ≡ filled m [] = ap (λ (gs : List (Grouped M)). filled m gs) is in
      phase_ran shows f g first n m [] [] here_joined same tt runs_here tt opened (is_sound r)
      (sound_same (g.failures ≡ f.failures) r sound)
      (unsound_failed (AnyFailed m) r failed) later
      (subst (λ (x : Networked M). Settles x later) e settles)
      (λ files. subst (λ (x : Networked M). HasOpened x files
      → HasOpened later files) e (stays files))
      (λ s files. subst (λ (x : Networked M). IsSet shows s x files
      → IsRight shows s later files) e (right s files))

-- a phase in which no read and no write failed, and then another one
pub phases_ran : {M : Type 0} (shows : M → Shown) (f g h : FilesShown) (a b c : Networked M)
    → RunsPhase shows a f b g → g.failures ≡ f.failures → RunsPhase shows b g c h
    → RunsPhase shows a f c h
phases_ran shows f g h a b c p same q = record {
  keeps = keeps_trans shows a b c f g h p.keeps q.keeps;
  opened = q.opened;
  on = λ graph. omega (arith, p.on graph, q.on graph);
  sound = ⊎_elim (λ e. inl (e ∙ same)) (λ failed. inr failed) q.sound;
  counts = λ count reach. q.counts count (p.counts count reach);
  faults = λ count reach faults. q.faults count (p.counts count reach)
      (p.faults count reach faults);
}
