-- The network of a plan that was run on one thread.
use Rattle.std.proofs.Common.{◌≡◌, ℕ, ◌<◌, ◌≤◌, length, Option, sym, ◌∙◌, subst, inl, ⊎_elim, arith}
use Rattle.std.proofs.Common.{ap}
use Rattle.std.specs.Prelude.{◌⊎◌, IfOk, IsOk, IsOkAnd, is_none}
use Rattle.std.specs.declared.result.Result.{Result}
use Rattle.std.specs.declared.result.Result.TheVariants.{Ok, Err}
use Rattle.std.proofs.lemmas.Bool.{cases_lt}
use Rattle.std.proofs.lemmas.List.{get_or_past}
use Rattle.filters.specs.FilterShows.{filter_shows}
use Rattle.filters.specs.declared.filter.Filter.{Filter}
use Rattle.collector.specs.Files.{FilesShown}
use Rattle.collector.specs.Nodes.{read_by}
use Rattle.graphs.specs.Graph.{node_at}
use Rattle.planner.specs.Planned.{Planned, graph_of}
use Rattle.openings.specs.Answers.{OpenedFiles, own_file}
use Rattle.network_laws.specs.State.{Setup, IsFailed}
use Rattle.network_laws.specs.Sequential.{Contents}
use Rattle.network_laws.specs.Outcome.{AgreesAt, Agree}
use Rattle.network_laws.specs.declared.outcome.Outcome.{Outcome}
use Rattle.network_laws.specs.declared.outcome.RoundsSpent.{RoundsSpent}
use Rattle.network_nodes.specs.declared.actor.Actor.{Actor}
use Rattle.network_nodes.specs.declared.actor.Actor.TheVariants as an
use Rattle.network_nodes.specs.inner.Actors.{actor_at, node_state_at}
use Rattle.networks.specs.Networks.{Face, Networked, GrownNetwork, IsRight, rooms}
use Rattle.networks.specs.Turns.{EndsIn, FaultsAreTrue, HasFileFault, IsUntold, NoneFailed}
use Rattle.networks.specs.Turns.{IsTrueSince, network_run}
use Rattle.networks.specs.inner.KeptNetworks.{KeepsGrown}
use Rattle.run_types.specs.declared.settings.Settings.{Settings}
use Rattle.step_scheduler.specs.Setups.{setup_of, HasFilesOf}
use Rattle.plan_runs.specs.Runs.{RunsPlanTo}
use Rattle.plan_runs.specs.InTurn.{SourcesHold}
use Rattle.plan_runs.proofs.lemmas.RunLaws.{plan_ran}

module _ {M : Type 0} where
  -- a node that failed in a read or a write has failed
  file_failed : (a : Actor M) → HasFileFault a → IsFailed (node_state_at a)
  file_failed (an.Source x) h = subst IsFailed (sym h) tt
  file_failed (an.Sink y) h = subst IsFailed (sym h) tt
  file_failed _ h = absurd h

  -- if no node has failed, no read and no write of one has
  none_untrue : (before now : ℕ) (n : Networked M) → NoneFailed n → FaultsAreTrue before now n.nodes
  none_untrue before now n none k h = ⊎_elim
      (λ (lt : k < length n.nodes). absurd (none k lt (file_failed (actor_at n.nodes k) h)))
      (λ (ge : length n.nodes ≤ k).
      absurd (subst (λ (a : Actor M). HasFileFault a) (get_or_past n.nodes k an.Lent ge) h))
      (cases_lt k (length n.nodes))

  -- if no node had failed before, each fault is told
  told : (n : Networked M) (o : Outcome) (P : Type 0) → NoneFailed n → IsUntold n o ⊎ P → P
  told n o P none = ⊎_elim (λ untold. let any = untold.0 in
      absurd (none any.0 any.1 any.2)) (λ p. p)

-- what follows of a result from two facts of it
both_ok : {A E : Type 0} (P Q R : A → Type 0) → ((x : A) → P x → Q x → R x) → (r : Result A E)
    → IfOk r P → IfOk r Q → IfOk r R
both_ok P Q R f (Ok x) p q = f x p q
both_ok P Q R f (Err e) p q = tt

-- what is so of a result if it is Ok, and that it is
pub ok_and : {A E : Type 0} (P : A → Type 0) → (r : Result A E) → IfOk r P → IsOk r → IsOkAnd r P
ok_and P (Ok x) p is = p
ok_and P (Err e) p is = absurd (cc is)

module _
    (plan : Planned) (opened : OpenedFiles) (settings : Settings) (before after : FilesShown)
    (old new : Networked Filter) (files : HasFilesOf plan opened old) where
  abbrev setup : Setup
  setup = setup_of plan opened settings.max_capacity settings.bytes settings.block

  -- the contents that the sources hold agree with the run
  pub agrees : GrownNetwork old new → (contents : Contents)
      → SourcesHold plan opened after contents
      → Agree setup (network_run filter_shows old before new after) contents
  agrees same contents hold k =
      let in_of = ap (λ (f : Face). f.in_file) (same.nodes k) ∙ files.inputs k in
      subst (λ (f : Option ℕ). AgreesAt (node_at (graph_of plan) k) (is_none (own_file opened k))
      (contents k) (read_by after f).bytes (read_by after f).at_end)
      (sym in_of) (hold k)

  -- the run of the plan is that of its network
  pub ran_in_turn : IsRight filter_shows setup old before → NoneFailed old
      → ((p : ℕ) → p < length plan.pipes → rooms old p ≡ settings.capacity)
      → KeepsGrown filter_shows old before new after → (r : Result Outcome RoundsSpent)
      → IfOk r (λ o. IsUntold old o ⊎ EndsIn filter_shows setup new after o)
      → IsTrueSince filter_shows old before new after r
      → IfOk r (RunsPlanTo plan opened settings before after)
  ran_in_turn right none room keeps r ends truly =
      both_ok (λ o. IsUntold old o ⊎ EndsIn filter_shows setup new after o) _
      (RunsPlanTo plan opened settings before after)
      (λ o end is. plan_ran plan opened settings before after old o files room (record {
        new = new;
        same = keeps.same;
        growths = keeps.growths setup right;
        forest = keeps.forest setup right;
        right = keeps.right setup right;
        ends = told old o (EndsIn filter_shows setup new after o) none end;
        outcome_is = is;
      }))
      r ends
      (truly setup right before.failures (inl (omega arith))
      (none_untrue before.failures before.failures old none))
