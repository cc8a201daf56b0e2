use Rattle.std.proofs.Common.{[], length, refl, inl, inr, arith}
use Rattle.networks.specs.Networks.{network_state, rooms}
use Rattle.networks.specs.Turns.{OutcomeIs, EndsIn, faults_below, network_run, run_of, input_names}
use Rattle.networks.specs.Turns.{output_names}
use Rattle.networks.specs.inner.KeptNetworks.{EndsRounds, EndsRun}
use Rattle.networks.proofs.BoundLaws.{ends_in_time}
use Rattle.networks.proofs.EndLaws.{faulted_before, faulted_since, never_stalls, ok_map, refused}
use Rattle.networks.proofs.Kept.{grown_keeps_refl}
use Rattle.networks.proofs.network.Network.run_in_turn_with.Goals as goal

pub returns-in-Some-clause-keeps : goal.returns-in-Some-clause-keeps
returns-in-Some-clause-keeps g c = grown_keeps_refl g.M.Machine.shows c.args.self.now
    (g.F.Files.shows c.args.files.now)

pub returns-in_default-vec-clause-keeps : goal.returns-in_default-vec-clause-keeps
returns-in_default-vec-clause-keeps g c =
    grown_keeps_refl g.M.Machine.shows c.args.self.now (g.F.Files.shows c.args.files.now)

pub returns-in-Some-clause-turns : goal.returns-in-Some-clause-turns
returns-in-Some-clause-turns g c = λ s right. (0, omega arith, (refl, refl))

pub returns-in_default-vec-clause-turns : goal.returns-in_default-vec-clause-turns
returns-in_default-vec-clause-turns g c = λ s right. (0, omega arith, (refl, refl))

pub returns-in-Some-clause-outcome : goal.returns-in-Some-clause-outcome
returns-in-Some-clause-outcome g c =
    let shows = g.M.Machine.shows in
    let files = g.F.Files.shows c.args.files.now in
    record {
      outcome_is = λ s right.
          faulted_before shows s c.args.self.now files files.failures
          (faults_below (length c.args.self.now.nodes)
          (network_state shows c.args.self.now files)) right refl c.in-Some.fault
          c.in-Some.ensures.some;
      flows = λ s right forest. tt;
      sound = λ sound. refl;
    }

pub returns-in_default-vec-clause-outcome : goal.returns-in_default-vec-clause-outcome
returns-in_default-vec-clause-outcome g c =
    let shows = g.M.Machine.shows in
    let files = g.F.Files.shows c.args.files.now in
    record {
      outcome_is = λ s right.
          refused shows s c.args.self.now files files.failures
          (faults_below (length c.args.self.now.nodes)
          (network_state shows c.args.self.now files)) right;
      flows = λ s right forest. tt;
      sound = λ sound. refl;
    }

pub returns-clause-outcome : goal.returns-clause-outcome
returns-clause-outcome g c =
    let shows = g.M.Machine.shows in
    let old = c.args.self.now in
    let new = c.run_rounds.new.self in
    let before = g.F.Files.shows c.args.files.now in
    let after = g.F.Files.shows c.run_rounds.new.files in
    let faults = faults_below (length old.nodes) (network_state shows old before) in
    ok_map (EndsRounds shows old before new after) (EndsRun shows old before new after)
    (λ o over. record {
      outcome_is = λ s right. over.outcome_is s right before.failures faults (inl (omega arith));
      flows = λ s right forest.
          never_stalls s (rooms new) (network_run shows old before new after) (input_names new)
          (output_names new) o right.plan forest
          (over.outcome_is s right before.failures faults (inl (omega arith)));
      sound = over.sound;
    })
    c.run_rounds.result c.run_rounds.ensures.outcome

pub returns-in-Some-clause-ends : goal.returns-in-Some-clause-ends
returns-in-Some-clause-ends g c = λ s right. inr c.in-Some.ensures.some

pub returns-in_default-vec-clause-ends : goal.returns-in_default-vec-clause-ends
returns-in_default-vec-clause-ends g c = λ s right. inl (refl, c.fault.ensures.none c.in_default.is)

pub returns-clause-ends : goal.returns-clause-ends
returns-clause-ends g c = λ s right.
    let shows = g.M.Machine.shows in
    let old = c.args.self.now in
    let new = c.run_rounds.new.self in
    let before = g.F.Files.shows c.args.files.now in
    let after = g.F.Files.shows c.run_rounds.new.files in
    ok_map (EndsRounds shows old before new after) (EndsIn shows s new after)
    (λ o over. over.ends s right) c.run_rounds.result c.run_rounds.ensures.outcome

pub returns-in-Some-clause-truly : goal.returns-in-Some-clause-truly
returns-in-Some-clause-truly g c =
    λ s right before reach since.
    faulted_since g.M.Machine.shows s c.args.self.now (g.F.Files.shows c.args.files.now) before
    [] right since c.in-Some.fault c.in-Some.ensures.some

pub returns-in_default-vec-clause-truly : goal.returns-in_default-vec-clause-truly
returns-in_default-vec-clause-truly g c =
    λ s right before reach since. refused g.M.Machine.shows s c.args.self.now
    (g.F.Files.shows c.args.files.now) before [] right

pub returns-clause-truly : goal.returns-clause-truly
returns-clause-truly g c = λ s right before reach since.
    let new = c.run_rounds.new.self in
    let run = run_of new (g.F.Files.shows c.run_rounds.new.files) before [] in
    ok_map (EndsRounds g.M.Machine.shows c.args.self.now (g.F.Files.shows c.args.files.now) new
    (g.F.Files.shows c.run_rounds.new.files))
    (OutcomeIs s (rooms new) run (input_names new) (output_names new))
    (λ o over. over.outcome_is s right before [] reach) c.run_rounds.result
    c.run_rounds.ensures.outcome

pub returns-in-Some-clause-total : goal.returns-in-Some-clause-total
returns-in-Some-clause-total g c = λ s right contents agree enough. refl

pub returns-in_default-vec-clause-total : goal.returns-in_default-vec-clause-total
returns-in_default-vec-clause-total g c = λ s right contents agree enough. refl

pub returns-clause-total : goal.returns-clause-total
returns-clause-total g c = λ s right.
    let shows = g.M.Machine.shows in
    let before = g.F.Files.shows c.args.files.now in
    let after = g.F.Files.shows c.run_rounds.new.files in
    let keeps = c.run_rounds.ensures.keeps in
    ends_in_time shows s c.args.rounds c.args.self.now c.run_rounds.new.self before after right
    (keeps.right s right)
    c.run_rounds.result c.run_rounds.ensures.spent
