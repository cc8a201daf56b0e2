use Rattle.std.proofs.Common.{length, refl, inl, inr, [], ⊎_elim, arith}
use Rattle.std.specs.Prelude.{◌⊎◌}
use Rattle.networks.specs.Networks.{network_state}
use Rattle.networks.specs.Turns.{EndsIn, IsUntold, faults_below}
use Rattle.networks.proofs.EndLaws.{ok_map, refused}
use Rattle.networks.proofs.FaultLaws.{failed_or_not}
use Rattle.networks.proofs.Kept.{grown_keeps_refl}
use Rattle.networks.proofs.network.Network.run_in_turn.Goals as goal

pub returns-in_default-clause-keeps : goal.returns-in_default-clause-keeps
returns-in_default-clause-keeps g c = grown_keeps_refl g.M.Machine.shows c.args.self.now
    (g.F.Files.shows c.args.files.now)

pub returns-in_default-clause-turns : goal.returns-in_default-clause-turns
returns-in_default-clause-turns g c = λ s right. (0, omega arith, (refl, refl))

pub returns-in_default-clause-outcome : goal.returns-in_default-clause-outcome
returns-in_default-clause-outcome g c =
    let shows = g.M.Machine.shows in
    let files = g.F.Files.shows c.args.files.now in
    record {
      outcome_is = λ s right.
          refused shows s c.args.self.now files files.failures
          (faults_below (length c.args.self.now.nodes)
          (network_state shows c.args.self.now files)) right;
      flows = λ s right forest. tt;
      sound = λ sound. refl;
    }

pub returns-in_default-clause-ends : goal.returns-in_default-clause-ends
returns-in_default-clause-ends g c = λ s right.
    ⊎_elim (λ none. inr (inl (refl, none))) (λ any. inl (any, refl)) (failed_or_not c.args.self.now)

pub returns-in_default-clause-truly : goal.returns-in_default-clause-truly
returns-in_default-clause-truly g c =
    λ s right before reach since. refused g.M.Machine.shows s c.args.self.now
    (g.F.Files.shows c.args.files.now) before [] right

pub returns-in_default-clause-total : goal.returns-in_default-clause-total
returns-in_default-clause-total g c = λ s right contents agree enough. refl

pub returns-clause-ends : goal.returns-clause-ends
returns-clause-ends g c = λ s right.
    let ends = EndsIn g.M.Machine.shows s c.run_in_turn_with.new.self
    (g.F.Files.shows c.run_in_turn_with.new.files) in
    ok_map ends (λ o. IsUntold c.args.self.now o ⊎ ends o)
    (λ o end. inr end) c.run_in_turn_with.result (c.run_in_turn_with.ensures.ends s right)
