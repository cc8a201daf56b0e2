use Rattle.std.proofs.Common.{length}
use Rattle.networks.specs.Networks.{network_state}
use Rattle.networks.specs.Turns.{faults_below}
use Rattle.networks.proofs.EndLaws.{begins, finished_each}
use Rattle.networks.proofs.lemmas.FairLaws.{ends_fairly}
use Rattle.networks.proofs.network.Network.run_schedule.Goals as goal

pub returns-clause-outputs : goal.returns-clause-outputs
returns-clause-outputs g c =
    let shows = g.M.Machine.shows in
    let files = g.F.Files.shows c.args.files.now in
    let later = g.F.Files.shows c.step_all-moved.new.files in
    let faults = faults_below (length c.args.self.now.nodes)
    (network_state shows c.args.self.now files) in
    let keeps = c.step_all-moved.ensures.keeps in
    let iff = c.is_done.ensures in
    record {
      begins = λ s right. begins shows s c.step_all-moved.new.self later files.failures faults
          (keeps.right s right);
      whole = λ s right done. finished_each shows s c.step_all-moved.new.self later files.failures
          faults (keeps.right s right) (iff.0 done);
    }

pub returns-clause-fair : goal.returns-clause-fair
returns-clause-fair g c = λ s right.
    ends_fairly g.M.Machine.shows s c.args.nodes.now c.args.self.now c.step_all-moved.new.self
    (g.F.Files.shows c.args.files.now) (g.F.Files.shows c.step_all-moved.new.files)
    c.step_all-moved.ensures.steps right
