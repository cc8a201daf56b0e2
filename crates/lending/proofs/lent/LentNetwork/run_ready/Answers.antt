use Rattle.std.proofs.Common.{refl, sym, subst}
use Rattle.collector.specs.Files.{FilesShown}
use Rattle.networks.specs.Networks.{HasOpened}
use Rattle.lending.specs.inner.Loans.{RunsHere}
use Rattle.lending.specs.declared.apart.Flow.TheVariants as flow
use Rattle.lending.proofs.StepLaws.{steps_refl}
use Rattle.lending.proofs.lent.LentNetwork.run_ready.Goals as goal

pub run_here-requires : goal.run_here-requires
run_here-requires g c =
    record {
      opened = subst (λ (f : FilesShown). HasOpened c.args.self.now f)
          (sym c.has_waiting.ensures) c.requires.opened;
    }

pub returns-then-has_waiting : goal.returns-then-has_waiting
returns-then-has_waiting g c =
    subst (λ (f : FilesShown). RunsHere g.M.Machine.shows f
    (g.F.Files.shows c.run_here.new.files) c.args.self.now c.run_here.new.self
    c.run_here.result) c.has_waiting.ensures c.run_here.ensures

pub returns-else-has_waiting : goal.returns-else-has_waiting
returns-else-has_waiting g c =
    let now = g.F.Files.shows c.args.files.now in
    let same : RunsHere g.M.Machine.shows now now c.args.self.now c.args.self.now flow.Quiet =
    record {
      runs = record {
        steps = steps_refl g.M.Machine.shows now c.args.self.now.nodes;
        tables =
            refl;
        opened = c.requires.opened;
      };
      sound = λ ne. refl;
      failed = λ e. absurd (cc e);
    } in
    subst (λ (f : FilesShown). RunsHere g.M.Machine.shows now f c.args.self.now c.args.self.now
    flow.Quiet) (sym c.has_waiting.ensures) same
