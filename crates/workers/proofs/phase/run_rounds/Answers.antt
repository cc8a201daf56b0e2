use Rattle.std.proofs.Common.{refl, ap, rules, ◌∙◌}
use Rattle.collector.specs.Files.{FilesShown}
use Rattle.workers.proofs.lemmas.Phases.{rounds_none, rounds_more, rounds_seen}
use Rattle.workers.proofs.phase.run_rounds.Goals as goal

pub loop-init : goal.loop-init
loop-init g c =
    record {
      runs = rounds_none g.M.Machine.shows
          (g.F.Files.shows c.args.files.now) c.args.network.now c.requires.opened;
      sound = refl;
    }

pub run_here-flow-requires : goal.run_here-flow-requires
run_here-flow-requires g c = record { opened = c.loop.invariant.runs.opened }

pub returns-in-Failed : goal.returns-in-Failed
returns-in-Failed g c =
    let e = c.run_here-flow.ensures in
    record {
      runs = rounds_more g.M.Machine.shows (g.F.Files.shows c.args.files.now)
          (g.F.Files.shows c.loop.files) (g.F.Files.shows c.run_here-flow.new.files)
          c.args.network.now c.loop.network c.run_here-flow.new.self c.loop.invariant.runs e.runs;
      same = search rules;
      failed = search rules;
    }

pub returns-then-last : goal.returns-then-last
returns-then-last g c =
    let e = c.run_here-flow.ensures in
    let seen = c.longest_nap-nap.ensures in
    record {
      runs = rounds_seen g.M.Machine.shows (g.F.Files.shows c.args.files.now)
          (g.F.Files.shows c.loop.files) (g.F.Files.shows c.run_here-flow.new.files)
          (g.F.Files.shows c.longest_nap-nap.new.files) c.args.network.now c.loop.network
          c.run_here-flow.new.self seen c.loop.invariant.runs e.runs;
      same = λ _. ap (λ (f : FilesShown). f.failures) seen
          ∙ (e.sound (search rules) ∙ c.loop.invariant.sound);
      failed = search rules;
    }

pub loop-preserved : goal.loop-preserved
loop-preserved g c =
    let e = c.run_here-flow.ensures in
    let seen = c.longest_nap-nap.ensures in
    record {
      runs = rounds_seen g.M.Machine.shows (g.F.Files.shows c.args.files.now)
          (g.F.Files.shows c.loop.files) (g.F.Files.shows c.run_here-flow.new.files)
          (g.F.Files.shows c.longest_nap-nap.new.files) c.args.network.now c.loop.network
          c.run_here-flow.new.self seen c.loop.invariant.runs e.runs;
      sound = ap (λ (f : FilesShown). f.failures) seen
          ∙ (e.sound (search rules) ∙ c.loop.invariant.sound);
    }
