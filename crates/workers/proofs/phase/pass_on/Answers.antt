use Rattle.std.proofs.Common.{sym, subst}
use Rattle.collector.specs.Files.{FilesShown}
use Rattle.networks.specs.Networks.{HasOpened}
use Rattle.workers.specs.inner.Phases.{RunsPhase}
use Rattle.workers.proofs.lemmas.Phases.{here_whole, here_ran}
use Rattle.workers.proofs.phase.pass_on.Goals as goal

pub settle-requires-clause-whole : goal.settle-requires-clause-whole
settle-requires-clause-whole g c =
    let e = c.run_some-flow.ensures in
    here_whole g.M.Machine.shows (g.F.Files.shows c.look_first-before.new.files)
    (g.F.Files.shows c.run_some-flow.new.files) c.args.phase.network c.new-here.result
    c.run_some-flow.new.here c.new-here.ensures.same c.new-here.ensures.joined e.runs
    c.new.result.items c.new.ensures.items

pub returns : goal.returns
returns g c =
    let shows = g.M.Machine.shows in
    let first = g.F.Files.shows c.args.files.now in
    let looked = g.F.Files.shows c.look_first-before.new.files in
    let ran = g.F.Files.shows c.run_some-flow.new.files in
    let old = c.args.phase.network in
    let e = c.run_some-flow.ensures in
    let opened = subst (λ (f : FilesShown). HasOpened old f)
    (sym c.look_first-before.ensures) c.requires.opened in
    let phase = here_ran shows looked ran old c.new-here.result c.run_some-flow.new.here
    c.new-here.ensures.same c.new-here.ensures.joined e.runs c.new.result.items
    c.new.ensures.items
    opened c.run_some-flow.result e.sound e.failed c.settle.result c.settle.ensures.settled
    c.settle.ensures.opened c.settle.ensures.right in
    subst (λ (f : FilesShown). RunsPhase shows old first c.settle.result f)
    (sym c.prepare_reads-may_read.ensures)
    (subst (λ (f : FilesShown). RunsPhase shows old f c.settle.result ran)
    c.look_first-before.ensures phase)
