use Rattle.plrun.proofs.lemmas.CommandLaws.{nothing_done}
use Rattle.plrun.proofs.process.Process.begin.Goals as goal

pub returns-in-Err-clause-ends : goal.returns-in-Err-clause-ends
returns-in-Err-clause-ends g c =
    nothing_done g.F.Files.contents_known (g.H.HandsWords.words c.args.from.now)
    (g.H.HandsWords.options c.args.from.now)
    (record {
      files = g.F.Files.shows c.args.files.now;
      folders = g.D.EntersFolder.folders c.args.folder.now;
      gone = g.F.RunFiles.gone c.args.files.now;
      failed = g.P.Report.failed c.args.file.now;
      looks = g.L.LooksAtFiles.looks c.args.look.now;
    }) c.not_read.result c.not_read.ensures
