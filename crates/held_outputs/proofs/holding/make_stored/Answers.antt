use Rattle.std.proofs.Common.{◌≢◌}
use Rattle.folders.proofs.Alone.{alone_further}
use Rattle.held_outputs.proofs.lemmas.Touches.{nothing_alone}
use Rattle.held_outputs.proofs.holding.make_stored.Goals as goal

pub returns-in_err-keep : goal.returns-in_err-keep
returns-in_err-keep g c = record {
  others = λ known. nothing_alone (λ n. n ≢ c.args.names.now.new) (g.D.Folder.shows c.args.disk.now) (g.D.Folder.shows c.keep.new.disk) (g.D.Folder.moments known c.args.disk.now) (c.keep.ensures known);
}

pub returns : goal.returns
returns g c = record {
  others = λ known. alone_further (g.D.Folder.moments known c.keep.new.disk)
      (nothing_alone (λ n. n ≢ c.args.names.now.new) (g.D.Folder.shows c.args.disk.now) (g.D.Folder.shows c.keep.new.disk) (g.D.Folder.moments known c.args.disk.now) (c.keep.ensures known))
      (c.make.ensures.others known);
}
