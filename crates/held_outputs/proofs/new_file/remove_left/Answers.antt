use Rattle.std.proofs.Common.{◌≢◌}
use Rattle.held_outputs.proofs.lemmas.Touches.{alone_touched, nothing_alone}
use Rattle.held_outputs.proofs.new_file.remove_left.Goals as goal

pub returns-in_err-take_over : goal.returns-in_err-take_over
returns-in_err-take_over g c = record {
  others = λ known. nothing_alone (λ n. n ≢ c.args.name.now) (g.D.Folder.shows c.args.disk.now)
      (g.D.Folder.shows c.take_over.new.self) (g.D.Folder.moments known c.args.disk.now) (c.take_over.ensures known);
}

pub returns-then-is_err : goal.returns-then-is_err
returns-then-is_err g c = record {
  others = λ known. alone_touched c.args.name.now (g.D.Folder.shows c.args.disk.now) (g.D.Folder.shows c.take_over.new.self)
      (g.D.Folder.shows c.remove.new.self) (g.D.Folder.moments known c.args.disk.now) (g.D.Folder.moments known c.take_over.new.self)
      (c.take_over.ensures known) (c.remove.ensures.touches known) (c.remove.ensures.looks known) (c.remove.ensures.loses known);
}

pub returns-else-is_err : goal.returns-else-is_err
returns-else-is_err g c = record {
  others = λ known. alone_touched c.args.name.now (g.D.Folder.shows c.args.disk.now) (g.D.Folder.shows c.take_over.new.self)
      (g.D.Folder.shows c.remove.new.self) (g.D.Folder.moments known c.args.disk.now) (g.D.Folder.moments known c.take_over.new.self)
      (c.take_over.ensures known) (c.remove.ensures.touches known) (c.remove.ensures.looks known) (c.remove.ensures.loses known);
}
