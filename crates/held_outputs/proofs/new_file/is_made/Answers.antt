use Rattle.folders.proofs.Alone.{alone_further}
use Rattle.held_outputs.proofs.lemmas.Touches.{touched}
use Rattle.held_outputs.proofs.new_file.is_made.Goals as goal

pub returns-in_err-remove_left-in-Err-Refused-Some-eq17 : goal.returns-in_err-remove_left-in-Err-Refused-Some-eq17
returns-in_err-remove_left-in-Err-Refused-Some-eq17 g c = record {
  others = λ known. (alone_further (g.D.Folder.moments known c.create.new.self)
      (touched c.args.name.now (g.D.Folder.shows c.args.disk.now) (g.D.Folder.shows c.create.new.self) (g.D.Folder.moments known c.args.disk.now)
      (c.create.ensures.touches known) (c.create.ensures.looks known) (c.create.ensures.loses known))
      (c.remove_left.ensures.others known));
}

pub returns-in-Ok : goal.returns-in-Ok
returns-in-Ok g c = record {
  others = λ known. (alone_further (g.D.Folder.moments known c.create.new.self)
      (touched c.args.name.now (g.D.Folder.shows c.args.disk.now) (g.D.Folder.shows c.create.new.self) (g.D.Folder.moments known c.args.disk.now)
      (c.create.ensures.touches known) (c.create.ensures.looks known) (c.create.ensures.loses known))
      (c.is_locked.ensures.others known));
}

pub returns-in_ok-remove_left-in-Err-Refused-Some-eq17 : goal.returns-in_ok-remove_left-in-Err-Refused-Some-eq17
returns-in_ok-remove_left-in-Err-Refused-Some-eq17 g c = record {
  others = λ known. (alone_further (g.D.Folder.moments known c.create.new.self)
      (touched c.args.name.now (g.D.Folder.shows c.args.disk.now) (g.D.Folder.shows c.create.new.self) (g.D.Folder.moments known c.args.disk.now)
      (c.create.ensures.touches known) (c.create.ensures.looks known) (c.create.ensures.loses known))
      (c.remove_left.ensures.others known));
}

pub returns-in-Err : goal.returns-in-Err
returns-in-Err g c = record {
  others = λ known. (touched c.args.name.now (g.D.Folder.shows c.args.disk.now) (g.D.Folder.shows c.create.new.self) (g.D.Folder.moments known c.args.disk.now)
      (c.create.ensures.touches known) (c.create.ensures.looks known) (c.create.ensures.loses known));
}
