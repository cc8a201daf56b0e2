use Rattle.folders.proofs.Alone.{alone_further}
use Rattle.held_outputs.proofs.lemmas.Touches.{touched}
use Rattle.held_outputs.proofs.new_file.rights_of_new.Goals as goal

pub returns-then-is_err : goal.returns-then-is_err
returns-then-is_err g c = record {
  others = λ known. (alone_further (g.D.Folder.moments known c.made.new.disk)
      (c.made.ensures.others known)
      (touched c.args.name.now (g.D.Folder.shows c.made.new.disk) (g.D.Folder.shows c.remove.new.self) (g.D.Folder.moments known c.made.new.disk)
      (c.remove.ensures.touches known) (c.remove.ensures.looks known) (c.remove.ensures.loses known)));
}

pub returns : goal.returns
returns g c = record {
  others = λ known. (alone_further (g.D.Folder.moments known c.made.new.disk)
      (c.made.ensures.others known)
      (touched c.args.name.now (g.D.Folder.shows c.made.new.disk) (g.D.Folder.shows c.remove.new.self) (g.D.Folder.moments known c.made.new.disk)
      (c.remove.ensures.touches known) (c.remove.ensures.looks known) (c.remove.ensures.loses known)));
}
