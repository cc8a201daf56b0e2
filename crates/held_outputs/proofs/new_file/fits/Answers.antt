use Rattle.held_outputs.proofs.lemmas.Touches.{touched}
use Rattle.held_outputs.proofs.new_file.fits.Goals as goal

pub returns-in-Err : goal.returns-in-Err
returns-in-Err g c = record {
  others = λ known. (touched c.args.name.now (g.D.Folder.shows c.args.disk.now) (g.D.Folder.shows c.remove.new.self) (g.D.Folder.moments known c.args.disk.now)
      (c.remove.ensures.touches known) (c.remove.ensures.looks known) (c.remove.ensures.loses known));
}
