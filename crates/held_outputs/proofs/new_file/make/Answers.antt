use Rattle.folders.proofs.Alone.{alone_further}
use Rattle.held_outputs.proofs.new_file.make.Goals as goal

pub returns-in_err-made : goal.returns-in_err-made
returns-in_err-made g c = record {
  others = λ known. (alone_further (g.D.Folder.moments known c.rights_for.new.disk)
      (c.rights_for.ensures.others known)
      (c.made.ensures.others known));
}

pub returns-in_err-fits : goal.returns-in_err-fits
returns-in_err-fits g c = record {
  others = λ known. (alone_further (g.D.Folder.moments known c.made.new.disk)
      (alone_further (g.D.Folder.moments known c.rights_for.new.disk)
      (c.rights_for.ensures.others known)
      (c.made.ensures.others known))
      (c.fits.ensures.others known));
}

pub returns : goal.returns
returns g c = record {
  others = λ known. (alone_further (g.D.Folder.moments known c.made.new.disk)
      (alone_further (g.D.Folder.moments known c.rights_for.new.disk)
      (c.rights_for.ensures.others known)
      (c.made.ensures.others known))
      (c.fits.ensures.others known));
}
