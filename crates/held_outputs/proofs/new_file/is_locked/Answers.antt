use Rattle.std.proofs.Common.{◌≢◌}
use Rattle.held_outputs.proofs.lemmas.Touches.{touched, nothing_alone}
use Rattle.held_outputs.proofs.new_file.is_locked.Goals as goal

pub returns-in-Lost : goal.returns-in-Lost
returns-in-Lost g c = record {
  others = λ known. (nothing_alone (λ n. n ≢ c.args.name.now) (g.D.Folder.shows c.args.disk.now) (g.D.Folder.shows c.let_go.new.self) (g.D.Folder.moments known c.args.disk.now) (c.let_go.ensures known));
}

pub returns-in-None : goal.returns-in-None
returns-in-None g c = record {
  others = λ known. (touched c.args.name.now (g.D.Folder.shows c.args.disk.now) (g.D.Folder.shows c.remove.new.self) (g.D.Folder.moments known c.args.disk.now)
      (c.remove.ensures.touches known) (c.remove.ensures.looks known) (c.remove.ensures.loses known));
}
