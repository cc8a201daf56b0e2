use Rattle.folders.proofs.Alone.{alone_none, alone_further}
use Rattle.std.proofs.Common.{◌≢◌}
use Rattle.held_outputs.proofs.new_file.made.Goals as goal

pub loop-init : goal.loop-init
loop-init g c known = alone_none (λ n. n ≢ c.args.name.now) (g.D.Folder.shows c.args.disk.now) (g.D.Folder.moments known c.args.disk.now)

pub returns-in_err-is_made : goal.returns-in_err-is_made
returns-in_err-is_made g c = record {
  others = λ known. alone_further (g.D.Folder.moments known c.loop.disk) (c.loop.invariant known) (c.is_made.ensures.others known);
}

pub returns-then-branch : goal.returns-then-branch
returns-then-branch g c = record {
  others = λ known. alone_further (g.D.Folder.moments known c.loop.disk) (c.loop.invariant known) (c.is_made.ensures.others known);
}

pub loop-preserved : goal.loop-preserved
loop-preserved g c known = alone_further (g.D.Folder.moments known c.loop.disk) (c.loop.invariant known) (c.is_made.ensures.others known)
