use Rattle.std.proofs.Common.{◌++◌, ◌∙◌, List, ℕ, ap}
use Rattle.std.specs.List.{concat}
use Rattle.machine.specs.Pieces.{contents}
use Rattle.machine.proofs.Cuts.{contents_added}
use Rattle.pair_filters.proofs.lemmas.MadeLaws.{line_added}
use Rattle.pair_filters.proofs.made.push_long.Goals as goal

pub returns : goal.returns
returns c =
    let to1 = c.push_bytes.new.self in
    let front = c.cut_ends.new.line.items in
    line_added (contents c.args.to.now) (contents to1) (contents c.push_ends.new.to) front
    (concat c.in_ok-ends.ends.items) c.args.line.items
    (contents_added c.args.to.now to1 c.as_slice.result.now c.in_ok-push_bytes.ensures.ok
    ∙ ap (λ (x : List ℕ). contents c.args.to.now ++ x) c.as_slice.ensures.value)
    c.in_ok-push_ends.ensures c.in_ok-ends.ensures
