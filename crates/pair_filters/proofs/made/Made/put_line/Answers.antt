use Rattle.std.proofs.Common.{◌++◌, ◌∙◌, List, ℕ, ap}
use Rattle.machine.specs.Pieces.{contents}
use Rattle.machine.proofs.Cuts.{contents_added}
use Rattle.pair_filters.proofs.lemmas.MadeLaws.{line_put}
use Rattle.pair_filters.proofs.made.Made.put_line.Goals as goal

pub returns : goal.returns
returns c =
    let m = c.self.inside in
    let line = c.args.line.items in
    let before1 = c.push_bytes.new.self in
    let before2 = contents c.push_long.new.to in
    ap (λ (x : List ℕ). before2 ++ x) c.clear.ensures
    ∙ (line_put (contents m.before) m.last line (contents before1) before2
    (contents_added m.before before1 c.bytes.result.now c.in_ok-push_bytes.ensures.ok
    ∙ ap (λ (x : List ℕ). contents m.before ++ x) c.bytes.ensures)
    c.in_ok-push_long.ensures
    ∙ ap (λ (x : List ℕ). x ++ line) c.self.view_is)
