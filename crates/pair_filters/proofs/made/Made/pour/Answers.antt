use Rattle.std.proofs.Common.{◌++◌, ◌∙◌, List, ℕ, ap}
use Rattle.machine.specs.Pieces.{contents}
use Rattle.machine.proofs.Cuts.{contents_added}
use Rattle.pair_filters.proofs.lemmas.MadeLaws.{handed_two}
use Rattle.pair_filters.proofs.made.Made.pour.Goals as goal

pub returns-clause-ok : goal.returns-clause-ok
returns-clause-ok c =
    let m = c.self.inside in
    let last = c.push_bytes.new.self in
    handed_two (contents c.args.out.now) (contents c.push_all.new.to) (contents last)
    (contents m.before) m.last c.in_ok-push_all.ensures.ok
    (contents_added c.push_all.new.to last c.bytes.result.now c.in_ok-push_bytes.ensures.ok
    ∙ ap (λ (x : List ℕ). contents c.push_all.new.to ++ x) c.bytes.ensures)
    ∙ ap (λ (x : List ℕ). contents c.args.out.now ++ x) c.self.view_is
