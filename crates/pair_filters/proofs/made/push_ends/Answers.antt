use Rattle.std.proofs.Common.{◌++◌, ◌∙◌, List, ℕ, ap, sym}
use Rattle.std.specs.List.{concat}
use Rattle.machine.specs.Pieces.{contents}
use Rattle.machine.proofs.Cuts.{contents_added}
use Rattle.pair_filters.proofs.lemmas.MadeLaws.{handed_on}
use Rattle.pair_filters.proofs.made.push_ends.Goals as goal

pub loop-piece-preserved : goal.loop-piece-preserved
loop-piece-preserved c =
    let l = c.loop-piece in
    handed_on (contents l.to) (contents c.push_piece.new.self) c.in-Some.piece
    (concat c.pop_front.new.self.items) (contents c.args.to.now ++ concat c.args.ends.now.items)
    (contents_added l.to c.push_piece.new.self c.in-Some.piece c.in_ok-push_piece.ensures.ok)
    (ap (λ (ps : List (List ℕ)). contents l.to ++ concat ps) (sym c.in-Some.ensures.items)
    ∙ l.invariant)
