use Rattle.std.proofs.Common.{◌++◌, ◌∙◌, List, ℕ, ap, sym}
use Rattle.std.specs.List.{concat}
use Rattle.machine.specs.Pieces.{contents}
use Rattle.machine.proofs.Cuts.{contents_added}
use Rattle.pair_filters.proofs.lemmas.MadeLaws.{handed_on}
use Rattle.pair_filters.proofs.made.push_all.Goals as goal

pub loop-piece-preserved : goal.loop-piece-preserved
loop-piece-preserved c =
    let l = c.loop-piece in
    let adds = c.in_ok-push_piece.ensures.ok in
    record {
      moved =
          handed_on (contents l.to) (contents c.push_piece.new.self) c.in-Some.piece
          (contents c.pop_front.new.self) (contents c.args.to.now ++ contents c.args.from.now)
          (contents_added l.to c.push_piece.new.self c.in-Some.piece adds)
          (ap (λ (ps : List (List ℕ)). contents l.to ++ concat ps) (sym c.in-Some.ensures.some)
          ∙ l.invariant.moved);
      block = adds.block ∙ l.invariant.block;
    }
