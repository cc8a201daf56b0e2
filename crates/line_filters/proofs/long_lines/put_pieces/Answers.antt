use Rattle.std.proofs.Common.{◌++◌, ◌∙◌, List, ℕ, ap, sym}
use Rattle.std.specs.List.{concat}
use Rattle.machine.specs.Pieces.{contents}
use Rattle.line_filters.proofs.lemmas.LongLaws.{handed_on}
use Rattle.line_filters.proofs.long_lines.put_pieces.Goals as goal

pub loop-piece-preserved : goal.loop-piece-preserved
loop-piece-preserved c =
    let l = c.loop-piece in
    record {
      moved =
          handed_on (contents l.out) (contents c.put_piece.new.out) c.in-Some.piece
          (concat c.pop_front.new.self.items)
          (contents c.args.out.now ++ concat c.args.pieces.now.items)
          c.in_ok-put_piece.ensures.ok
          (ap (λ (ps : List (List ℕ)). contents l.out ++ concat ps) (sym c.in-Some.ensures.items)
          ∙ l.invariant.moved);
      block = c.put_piece.ensures.block ∙ l.invariant.block;
    }
