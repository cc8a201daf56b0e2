use Rattle.std.proofs.Common.{◌++◌, ◌∙◌, List, ℕ, ap}
use Rattle.std.specs.List.{concat}
use Rattle.machine.specs.Pieces.{contents}
use Rattle.line_filters.proofs.lemmas.LongLaws.{line_out}
use Rattle.line_filters.proofs.long_lines.put_long.Goals as goal

pub returns-clause-ok : goal.returns-clause-ok
returns-clause-ok c =
    let front = c.cut_ends.new.line.items in
    line_out (contents c.args.out.now) (contents c.put.new.out)
    (contents c.put_pieces.new.out) front (concat c.in_ok-ends.ends.items) c.args.line.now.items
    (c.in_ok-put.ensures.ok
    ∙ ap (λ (x : List ℕ). contents c.args.out.now ++ x) c.deref.ensures.value)
    c.in_ok-put_pieces.ensures.ok c.in_ok-ends.ensures
