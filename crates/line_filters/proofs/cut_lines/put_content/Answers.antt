use Rattle.std.proofs.Common.{◌∙◌, ◌++◌, ◌∷◌, [], cond, ap, List, ℕ}
use Rattle.machine.specs.Lines.{newline}
use Rattle.commands.specs.Selections.{is_selected}
use Rattle.line_filters.proofs.lemmas.CutLaws.{none_put}
use Rattle.line_filters.proofs.cut_lines.put_content.Goals as goal

pub returns-then-is_without : goal.returns-then-is_without
returns-then-is_without c =
    none_put (is_selected c.args.ranges.now.ranges.items) c.args.content.byte c.args.only_delimited
    c.args.content.bytes c.args.made.now c.put_whole.new.made
    (c.is_without.ensures c.if-is_without.true)
    (c.in_ok-put_whole.ensures
    ∙ ap (λ (x : List ℕ). c.args.made.now ++ cond c.args.only_delimited [] (x ++ newline ∷ []))
    c.content.ensures)
