use Rattle.std.proofs.Common.{◌∙◌, ◌++◌, ◌∷◌, [], cond, ap, List, ℕ}
use Rattle.machine.specs.Lines.{newline}
use Rattle.commands.specs.Selections.{is_selected}
use Rattle.line_filters.proofs.lemmas.CutLaws.{none_put}
use Rattle.line_filters.proofs.lemmas.WalkedLaws.{none_of}
use Rattle.line_filters.proofs.cut_content.write_fields.Goals as goal

pub returns-in_ok-put_whole-in-None : goal.returns-in_ok-put_whole-in-None
returns-in_ok-put_whole-in-None c =
    none_put (is_selected c.args.ranges.now.ranges.items) c.args.content.byte c.args.only_delimited
    c.args.content.bytes c.args.made.now c.put_whole.new.made
    (none_of c.walk-walk.result c.args.content.bytes c.args.content.byte c.walk-walk.ensures
    c.in-None.ensures.place)
    (c.in_ok-put_whole-in-None.ensures
    ∙ ap (λ (x : List ℕ). c.args.made.now ++ cond c.args.only_delimited [] (x ++ newline ∷ []))
    c.content-bytes.ensures)
