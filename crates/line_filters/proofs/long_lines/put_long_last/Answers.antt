use Rattle.std.proofs.Common.{◌≡◌, ◌++◌, [], ℕ, subst, sym}
use Rattle.std.specs.Prelude.{OnOk}
use Rattle.machine.specs.Pieces.{contents}
use Rattle.commands.specs.declared.cut_words.Parts.{Parts}
use Rattle.commands.specs.Selections.{is_selected}
use Rattle.line_filters.specs.CutLeft.{cut_left}
use Rattle.line_filters.proofs.long_lines.put_long_last.Goals as goal

pub returns-in-Fields-clause-ok : goal.returns-in-Fields-clause-ok
returns-in-Fields-clause-ok c =
    let s = is_selected c.args.ranges.now.ranges.items in
    subst (λ (p : Parts). OnOk c.put_last_fields.result ((passed : ℕ)
    → contents c.put_last_fields.new.out
    ++ cut_left s p c.put_last_fields.new.partial.items passed []
    ≡ contents c.args.out.now ++ cut_left s p c.args.partial.now.items passed []))
    (sym c.in-Fields.is) c.put_last_fields.ensures.ok
