use Rattle.std.proofs.Common.{◌∙◌, ◌≡◌, List, ℕ, subst}
use Rattle.std.specs.List.{join_with_byte}
use Rattle.commands.specs.Cut.{fields}
use Rattle.commands.specs.Selections.{is_selected, selected}
use Rattle.line_filters.specs.inner.Stretches.{kept_of}
use Rattle.line_filters.proofs.stretches.keep_fields.Goals as goal

pub returns : goal.returns
returns c =
    let d = c.args.delimiter in
    let ss = c.find_fields.new.stretches.items in
    c.keep.ensures
    ∙ subst (λ (x : List ℕ). kept_of ss x ≡ join_with_byte d
    (selected (is_selected c.args.ranges.now.ranges.items) (fields d x))) (c.whole-whole.ensures
    ∙ c.deref.ensures.value) c.in_ok-find_fields.ensures.fields
