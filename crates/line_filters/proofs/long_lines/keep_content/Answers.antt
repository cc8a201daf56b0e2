use Rattle.std.proofs.Common.{◌≡◌, false, eqb, [], List, ℕ, subst}
use Rattle.std.specs.List.{All}
use Rattle.machine.specs.inner.Places.{FirstFrom}
use Rattle.commands.specs.Selections.{is_selected}
use Rattle.line_filters.proofs.lemmas.CutLaws.{fields_put, none_put}
use Rattle.line_filters.proofs.long_lines.keep_content.Goals as goal

pub returns-in_ok-append_byte-in-Some : goal.returns-in_ok-append_byte-in-Some
returns-in_ok-append_byte-in-Some c =
    let old = c.args.line.now.items in
    fields_put (is_selected c.args.ranges.now.ranges.items) c.args.delimiter c.args.only_delimited
    old [] c.keep_fields.new.content.items c.append_byte.new.to.items c.in-Some.field-0
    (subst (λ (x : List ℕ). FirstFrom x c.args.delimiter 0 c.in-Some.field-0) c.deref.ensures.value
    c.in-Some.ensures)
    c.in_ok-keep_fields-in-Some.ensures c.in_ok-append_byte-in-Some.ensures

pub returns-in_ok-keep_whole-in-None : goal.returns-in_ok-keep_whole-in-None
returns-in_ok-keep_whole-in-None c =
    none_put (is_selected c.args.ranges.now.ranges.items) c.args.delimiter c.args.only_delimited
    c.args.line.now.items [] c.keep_whole.new.line.items
    (subst (λ (x : List ℕ). All (λ y. eqb y c.args.delimiter ≡ false) x) c.deref.ensures.value
    c.in-None.ensures)
    c.in_ok-keep_whole-in-None.ensures
