use Rattle.std.proofs.Common.{◌∙◌, ap, length, arith, ◌≡◌, leb}
use Rattle.line_filters.proofs.lemmas.HeadLaws.{head_new}
use Rattle.line_filters.proofs.head.Head.new.Goals as goal

pub returns : goal.returns
returns c =
    let names = c.args.spec.now.inputs in
    let held : c.in_ok-names.names.items ≡ names = c.in_ok-names.ensures ∙ c.as_slice.ensures in
    let long : length names ≡ c.len-titled.result =
    omega (arith, ap length held, c.len-titled.ensures, c.in_ok-names.names.ok) in
    head_new c.args.spec.now.count (leb 2 c.len-titled.result) names c.in_ok-names.names.items
    c.in_ok-from_slice.field-0.items c.args.inputs.now c.in_ok-closed.closed.items held
    c.in_ok-from_slice.ensures.items c.requires (ap (leb 2) long) c.in_ok-closed.ensures
