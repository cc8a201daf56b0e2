use Rattle.machine.specs.Pieces.{Adds, contents}
use Rattle.std.proofs.Common.{◌∙◌, ◌++◌, [], ap, List, ℕ, refl, subst}
use Rattle.machine.proofs.Cuts.{contents_added}
use Rattle.line_filters.specs.CutLeft.{cut_input, cut_left}
use Rattle.commands.specs.Selections.{is_selected}
use Rattle.line_filters.proofs.lemmas.ByLineLaws.{input_closes}
use Rattle.line_filters.proofs.lemmas.NewLaws.{no_input}
use Rattle.line_filters.proofs.cut.CutMachine.close.Goals as goal

pub returns-clause-ok : goal.returns-clause-ok
returns-clause-ok c =
    let m = c.args.self.now in
    let s = is_selected m.ranges.ranges.items in
    let left = cut_left s m.parts m.partial.items m.passed in
    let left1 = cut_left s m.parts c.put_long_last.new.partial.items m.passed in
    let left2 = cut_left s m.parts c.put_last.new.partial.items c.put_last.new.passed in
    let out1 = c.put_long_last.new.out in
    let out2 = c.push_bytes.new.self in
    rw c.next.ensures
    (input_closes (cut_input s m.parts) left left2 m.inputs.at m.inputs.presence c.args._input
    (left []) c.args.out.now out2 c.requires
    refl
    c.in_ok-put_last.ensures.none (no_input s m.parts)
    (contents_added out1 out2 c.put_last.new.made
    (subst (λ (x : List ℕ). Adds out1 out2 x) c.bytes.ensures c.in_ok-push_bytes.ensures.ok)
    ∙ (ap (λ (x : List ℕ). contents out1 ++ x) (c.in_ok-put_last.ensures.made
    ∙ ap (λ (x : List ℕ). x ++ left1 []) c.clear.ensures)
    ∙ c.in_ok-put_long_last.ensures.ok m.passed)))
