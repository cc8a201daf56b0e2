use Rattle.std.proofs.Common.{rules, ◌≡◌, ℕ, List, ◌∙◌, subst}
use Rattle.machine.specs.FrontLines.{first_lines, FrontLines}
use Rattle.file_stores.proofs.lemmas.Fronts.{front_whole}
use Rattle.file_stores.proofs.opened.OpenInput.leave_rest.Goals as goal

pub returns-clause-after : goal.returns-clause-after
returns-clause-after c =
    let bytes = c.self.inside.content.items in
    let end = c.front_lines-end.result.0 in
    let left = c.front_lines-end.result.1 in
    let kept : c.truncate.new.self.items ≡ first_lines c.args.lines bytes =
    c.truncate.ensures.items
    ∙ front_whole bytes c.args.lines end left
    (subst (λ (x : List ℕ). FrontLines x c.args.lines end left) c.as_slice.ensures.value
    c.front_lines-end.ensures) in
    search rules
