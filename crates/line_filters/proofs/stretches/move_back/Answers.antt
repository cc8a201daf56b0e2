use Rattle.std.proofs.Common.{◌≡◌, ◌∙◌, ◌+◌, ◌-◌, ℕ, take, drop, ap, sym, arith, length-drop}
use Rattle.std.proofs.lemmas.List.{drop-drop}
use Rattle.std.proofs.lemmas.List.Edits.{take-paste, drop-paste}
use Rattle.line_filters.proofs.stretches.move_back.Goals as goal

pub returns-clause-moved : goal.returns-clause-moved
returns-clause-moved c =
    let old = c.args.content.now.items in
    let n = c.args.end - c.args.from in
    ap (take (c.args.to + n)) c.copy_within.ensures.items
    ∙ take-paste old c.args.to (drop c.args.from old) n (omega (arith, c.requires))
    (omega (arith, c.requires, length-drop c.args.from old))

pub returns-clause-rest : goal.returns-clause-rest
returns-clause-rest c =
    let old = c.args.content.now.items in
    let new = c.copy_within.new.self.items in
    let n = c.args.end - c.args.from in
    let k = c.args.from - c.args.to in
    let e : c.args.to + n + k ≡ c.args.end = omega (arith, c.requires) in
    ap (λ (j : ℕ). drop j new) (sym e)
    ∙ (sym (drop-drop k (c.args.to + n) new)
    ∙ (ap (drop k) (ap (drop (c.args.to + n)) c.copy_within.ensures.items
    ∙ drop-paste old c.args.to (drop c.args.from old) n (omega (arith, c.requires))
    (omega (arith, c.requires, length-drop c.args.from old)))
    ∙ (drop-drop k (c.args.to + n) old ∙ ap (λ (j : ℕ). drop j old) e)))
