use Rattle.std.proofs.Common.{◌+◌, ◌∙◌, ◌++◌, ◌∷◌, [], ℕ, cond, ap, sym, arith, ◌≡◌}
use Rattle.line_filters.proofs.lemmas.KeptLaws.{members_as_bytes, members_as_lines, few_kept}
use Rattle.line_filters.proofs.kept.Kept.members.Goals as goal

pub returns-in-Bytes : goal.returns-in-Bytes
returns-in-Bytes c =
    let k = c.args.self.now in
    members_as_bytes k.counted (k.full.items ++ k.last ∷ []) k.amount k.incomplete c.in-Bytes.is
    k.right

pub returns-then-self : goal.returns-then-self
returns-then-self c =
    let k = c.args.self.now in
    members_as_lines k.counted (k.full.items ++ k.last ∷ []) k.amount
    (k.amount + 1) k.incomplete c.in-Lines.is
    (ap (λ b. k.amount + (cond {A = ℕ} b 1 0)) (sym c.if-self.true)) k.right

pub returns-else-self : goal.returns-else-self
returns-else-self c =
    let k = c.args.self.now in
    let e : k.amount ≡ k.amount + 0 = omega arith in
    members_as_lines k.counted (k.full.items ++ k.last ∷ []) k.amount k.amount k.incomplete
    c.in-Lines.is (e ∙ ap (λ b. k.amount + (cond {A = ℕ} b 1 0)) (sym c.if-self.false)) k.right

pub overflow_add-result : goal.overflow_add-result
overflow_add-result c =
    let k = c.args.self.now in
    let all = few_kept k.counted k.full.items k.last k.amount k.incomplete k.right
    (omega (arith, k.full.ok, k.full.small)) in
    omega (arith, all)
