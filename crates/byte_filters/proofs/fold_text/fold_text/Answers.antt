use Rattle.std.proofs.Common.{◌-◌, ◌+◌, ◌∙◌, ◌≡◌, ℕ, refl, subst, drop, length, take, ap, arith}
use Rattle.std.proofs.lemmas.List.{drop-drop, take_rest}
use Rattle.byte_filters.proofs.lemmas.FoldParts.{HasFolded, one_part_more, some_more}
use Rattle.byte_filters.specs.FoldCuts.{IsUncut}
use Rattle.byte_filters.proofs.lemmas.UncutLaws.{uncut_plain}
use Rattle.byte_filters.proofs.fold_text.fold_text.Goals as goal

pub parts-preserved : goal.parts-preserved
parts-preserved c =
    let spec = c.args.spec.now in
    let bytes = c.args.bytes.now in
    let at = c.parts.at in
    let wide = c.in_ok-wide.wide in
    let line = take (length bytes - at) (drop at bytes) in
    let rest = c.skip-rest.result.now in
    let part = c.in-Some.part in
    let so_far = some_more spec bytes line
    (drop wide line) c.args.made.now c.parts.made c.put_wide.new.made at wide
    (take_rest bytes at) refl c.in_ok-wide.ensures.within c.in_ok-wide.ensures.folds
    c.parts.invariant in
    let there = c.skip-rest.ensures
    ∙ (ap (drop wide) (take_rest bytes at) ∙ drop-drop wide at bytes) in
    let n : at + wide + part.count ≡ at + (wide + part.count) = omega arith in
    subst (λ (k : ℕ). HasFolded spec bytes k c.args.made.now c.put_part.new.made) n
    (one_part_more spec bytes c.args.made.now c.put_wide.new.made c.put_part.new.made rest _
    (at + wide) part.count part.cut there c.in-Some.ensures.part c.new.ensures
    c.in_ok-put_part.ensures so_far)

pub returns-in_default-clause-uncut : goal.returns-in_default-clause-uncut
returns-in_default-clause-uncut c =
    let bytes = c.args.bytes.now in
    let wide = c.in_ok-wide.wide in
    let there = c.skip-rest.ensures
    ∙ (ap (drop wide) (take_rest bytes c.parts.at) ∙ drop-drop wide c.parts.at bytes) in
    subst (IsUncut c.args.spec.now) there
    (uncut_plain c.args.spec.now c.skip-rest.result.now c.in_default.ensures.plain
    c.in_default.ensures.part)
