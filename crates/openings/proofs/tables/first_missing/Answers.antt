use Rattle.std.proofs.Common.{[], ap, not, refl, ◌∙◌}
use Rattle.openings.proofs.lemmas.FindLaws.{first_found, found_there}
use Rattle.openings.proofs.tables.first_missing.Goals as goal

pub loop-place-preserved : goal.loop-place-preserved
loop-place-preserved c =
    found_there c.args.answers.now c.loop-place.place [] [] c.loop-place-test.true
    (c.is_none.ensures ∙ ap not c.if-is_none.false)
    c.loop-place.invariant refl

pub returns-then-is_none : goal.returns-then-is_none
returns-then-is_none c = (
  c.loop-place-test.true,
  first_found c.args.answers.now c.loop-place.place c.loop-place-test.true (c.is_none.ensures
      ∙ ap not c.if-is_none.true)
      c.loop-place.invariant,
)
