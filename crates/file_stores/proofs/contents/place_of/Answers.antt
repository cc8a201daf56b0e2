use Rattle.std.proofs.Common.{◌∙◌, sym}
use Rattle.file_stores.proofs.lemmas.Places.{found_at, not_found}
use Rattle.file_stores.proofs.contents.place_of.Goals as goal

pub returns-then-is_named-clause-some : goal.returns-then-is_named-clause-some
returns-then-is_named-clause-some c =
    found_at c.args.name.now c.args.files.now c.loop-place.place c.index-files-place.result
    c.loop-place-test.true c.loop-place.invariant c.index-files-place.is (sym c.is_named.ensures
    ∙ c.if-is_named.true)

pub returns-clause-none : goal.returns-clause-none
returns-clause-none c =
    λ none. not_found c.args.name.now c.args.files.now c.loop-place.place c.loop-place-test.false
    c.loop-place.invariant
