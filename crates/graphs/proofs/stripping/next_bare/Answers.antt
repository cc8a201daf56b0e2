use Rattle.std.proofs.Common.{ℕ, ◌<◌, List, length, subst, sym}
use Rattle.std.specs.List.{All}
use Rattle.graphs.proofs.lemmas.MarkLaws.{row_within}
use Rattle.graphs.proofs.stripping.next_bare.Goals as goal

pub is_bare-requires : goal.is_bare-requires
is_bare-requires c =
    let P : List ℕ → Type 0 = λ xs. All (λ t. t < length c.args.marks.now) xs in
    subst P (sym c.as_slice.ensures.value)
    (row_within c.args.links.now (length c.args.marks.now) c.loop-k.k c.index-links-k.result
    c.loop-k-test.true c.index-links-k.is c.requires.within)
