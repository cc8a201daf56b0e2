use Rattle.std.proofs.Common.{◌≡◌, ◌≤◌, eqb, false, length, subst, arith}
use Rattle.std.proofs.lemmas.Bool.{leb-true}
use Rattle.std.specs.List.{All}
use Rattle.lanes.specs.inner.Prefixes.{prefix_bytes}
use Rattle.lanes.specs.inner.Walks.{Sought}
use Rattle.lanes.proofs.lemmas.WalkLaws.{none_marked}
use Rattle.lanes.proofs.parts.Part.is_without.Goals as goal

pub returns : goal.returns
returns c few =
    let bytes = prefix_bytes c.self.inside.content in
    let low : length bytes ≤ c.clear_bits.result = omega (arith, leb-true _ _ few, c.len.ensures) in
    subst (λ (v : Sought). All (λ x. eqb x v.byte ≡ false) v.bytes) c.self.view_is
    (none_marked bytes c.self.inside.byte c.self.inside.left c.self.invariant
    (omega (arith, low, c.clear_bits.ensures.bound))
    (λ k h. c.clear_bits.ensures.clear k (omega (arith, h, low))))
