use Rattle.std.proofs.Common.{ap, ◌+◌, ◌∙◌, sym, subst, rules, List}
use Rattle.std.specs.List.Sorted.{IsNonDecreasingBy}
use Rattle.std.proofs.lemmas.List.Sorted.{IsNonDecreasingBy-from_sort_by_key}
use Rattle.commands.specs.declared.range.Range.{Range}
use Rattle.commands.specs.Selections.{is_in, is_selected}
use Rattle.line_filters.specs.inner.Steps.{Follows}
use Rattle.line_filters.proofs.lemmas.RangeLaws.{any_moved}
use Rattle.line_filters.proofs.ranges.Ranges.new.Goals as goal

pub that_add-requires : goal.that_add-requires
that_add-requires c =
    subst (λ (rs : List Range). IsNonDecreasingBy (λ (r : Range). r.first) rs)
    (sym c.as_slice.ensures.value)
    (IsNonDecreasingBy-from_sort_by_key (λ r. r.first) _ c.in_ok-sort_by_key.ensures.sorted
    (λ a r q k. search rules))

pub invariant_of-result : goal.invariant_of-result
invariant_of-result c = record {
  rising = c.in_ok-ranges.ensures.rising;
  lows =
      λ k small. c.low_numbers-low.ensures k small
      ∙ ap (λ (rs : List Range). is_selected rs (k + 1)) c.as_slice-2.ensures.value;
  follows =
      subst (λ (rs : List Range). Follows (is_selected rs) 1 c.in_ok-steps.steps.items)
      c.as_slice-3.ensures.value c.in_ok-steps.ensures;
}

pub returns : goal.returns
returns c =
    λ n.
    c.in_ok-ranges.ensures.same n
    ∙ (ap (λ (rs : List Range). is_selected rs n) c.as_slice.ensures.value
    ∙ (any_moved (λ r. is_in r n) c.in_ok-sorted.sorted.items c.sort_by_key.new.self.items
    c.in_ok-sort_by_key.ensures.permutation
    ∙ ap (λ (rs : List Range). is_selected rs n) c.in_ok-sorted.ensures.items))
