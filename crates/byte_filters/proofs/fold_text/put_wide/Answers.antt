use Rattle.std.proofs.Common.{◌≤◌, ◌-◌, List, ℕ, ap, drop, length, sym, subst, take, true, arith}
use Rattle.std.proofs.lemmas.List.{length-take, take_rest}
use Rattle.byte_filters.specs.inner.Scans.{IsEvenUpTo}
use Rattle.byte_filters.proofs.lemmas.AheadLaws.{even_behind, even_cut_part, front_even}
use Rattle.byte_filters.proofs.lemmas.FoldParts.{one_part_more}
use Rattle.byte_filters.proofs.fold_text.put_wide.Goals as goal

pub cut_place-count-requires : goal.cut_place-count-requires
cut_place-count-requires c =
    let spec = c.args.spec.now in
    let bytes = c.args.bytes.now in
    let at = c.cuts.at in
    let rest = take (length bytes - at) (drop at bytes) in
    let left = subst (λ (z : List ℕ). IsEvenUpTo spec z (c.args.even - at))
    (sym (take_rest bytes at))
    (even_behind spec bytes c.args.even at c.requires c.cuts.invariant.0) in
    front_even spec rest c.prefix.result.now (c.args.even - at) left
    (omega (arith, c.if-spec-even.true)) c.prefix.ensures

pub new-requires : goal.new-requires
new-requires c =
    let bytes = c.args.bytes.now in
    let at = c.cuts.at in
    let rest = take (length bytes - at) (drop at bytes) in
    let long = ap length c.prefix.ensures in
    omega (arith, c.cut_place-count.ensures.within, long, length-take c.args.spec.now.width rest)

pub overflow_add-at : goal.overflow_add-at
overflow_add-at c =
    let bytes = c.args.bytes.now in
    let rest = take (length bytes - c.cuts.at) (drop c.cuts.at bytes) in
    let long = ap length c.prefix.ensures in
    omega (
      arith,
      c.cut_place-count.ensures.within,
      long,
      length-take c.args.spec.now.width rest,
      c.if-spec-even.true,
    )

pub cuts-smaller : goal.cuts-smaller
cuts-smaller c =
    let spec = c.args.spec.now in
    let bytes = c.args.bytes.now in
    let at = c.cuts.at in
    let rest = take (length bytes - at) (drop at bytes) in
    let left = subst (λ (z : List ℕ). IsEvenUpTo spec z (c.args.even - at))
    (sym (take_rest bytes at))
    (even_behind spec bytes c.args.even at c.requires c.cuts.invariant.0) in
    let part = even_cut_part spec rest c.prefix.result.now
    (c.args.even - at) c.cut_place-count.result left (omega (arith, c.cuts-test.true))
    (omega (arith, c.if-spec-even.true)) c.prefix.ensures c.cut_place-count.ensures.value in
    let some : 1 ≤ c.cut_place-count.result = part.some in
    omega (arith, some, c.if-spec-even.true)

pub cuts-preserved : goal.cuts-preserved
cuts-preserved c =
    let spec = c.args.spec.now in
    let bytes = c.args.bytes.now in
    let at = c.cuts.at in
    let rest = take (length bytes - at) (drop at bytes) in
    let long = ap length c.prefix.ensures in
    let left = subst (λ (z : List ℕ). IsEvenUpTo spec z (c.args.even - at))
    (sym (take_rest bytes at))
    (even_behind spec bytes c.args.even at c.requires c.cuts.invariant.0) in
    let part = even_cut_part spec rest c.prefix.result.now
    (c.args.even - at) c.cut_place-count.result left (omega (arith, c.cuts-test.true))
    (omega (arith, c.if-spec-even.true)) c.prefix.ensures c.cut_place-count.ensures.value in (
      omega (
        arith,
        c.cut_place-count.ensures.within,
        long,
        length-take spec.width rest,
        c.if-spec-even.true,
      ),
      one_part_more spec bytes c.args.made.now c.cuts.made c.put_prefix_then.new.self rest _ at
          c.cut_place-count.result true (take_rest bytes at) part c.new.ensures
          c.in_ok-put_prefix_then.ensures c.cuts.invariant.1,
    )

pub returns-else-spec-even-clause-left : goal.returns-else-spec-even-clause-left
returns-else-spec-even-clause-left c =
    even_behind c.args.spec.now c.args.bytes.now c.args.even c.cuts.at c.requires c.cuts.invariant.0

pub returns-after-cuts-clause-left : goal.returns-after-cuts-clause-left
returns-after-cuts-clause-left c =
    even_behind c.args.spec.now c.args.bytes.now c.args.even c.cuts.at c.requires c.cuts.invariant.0
