use Rattle.std.proofs.Common.{ℕ, bit_or, cond, drop, get_or, take}
use Rattle.std.proofs.lemmas.Simd.{zip2_of_maps}
use Rattle.std.specs.Simd.Lanes.{zip2}
use Rattle.lanes.specs.Spans.{in_span}
use Rattle.tr_filter.proofs.lemmas.FewLaws.{found_zero, neither}
use Rattle.tr_filter.proofs.few.has_none_of_two.Goals as goal

pub returns : goal.returns
returns c none k d h =
    let bytes = c.args.bytes.now in
    let chunk = take 64 (drop c.args.at bytes) in
    let first = λ (x : ℕ). cond {A = ℕ} (in_span c.args.first x) 255 0 in
    let second = λ (x : ℕ). cond {A = ℕ} (in_span c.args.second x) 255 0 in
    neither (in_span c.args.first (get_or chunk k d)) (in_span c.args.second (get_or chunk k d))
    (found_zero (λ x. bit_or (first x) (second x)) bytes
    (zip2 bit_or c.inside.result c.inside-2.result) c.args.at c.requires
    (zip2_of_maps bit_or first second chunk c.inside.ensures c.inside-2.ensures)
    (c.are_zero.ensures none) k d h)
