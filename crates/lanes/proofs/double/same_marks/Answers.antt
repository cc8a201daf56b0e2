use Rattle.std.proofs.Common.{◌∙◌, ◌+◌, ◌%◌, ◌^◌, ℕ, List, Bool, eqb, drop, take, ap, w8}
use Rattle.std.specs.Int.{bit_at}
use Rattle.std.specs.Simd.Lanes.{mask_l}
use Rattle.std.proofs.lemmas.Simd.{tops_compared}
use Rattle.lanes.proofs.lemmas.DoubleLaws.{same_bit, same_mask}
use Rattle.lanes.proofs.double.same_marks.Goals as goal

pub returns : goal.returns
returns c k small =
    let bytes = c.args.bytes.now in
    let at = c.args.at in
    ap (λ (m : ℕ). bit_at m k)
    (ap (λ (ms : List Bool). mask_l ms % 2 ^ 64)
    (tops_compared w8 eqb (take 64 (drop at bytes)) (take 64 (drop (at + 1) bytes)))
    ∙ same_mask bytes at c.requires)
    ∙ same_bit bytes at k c.requires small
