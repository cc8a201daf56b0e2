use Rattle.std.proofs.Common.{◌≡◌, ℕ, zero, suc, ◌+◌, ◌<◌, List, [], ◌∷◌, ◌++◌, length, take}
use Rattle.std.proofs.Common.{get_or, Option, Some, None, option_map, refl, sym, ap, ap₂, ◌∙◌}
use Rattle.std.proofs.Common.{append-nil, append_assoc, arith}
use Rattle.std.specs.Option.{unwrap_or}
use Rattle.std.specs.Global.{Vec}
use Rattle.machine.specs.Whole.{joined}
use Rattle.network_tests.specs.inner.Plans.{whole_lists}
use Rattle.network_tests.proofs.tests.small.joined.Goals as goal

-- the bytes of one input more
joined_more : (xs : List (Option (Vec ℕ))) (i : ℕ) (d : Option (Vec ℕ)) → i < length xs
    → joined (whole_lists (take (suc i) xs)) ≡ joined (whole_lists (take i xs)) ++ unwrap_or
    (option_map (λ v. v.items) (get_or xs i d)) []
joined_more [] i d lt = absurd (omega arith)
joined_more (None ∷ xs) zero d lt = refl
joined_more (Some v ∷ xs) zero d lt = append-nil v.items
joined_more (None ∷ xs) (suc i) d lt = joined_more xs i d (let l : i < length xs = omega arith in l)
joined_more (Some v ∷ xs) (suc i) d lt =
    ap (λ (l : List ℕ). v.items ++ l)
    (joined_more xs i d (let l : i < length xs = omega arith in l))
    ∙ sym (append_assoc v.items (joined (whole_lists (take i xs)))
    (unwrap_or (option_map (λ v. v.items) (get_or xs i d)) []))

pub loop-input-preserved : goal.loop-input-preserved
loop-input-preserved c =
    let o : suc c.loop-input.input-index ≡ c.loop-input.input-index + 1 = omega arith in
    c.in_ok-extend_from_slice.ensures.items
    ∙ (ap₂ (λ (a b : List ℕ). a ++ b) c.loop-input.invariant (c.bytes_of.ensures
    ∙ ap (λ (x : Option (Vec ℕ)). unwrap_or (option_map (λ v. v.items) x) []) c.input-item.is)
    ∙ (sym (joined_more c.args.inputs.now c.loop-input.input-index c.input-item.result
    c.loop-input-test.true)
    ∙ ap (λ (n : ℕ). joined (whole_lists (take n c.args.inputs.now))) o))
