-- A write whose bytes were recorded and then forgotten.
use Rattle.std.proofs.Common.{◌≡◌, ℕ, ◌-◌, ◌<◌, List, ◌++◌, length, take, get_or, set, ap, ◌∙◌}
use Rattle.std.proofs.Common.{length-append, arith}
use Rattle.std.proofs.lemmas.List.{get_or-set_same, set-get_or, set-set}
use Rattle.std.proofs.Math.Seq.{take-append_seam}
use Rattle.file_stores.specs.inner.Opened.{OpenedOutput}

-- without the bytes that were put after it
take_back : (xs bytes : List ℕ) → take (length (xs ++ bytes) - length bytes) (xs ++ bytes) ≡ xs
take_back xs bytes =
    let count : length (xs ++ bytes) - length bytes ≡ length xs =
    omega (arith, length-append xs bytes) in
    ap (λ n. take n (xs ++ bytes)) count ∙ take-append_seam xs bytes

pub undone : (xs : List OpenedOutput) (k : ℕ) (x y z w : OpenedOutput) (bytes : List ℕ)
    → k < length xs → x ≡ get_or xs k x → y ≡ record x { taken = x.taken ++ bytes } →
    z ≡ get_or (set xs k y) k z
    → w ≡ record z { taken = take (length z.taken - length bytes) z.taken }
    → set (set xs k y) k w ≡ xs
undone xs k x y z w bytes h own recorded got forgot =
    let again : z ≡ record x { taken = x.taken ++ bytes } = got
    ∙ (get_or-set_same xs k y z h ∙ recorded) in
    let back : w ≡ x = forgot
    ∙ (ap (λ (o : OpenedOutput). record o {
      taken =
          take (length o.taken - length bytes) o.taken;
    }) again
    ∙ ap (λ (l : List ℕ). record x { taken = l }) (take_back x.taken bytes)) in
    set-set xs k y w ∙ (ap (λ (o : OpenedOutput). set xs k o) (back ∙ own) ∙ set-get_or xs k x)
