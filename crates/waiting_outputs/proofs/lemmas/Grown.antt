-- What a file holds after one write more.
use Rattle.std.proofs.Common.{ℕ, ◌+◌, ◌-◌, List, ◌++◌, length, take, drop, sym, ap, ◌∙◌}
use Rattle.std.proofs.Common.{None, Some, Option}
use Rattle.std.specs.Io.KnownBytes.{Appends}
use Rattle.std.proofs.Math.Seq.{take-add}
use Rattle.std.proofs.lemmas.List.{append_assoc, take_rest}

-- the first n bytes, and then the first m of the rest
pub appends_more : (old mid new : Option (List ℕ)) (n m : ℕ) (bs : List ℕ)
    → Appends old mid (take n bs)
    → Appends mid new (take m (take (length bs - n) (drop n bs)))
    → Appends old new (take (n + m) bs)
appends_more None mid new n m bs first next = tt
appends_more (Some xs) None new n m bs first next = absurd first
appends_more (Some xs) (Some ys) None n m bs first next = absurd next
appends_more (Some xs) (Some ys) (Some zs) n m bs first next =
    next ∙ ap (λ l. ys ++ take m l) (take_rest bs n)
    ∙ ap (λ l. l ++ take m (drop n bs)) first
    ∙ append_assoc xs (take n bs) (take m (drop n bs))
    ∙ ap (λ l. xs ++ l) (sym (take-add n m bs))
