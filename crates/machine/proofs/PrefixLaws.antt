-- How many items in front pass a test, counted item by item.
use Rattle.std.proofs.Common.{◌≡◌, ℕ, ◌+◌, ◌<◌, List, Bool, true, false, cond, get_or, drop, length}
use Rattle.std.proofs.Common.{ap, ◌∙◌, arith}
use Rattle.std.specs.List.{prefix_len}
use Rattle.std.proofs.lemmas.List.{at_drop_more, at_drop_all}

-- how many items in front pass a test, seen from place i
prefix_here : (p : ℕ → Bool) (xs : List ℕ) (i : ℕ) → i < length xs
    → prefix_len p (drop i xs) ≡ cond (p (get_or xs i 0)) (1 + prefix_len p (drop (i + 1) xs)) 0
prefix_here p xs i h = at_drop_more (prefix_len p) xs i 0 h

pub prefix_goes_on : (p : ℕ → Bool) (xs : List ℕ) (i : ℕ) → i < length xs → p (get_or xs i 0) ≡ true
    → i + prefix_len p (drop i xs) ≡ prefix_len p xs
    → i + 1 + prefix_len p (drop (i + 1) xs) ≡ prefix_len p xs
prefix_goes_on p xs i h e inv =
    let k : prefix_len p (drop i xs) ≡ 1 + prefix_len p (drop (i + 1) xs) = prefix_here p xs i h
    ∙ ap (λ (b : Bool). cond b (1 + prefix_len p (drop (i + 1) xs)) 0) e in
    omega arith

pub prefix_stops : (p : ℕ → Bool) (xs : List ℕ) (i : ℕ) → i < length xs → p (get_or xs i 0) ≡ false
    → i + prefix_len p (drop i xs) ≡ prefix_len p xs → i ≡ prefix_len p xs
prefix_stops p xs i h e inv =
    let k : prefix_len p (drop i xs) ≡ 0 = prefix_here p xs i h
    ∙ ap (λ (b : Bool). cond b (1 + prefix_len p (drop (i + 1) xs)) 0) e in
    omega arith

pub prefix_ends : (p : ℕ → Bool) (xs : List ℕ) (i : ℕ) → i ≡ length xs
    → i + prefix_len p (drop i xs) ≡ prefix_len p xs → length xs ≡ prefix_len p xs
prefix_ends p xs i h inv =
    let k : prefix_len p (drop i xs) ≡ 0 = at_drop_all (prefix_len p) xs i (omega arith) in
    omega arith
