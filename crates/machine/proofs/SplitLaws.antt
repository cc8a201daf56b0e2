-- A list, some items of it at a time.
use Rattle.std.proofs.Common.{◌≡◌, ℕ, zero, suc, ◌≤◌, List, [], ◌∷◌, ◌++◌, drop, take, length, refl}
use Rattle.std.proofs.Common.{ap, arith, length-take}

-- the first items, and those after them
pub take_split : (n : ℕ) (xs : List ℕ) → xs ≡ take n xs ++ drop (length (take n xs)) xs
take_split zero xs = refl
take_split (suc n) [] = refl
take_split (suc n) (x ∷ xs) = ap (λ (ys : List ℕ). x ∷ ys) (take_split n xs)

-- how many the first ones are
pub take_long : (n : ℕ) (xs : List ℕ) → (length (take n xs) ≤ n) × (length (take n xs) ≤ length xs)
take_long n xs = let e = length-take n xs in (omega arith, omega arith)

pub some_long : (n : ℕ) (xs some : List ℕ) → some ≡ take n xs → length some ≤ n
some_long n xs some e = let h = take_long n xs in let f = ap length e in omega (arith, h.0)
