-- Delimiters in a circle.
use Rattle.std.proofs.Common.{◌≡◌, ℕ, ◌+◌, ◌*◌, ◌/◌, ◌%◌, true, eqb, List, [], ◌∷◌, ◌++◌, Option}
use Rattle.std.proofs.Common.{None, length, get_or, refl, ap, ◌∙◌, sym, arith}
use Rattle.std.proofs.lemmas.Bool.{eqb-true}
use Rattle.std.proofs.Math.Nat.{mod-add-div', add-mul-mod_self_right, mod_self, zero-mod}
use Rattle.commands.specs.Delimiters.{byte_of, delimiter, behind}

-- the number after one counts in a circle too
next_mod : (k n : ℕ) → (k + 1) % n ≡ (k % n + 1) % n
next_mod k n =
    let d = mod-add-div' k n in
    let e : k + 1 ≡ (k % n + 1) + k / n * n = omega (arith, d) in
    ap (λ (m : ℕ). m % n) e ∙ add-mul-mod_self_right (k % n + 1) (k / n) n

pub same_circle : (delimiters : List (Option ℕ)) (a b : ℕ) (cells : List (List ℕ))
    → a % length delimiters ≡ b % length delimiters
    → behind delimiters a cells ≡ behind delimiters b cells
same_circle delimiters a b [] h = refl
same_circle delimiters a b (cell ∷ cells) h =
    let n = length delimiters in
    let more : (a + 1) % n ≡ (b + 1) % n = next_mod a n
    ∙ (ap (λ (m : ℕ). (m + 1) % n) h ∙ sym (next_mod b n)) in
    ap (λ (k : ℕ). (byte_of (get_or delimiters k None) ++ cell) ++ behind delimiters (a + 1) cells)
    h
    ∙ ap (λ (x : List ℕ). (delimiter delimiters b ++ cell) ++ x)
    (same_circle delimiters (a + 1) (b + 1) cells more)

-- the number after one, and after the last one
pub next_circle : (delimiters : List (Option ℕ)) (k r : ℕ) (cells : List (List ℕ))
    → r ≡ k % length delimiters → behind delimiters (r + 1) cells ≡ behind delimiters (k + 1) cells
next_circle delimiters k r cells e =
    same_circle delimiters (r + 1) (k + 1) cells (ap (λ (m : ℕ). (m + 1) % length delimiters) e
    ∙ sym (next_mod k (length delimiters)))

pub last_circle : (delimiters : List (Option ℕ)) (k r : ℕ) (cells : List (List ℕ))
    → r ≡ k % length delimiters → r + 1 ≡ length delimiters
    → behind delimiters 0 cells ≡ behind delimiters (k + 1) cells
last_circle delimiters k r cells e last =
    let n = length delimiters in
    let none : 0 % n ≡ (r + 1) % n = zero-mod n ∙ sym (ap (λ (m : ℕ). m % n) last ∙ mod_self n) in
    same_circle delimiters 0 (r + 1) cells none ∙ next_circle delimiters k r cells e

none_same : (a b : ℕ) (cells : List (List ℕ)) → behind [] a cells ≡ behind [] b cells
none_same a b [] = refl
none_same a b (cell ∷ cells) = ap (λ (x : List ℕ). cell ++ x) (none_same (a + 1) (b + 1) cells)

-- without delimiters each number is as another
pub no_delimiters : (delimiters : List (Option ℕ)) (a b : ℕ) (cells : List (List ℕ))
    → delimiters ≡ [] → behind delimiters a cells ≡ behind delimiters b cells
no_delimiters delimiters a b cells h =
    ap (λ (ds : List (Option ℕ)). behind ds a cells) h
    ∙ (none_same a b cells ∙ ap (λ (ds : List (Option ℕ)). behind ds b cells) (sym h))

pub none_from : (delimiters : List (Option ℕ)) → eqb (length delimiters) 0 ≡ true → delimiters ≡ []
none_from [] h = refl
none_from (x ∷ xs) h =
    let e : length (x ∷ xs) ≡ 0 = eqb-true (length (x ∷ xs)) 0 h in
    absurd (omega (arith, e))
