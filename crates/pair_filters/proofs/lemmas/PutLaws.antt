-- Newlines that give their places to the bytes of a circle.
use Rattle.std.proofs.Common.{◌≡◌, ℕ, ◌+◌, ◌-◌, ◌<◌, ◌≤◌, Bool, false, cond, eqb, List, [], ◌∷◌}
use Rattle.std.proofs.Common.{◌++◌, length, get_or, take, drop, set, refl, ap, ◌∙◌, sym, arith}
use Rattle.std.proofs.Common.{append_assoc, take-add, length-set}
use Rattle.std.proofs.lemmas.List.{append-nil, drop-drop, drop-set-lt, take-append-drop}
use Rattle.std.proofs.lemmas.List.{take_more_set}
use Rattle.std.proofs.lemmas.List.Elements.{All-head, All-tail}
use Rattle.machine.specs.Lines.{newline, HasNoNewline}
use Rattle.machine.specs.inner.Places.{FirstFrom}
use Rattle.pair_filters.specs.Circles.{after, number_after, put_in}

put_plain : (circle : List ℕ) (k : ℕ) (xs ys : List ℕ) → HasNoNewline xs
    → put_in circle k (xs ++ ys) ≡ xs ++ put_in circle k ys
put_plain circle k [] ys h = refl
put_plain circle k (x ∷ xs) ys h =
    ap (λ (b : Bool). cond b (get_or circle k 0 ∷ put_in circle (after (length circle) k)
    (xs ++ ys)) (x ∷ put_in circle k (xs ++ ys))) (All-head (λ x. eqb x newline ≡ false) x xs h)
    ∙ ap (λ (zs : List ℕ). x ∷ zs)
    (put_plain circle k xs ys (All-tail (λ x. eqb x newline ≡ false) x xs h))

number_plain : (n k : ℕ) (xs ys : List ℕ) → HasNoNewline xs
    → number_after n k (xs ++ ys) ≡ number_after n k ys
number_plain n k [] ys h = refl
number_plain n k (x ∷ xs) ys h =
    ap (λ (b : Bool). cond b (number_after n (after n k) (xs ++ ys)) (number_after n k (xs ++ ys)))
    (All-head (λ x. eqb x newline ≡ false) x xs h)
    ∙ number_plain n k xs ys (All-tail (λ x. eqb x newline ≡ false) x xs h)

-- the bytes before `at` were put
pub record PutsUpTo (circle : List ℕ) (first number : ℕ) (bytes : List ℕ) (at : ℕ) (made : List ℕ) :
    Type 0 where
  pub within : at ≤ length bytes
  pub long : length made ≡ length bytes
  pub rest : drop at made ≡ drop at bytes
  pub put : put_in circle first bytes ≡ take at made ++ put_in circle number (drop at bytes)
  pub count : number_after (length circle) first bytes
      ≡ number_after (length circle) number (drop at bytes)

pub puts_none : (circle : List ℕ) (first : ℕ) (bytes made : List ℕ) → made ≡ bytes
    → PutsUpTo circle first first bytes 0 made
puts_none circle first bytes made h =
    record { within = omega arith; long = ap length h; rest = h; put = refl; count = refl }

-- one newline more
pub puts_more : (circle : List ℕ) (first number : ℕ) (bytes : List ℕ) (at p : ℕ) (made : List ℕ)
    → PutsUpTo circle first number bytes at made → FirstFrom bytes newline at p
    → PutsUpTo circle first (after (length circle) number) bytes (p + 1)
    (set made p (get_or circle number 0))
puts_more circle first number bytes at p made u f =
    let c = get_or circle number 0 in
    let n = length circle in
    let next = after n number in
    let front = take (p - at) (drop at bytes) in
    let later = drop (p + 1) bytes in
    let sum : p ≡ at + (p - at) = let a = f.after in omega (arith, a) in
    let beyond : at + (p + 1 - at) ≡ p + 1 = let a = f.after in omega (arith, a) in
    let low : p < length made = let a = f.within in let l = u.long in omega (arith, a, l) in
    let before : take p made ≡ take at made ++ front = ap (λ (k : ℕ). take k made) sum
    ∙ (take-add at (p - at) made
    ∙ ap (λ (x : List ℕ). take at made ++ take (p - at) x) u.rest) in
    let ends : take (p + 1) (set made p c) ≡ (take at made ++ front) ++ c ∷ [] =
    take_more_set made p c low ∙ ap (λ (x : List ℕ). x ++ c ∷ []) before in
    record {
      within = let a = f.within in omega (arith, a);
      long = length-set made p c ∙ u.long;
      rest =
          drop-set-lt (p + 1) made p c (omega arith)
          ∙ (ap (λ (k : ℕ). drop k made) (sym beyond)
          ∙ (sym (drop-drop (p + 1 - at) at made)
          ∙ (ap (drop (p + 1 - at)) u.rest
          ∙ (drop-drop (p + 1 - at) at bytes ∙ ap (λ (k : ℕ). drop k bytes) beyond))));
      put =
          u.put
          ∙ (ap (λ (x : List ℕ). take at made ++ put_in circle number x) f.here
          ∙ (ap (λ (x : List ℕ). take at made ++ x)
          (put_plain circle number front (newline ∷ later) f.none_before)
          ∙ (sym (append_assoc (take at made) front (c ∷ put_in circle next later))
          ∙ (sym (append_assoc (take at made ++ front) (c ∷ []) (put_in circle next later))
          ∙ ap (λ (x : List ℕ). x ++ put_in circle next later) (sym ends)))));
      count = u.count ∙ (ap (number_after n number) f.here
          ∙ number_plain n number front (newline ∷ later) f.none_before);
    }

-- no newline is left
pub puts_all : (circle : List ℕ) (first number : ℕ) (bytes : List ℕ) (at : ℕ) (made : List ℕ)
    → PutsUpTo circle first number bytes at made → HasNoNewline (drop at bytes)
    → (made ≡ put_in circle first bytes) × (number ≡ number_after (length circle) first bytes)
puts_all circle first number bytes at made u plain =
    let xs = drop at bytes in
    let nil : xs ++ [] ≡ xs = append-nil xs in
    let same : put_in circle number xs ≡ xs = ap (put_in circle number) (sym nil)
    ∙ (put_plain circle number xs [] plain ∙ nil) in
    let still : number_after (length circle) number xs ≡ number =
    ap (number_after (length circle) number) (sym nil)
    ∙ number_plain (length circle) number xs [] plain in (
      sym (u.put ∙ (ap (λ (x : List ℕ). take at made ++ x) (same ∙ sym u.rest)
          ∙ take-append-drop at made)),
      sym (u.count ∙ still),
    )
