-- The bytes that a reader has left, if a limit is set on their lines.
use Rattle.std.proofs.Common.{◌≡◌, ℕ, zero, suc, ◌+◌, ◌-◌, ◌<◌, ◌≤◌, ◌⊎◌, inl, inr, ⊎_elim, Bool}
use Rattle.std.proofs.Common.{true, false, cond, eqb, List, [], ◌∷◌, ◌++◌, length, take, drop}
use Rattle.std.proofs.Common.{Option, None, Some, refl, ap, ◌∙◌, sym, subst, arith, length-take}
use Rattle.std.proofs.Common.{length-append, length-drop}
use Rattle.std.specs.Prelude.{min, IfSome}
use Rattle.std.specs.List.{concat, onto_first}
use Rattle.std.specs.Io.{StartsWith}
use Rattle.std.specs.Io.KnownBytes.{Keeps, Consumes, IsAtEnd}
use Rattle.std.specs.Io.BufRead.{DropsConsumable}
use Rattle.std.proofs.lemmas.List.{take-append-drop, take-take, length-take-le, take_at}
use Rattle.machine.specs.Lines.{lines, newline}
use Rattle.machine.specs.FrontLines.{first_lines}
use Rattle.machine.proofs.FrontLaws.{head_nil}
use Rattle.collector.specs.InputEnds.{IsHeldFirst}
use Rattle.file_stores.specs.inner.Limits.{limited}
use Rattle.file_stores.specs.inner.Standard.{CopiesLines, LeavesLines}
use Rattle.file_stores.proofs.lemmas.Ends.{order}

zero_or_more : (n : ℕ) → (n ≤ 0) ⊎ (1 ≤ n)
zero_or_more zero = inl (omega arith)
zero_or_more (suc n) = inr (omega arith)

-- ---- the first lines of the first lines

onto_front : (n x : ℕ) (ls : List (List ℕ))
    → concat (take (suc n) (onto_first x ls)) ≡ x ∷ concat (take (suc n) ls)
onto_front n x [] = ap (λ ys. x ∷ ys) (head_nil n)
onto_front n x (l ∷ ls) = refl

first_ends : (n x : ℕ) (xs : List ℕ) → eqb x newline ≡ true
    → first_lines (suc n) (x ∷ xs) ≡ x ∷ first_lines n xs
first_ends n x xs e = ap
    (λ (b : Bool). concat (take (suc n) (cond b ((x ∷ []) ∷ lines xs) (onto_first x (lines xs))))) e

first_goes_on : (n x : ℕ) (xs : List ℕ) → eqb x newline ≡ false
    → first_lines (suc n) (x ∷ xs) ≡ x ∷ first_lines (suc n) xs
first_goes_on n x xs e =
    ap
    (λ (b : Bool). concat (take (suc n) (cond b ((x ∷ []) ∷ lines xs) (onto_first x (lines xs)))))
    e
    ∙ onto_front n x (lines xs)

fewer_by : (b : Bool) (n m x : ℕ) (xs : List ℕ) → eqb x newline ≡ b
    → first_lines n (first_lines m xs) ≡ first_lines n xs
    → first_lines (suc n) (first_lines (suc m) xs) ≡ first_lines (suc n) xs
    → first_lines (suc n) (first_lines (suc m) (x ∷ xs)) ≡ first_lines (suc n) (x ∷ xs)
fewer_by true n m x xs e ended on =
    ap (first_lines (suc n)) (first_ends m x xs e)
    ∙ (first_ends n x (first_lines m xs) e
    ∙ (ap (λ (ys : List ℕ). x ∷ ys) ended ∙ sym (first_ends n x xs e)))
fewer_by false n m x xs e ended on =
    ap (first_lines (suc n)) (first_goes_on m x xs e)
    ∙ (first_goes_on n x (first_lines (suc m) xs) e
    ∙ (ap (λ (ys : List ℕ). x ∷ ys) on ∙ sym (first_goes_on n x xs e)))

-- fewer of them are the first lines of all
fewer_lines : (n m : ℕ) (xs : List ℕ) → n ≤ m
    → first_lines n (first_lines m xs) ≡ first_lines n xs
fewer_lines zero m xs h = refl
fewer_lines (suc n) zero xs h = absurd (omega arith)
fewer_lines (suc n) (suc m) [] h = refl
fewer_lines (suc n) (suc m) (x ∷ xs) h =
    fewer_by (eqb x newline) n m x xs refl (fewer_lines n m xs (omega arith))
    (fewer_lines (suc n) (suc m) xs h)

more_by : (b : Bool) (n m x : ℕ) (xs : List ℕ) → eqb x newline ≡ b
    → first_lines n (first_lines m xs) ≡ first_lines m xs
    → first_lines (suc n) (first_lines (suc m) xs) ≡ first_lines (suc m) xs
    → first_lines (suc n) (first_lines (suc m) (x ∷ xs)) ≡ first_lines (suc m) (x ∷ xs)
more_by true n m x xs e ended on =
    ap (first_lines (suc n)) (first_ends m x xs e)
    ∙ (first_ends n x (first_lines m xs) e
    ∙ (ap (λ (ys : List ℕ). x ∷ ys) ended ∙ sym (first_ends m x xs e)))
more_by false n m x xs e ended on =
    ap (first_lines (suc n)) (first_goes_on m x xs e)
    ∙ (first_goes_on n x (first_lines (suc m) xs) e
    ∙ (ap (λ (ys : List ℕ). x ∷ ys) on ∙ sym (first_goes_on m x xs e)))

-- more of them are all of the first lines
more_lines : (n m : ℕ) (xs : List ℕ) → m ≤ n
    → first_lines n (first_lines m xs) ≡ first_lines m xs
more_lines n zero xs h = head_nil n
more_lines zero (suc m) xs h = absurd (omega arith)
more_lines (suc n) (suc m) [] h = refl
more_lines (suc n) (suc m) (x ∷ xs) h =
    more_by (eqb x newline) n m x xs refl (more_lines n m xs (omega arith))
    (more_lines (suc n) (suc m) xs h)

-- ---- a limit is set

pub first_limit : (n : ℕ) (left : Option (List ℕ)) → IsHeldFirst n left (limited (Some n) left)
first_limit n None = tt
first_limit n (Some xs) = refl

least : (n m k : ℕ) (xs : List ℕ) → k ≡ min m n
    → first_lines k xs ≡ first_lines n (first_lines m xs)
least n m k xs e = ⊎_elim
    (λ (h : n ≤ m). let k_is : k ≡ n = omega (arith, e, h) in
    ap (λ (j : ℕ). first_lines j xs) k_is ∙ sym (fewer_lines n m xs h))
    (λ (h : m ≤ n). let k_is : k ≡ m = omega (arith, e, h) in
    ap (λ (j : ℕ). first_lines j xs) k_is ∙ sym (more_lines n m xs h)) (order n m)

pub second_limit : (n m k : ℕ) (left : Option (List ℕ)) → k ≡ min m n
    → IsHeldFirst n (limited (Some m) left) (limited (Some k) left)
second_limit n m k None e = tt
second_limit n m k (Some xs) e = least n m k xs e

-- ---- a read within a limit

pub keeps_limit : (limit : Option ℕ) (old new : Option (List ℕ)) → Keeps old new
    → Keeps (limited limit old) (limited limit new)
keeps_limit None old new h = h
keeps_limit (Some n) None new h = tt
keeps_limit (Some n) (Some xs) None h = absurd h
keeps_limit (Some n) (Some xs) (Some ys) h = ap (first_lines n) h

-- no line is left, or nothing is
limited_end : (n : ℕ) (left : Option (List ℕ)) → (0 < n → IsAtEnd left)
    → IsAtEnd (limited (Some n) left)
limited_end n None h = tt
limited_end zero (Some xs) h = refl
limited_end (suc n) (Some xs) h = ap (first_lines (suc n)) (h (omega arith)) ∙ head_nil (suc n)

-- ---- a read of the first lines of what was read ahead

pub copied_length : (ahead into into' : List ℕ) (n count left : ℕ)
    → CopiesLines ahead n into into' count left
    → (count ≤ length ahead) × (count ≤ length into) × (length into' ≡ length into)
copied_length ahead into into' n count left c =
    let room = min (length ahead) (length into) in
    let some : length (take room ahead) ≡ room = length-take-le room ahead (omega arith) in
    let within : count ≤ room = omega (arith, some, c.lines.within) in
    let joined : length into' ≡ length (take count ahead) + length (drop count into) =
    ap length c.copied ∙ length-append (take count ahead) (drop count into) in (
      omega (arith, within),
      omega (arith, within),
      omega (
        arith,
        within,
        joined,
        length-take-le count ahead (omega (arith, within)),
        length-drop count into,
      ),
    )

-- the bytes that were copied are the first of those ahead
copied_front : (ahead into into' : List ℕ) (n count left : ℕ)
    → CopiesLines ahead n into into' count left → take count into' ≡ take count ahead
copied_front ahead into into' n count left c =
    let fits = copied_length ahead into into' n count left c in
    ap (take count) c.copied
    ∙ take_at (take count ahead) (drop count into) count
    (length-take-le count ahead fits.0)

-- if a line is left, all that is ahead was copied
rest_first : (left room count : ℕ) (xs : List ℕ) → (0 < left → count ≡ room)
    → first_lines left (drop room xs) ≡ first_lines left (drop count xs)
rest_first zero room count xs h = refl
rest_first (suc n) room count xs h =
    ap (λ (k : ℕ). first_lines (suc n) (drop k xs)) (sym (h (omega arith)))

-- the first lines of all, if some of them were ahead
ahead_first : (ahead into into' xs : List ℕ) (n count left : ℕ)
    → CopiesLines ahead n into into' count left → StartsWith xs ahead
    → first_lines n xs ≡ take count into' ++ first_lines left (drop count xs)
ahead_first ahead into into' xs n count left c front =
    let room = min (length ahead) (length into) in
    let fits = copied_length ahead into into' n count left c in
    let some : length (take room ahead) ≡ room = length-take-le room ahead (omega arith) in
    let within : count ≤ room = omega (arith, some, c.lines.within) in
    let shown : take room xs ≡ take room ahead =
    sym (take-take room (length ahead) xs (omega arith)) ∙ ap (take room) front in
    let parts : xs ≡ take room ahead ++ drop room xs =
    sym (take-append-drop room xs) ∙ ap (λ (x : List ℕ). x ++ drop room xs) shown in
    let given : take count (take room ahead) ≡ take count into' =
    take-take count room ahead within ∙ sym (copied_front ahead into into' n count left c) in
    ap (first_lines n) parts
    ∙ (c.lines.splits (drop room xs)
    ∙ (ap (λ (x : List ℕ). x ++ first_lines left (drop room xs)) given
    ∙ ap (λ (x : List ℕ). take count into' ++ x)
    (rest_first left room count xs (λ more. omega (arith, c.lines.all more, some)))))

-- after the end no line is left, and there was none
ended_first : (xs into' : List ℕ) (n count last : ℕ) → xs ≡ [] → count ≡ 0 → last ≡ 0
    → first_lines n xs ≡ take count into' ++ first_lines last (drop count xs)
ended_first xs into' n count last e none zero_left =
    ap (first_lines n) e
    ∙ (head_nil n
    ∙ subst (λ (k : ℕ). [] ≡ take k into' ++ first_lines last (drop k xs)) (sym none)
    (subst (λ (j : ℕ). [] ≡ take 0 into' ++ first_lines j (drop 0 xs)) (sym zero_left) refl))

left_first : (ahead into into' xs : List ℕ) (n count left last : ℕ)
    → CopiesLines ahead n into into' count left → StartsWith xs ahead
    → (length ahead ≡ 0 → xs ≡ []) → LeavesLines (length into') count left last
    → first_lines n xs ≡ take count into' ++ first_lines last (drop count xs)
left_first ahead into into' xs n count left last c front end l =
    let fits = copied_length ahead into into' n count left c in
    let room = min (length ahead) (length into) in
    let some_ahead : length (take room ahead) ≡ room = length-take-le room ahead (omega arith) in
    let same : last ≡ left → first_lines n xs ≡ take count into' ++ first_lines last (drop count xs) =
    λ (e : last ≡ left). ahead_first ahead into into' xs n count left c front
    ∙ ap (λ (k : ℕ). take count into' ++ first_lines k (drop count xs)) (sym e) in
    ⊎_elim same
    (λ (h : (count ≡ 0) × (0 < length into') × (last ≡ 0)). ⊎_elim
    (λ (none : left ≤ 0). same (omega (arith, none, h.2)))
    (λ (some : 1 ≤ left). ended_first xs into' n count last
    (end (omega (arith, c.lines.all some, some_ahead, h.0, h.1, fits.2))) h.0 h.2)
    (zero_or_more left)) l.more

limit_above : (n m : ℕ) (limit : Option ℕ) → n ≤ m → IfSome limit (λ k. m ≤ k)
    → IfSome limit (λ k. n ≤ k)
limit_above n m None h known = tt
limit_above n m (Some k) h known = omega (arith, h, known)

ahead_consumed : (ahead into into' : List ℕ) (n count left last : ℕ)
    (old mid new : Option (List ℕ)) (limit : Option ℕ) → CopiesLines ahead n into into' count left
    → IfSome old (λ xs. StartsWith xs ahead) → IfSome old (λ xs. length ahead ≡ 0 → xs ≡ [])
    → Keeps old mid → IfSome old (λ _. IfSome limit (λ k. length ahead ≤ k))
    → DropsConsumable mid new limit count → LeavesLines (length into') count left last
    → Consumes (limited (Some n) old) (limited (Some last) new) (take count into')
ahead_consumed ahead into into' n count left last None mid new limit c front end kept known drops l =
    tt
ahead_consumed ahead into into' n count left last (Some xs) None new limit c front end kept known
    drops l = absurd kept
ahead_consumed ahead into into' n count left last (Some xs) (Some ys) new limit c front end kept
    known drops l =
    let fits = copied_length ahead into into' n count left c in
    let dropped : new ≡ Some (drop count xs) =
    drops (limit_above count (length ahead) limit fits.0 known)
    ∙ ap (λ (z : List ℕ). Some (drop count z)) kept in
    subst
    (λ (z : Option (List ℕ)). Consumes (Some (first_lines n xs)) (limited (Some last) z)
    (take count into')) (sym dropped)
    (left_first ahead into into' xs n count left last c front end l)

pub ahead_read : (ahead into into' : List ℕ) (n count left last : ℕ)
    (old mid new : Option (List ℕ)) (limit : Option ℕ) → CopiesLines ahead n into into' count left
    → IfSome old (λ xs. StartsWith xs ahead) → IfSome old (λ xs. length ahead ≡ 0 → xs ≡ [])
    → Keeps old mid → IfSome old (λ _. IfSome limit (λ k. length ahead ≤ k))
    → DropsConsumable mid new limit count → LeavesLines (length into') count left last
    → Consumes (limited (Some n) old) (limited (Some last) new) (take count into')
    × (count ≡ 0 → 0 < length into' → IsAtEnd (limited (Some last) new))
ahead_read ahead into into' n count left last old mid new limit c front end kept known drops l = (
  ahead_consumed ahead into into' n count left last old mid new limit c front end kept known drops
      l,
  λ none some. limited_end last new (λ more. absurd (omega (arith, l.end none some, more))),
)
