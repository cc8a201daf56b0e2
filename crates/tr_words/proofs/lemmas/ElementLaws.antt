-- The elements of a string, from its front.
use Rattle.std.proofs.Common.{◌≡◌, ℕ, zero, suc, ◌+◌, ◌-◌, ◌*◌, ◌<◌, ◌≤◌, List, [], ◌∷◌, ◌++◌, Bool}
use Rattle.std.proofs.Common.{true, false, cond, get_or, drop, take, length, min, Option, Some}
use Rattle.std.proofs.Common.{None, refl, ap, ◌∙◌, sym, arith, append_assoc}
use Rattle.std.specs.Prelude.{nat_le}
use Rattle.std.specs.List.{prefix_len, take_while}
use Rattle.std.proofs.lemmas.List.{append-nil}
use Rattle.std.proofs.lemmas.List.Sums.{fold_more}
use Rattle.std.proofs.Math.Nat.{mul-le-mul, mul-le-mul_left, mul-le-mul_right}
use Rattle.std.proofs.lemmas.Bool.Decides.{nat_tests}
use Rattle.command_words.specs.Texts.{◌>>=◌}
use Rattle.tr_words.specs.declared.element.Element.{Element}
use Rattle.tr_words.specs.declared.element.Found.{Found}
use Rattle.tr_words.specs.Strings.{number, string_max, is_octal, octal_digits, escaped, written_in}
use Rattle.tr_words.specs.Strings.{escape, or_else, class_at, equivalence_at, repeat_at, range_at}
use Rattle.tr_words.specs.Strings.{first_at, elements, elements_after}

le_by : (a b : ℕ) → nat_le a b ≡ true → a ≤ b
le_by a b h = grind (arith, nat_tests)

lt_by : (a b : ℕ) → nat_le a b ≡ false → b < a
lt_by a b h = grind (arith, nat_tests)

-- one digit more of a number that is counted no further than `most`
capped_by : (b : Bool) (radix n digit most : ℕ) → nat_le n most ≡ b → 1 ≤ radix
    → min (radix * min n most + digit) most ≡ min (radix * n + digit) most
capped_by true radix n digit most low h =
    let k : n ≤ most = le_by n most low in
    let e : min n most ≡ n = omega arith in
    ap (λ (x : ℕ). min (radix * x + digit) most) e
capped_by false radix n digit most high h =
    let k : most < n = lt_by n most high in
    let e : min n most ≡ most = omega arith in
    let a : 1 * most ≤ radix * most = mul-le-mul_right most h in
    let b : radix * most ≤ radix * n = mul-le-mul_left radix (omega arith) in
    ap (λ (x : ℕ). min (radix * x + digit) most) e ∙ omega arith

pub number_more : (radix at now : ℕ) (digits : List ℕ) → 1 ≤ radix → at < length digits
    → now ≡ min (number radix (take at digits)) (string_max + 1)
    → min (radix * now + (get_or digits at 0 - 48)) (string_max + 1)
    ≡ min (number radix (take (at + 1) digits)) (string_max + 1)
number_more radix at now digits h within e =
    let f = λ (n x : ℕ). radix * n + (x - 48) in
    ap (λ (n : ℕ). min (radix * n + (get_or digits at 0 - 48)) (string_max + 1)) e
    ∙ (capped_by (nat_le (number radix (take at digits)) (string_max + 1)) radix
    (number radix (take at digits)) (get_or digits at 0 - 48) (string_max + 1) refl h
    ∙ ap (λ (n : ℕ). min n (string_max + 1)) (sym (fold_more f 0 digits at 0 within)))

pub number_fits : (radix now : ℕ) → radix ≤ 10 → now ≤ 65537 → radix * now ≤ 655370
number_fits radix now h k = let e : radix * now ≤ 10 * 65537 = mul-le-mul h k in omega arith

-- these elements, before those of what is left
abbrev pub then_elements : List Element → Option (List Element) → Option (List Element)
then_elements front rest = rest >>= λ (elements : List Element). Some (front ++ elements)

-- bytes that belong to the element before
elements_after_drop : (passed : ℕ) (xs : List ℕ)
    → elements_after passed xs ≡ elements (drop passed xs)
elements_after_drop zero xs = refl
elements_after_drop (suc passed) [] = refl
elements_after_drop (suc passed) (x ∷ xs) = elements_after_drop passed xs

drop_less : (n : ℕ) (x : ℕ) (xs : List ℕ) → 1 ≤ n → drop (n - 1) xs ≡ drop n (x ∷ xs)
drop_less zero x xs h = absurd (omega arith)
drop_less (suc n) x xs h = ap (λ (k : ℕ). drop k xs) (let e : suc n - 1 ≡ n = omega arith in e)

then_twice : (front : List Element) (element : Element) (rest : Option (List Element))
    → then_elements front (rest >>= λ (elements : List Element). Some (element ∷ elements))
    ≡ then_elements (front ++ element ∷ []) rest
then_twice front element None = refl
then_twice front element (Some elements) =
    ap Some (sym (append_assoc front (element ∷ []) elements))

-- one element more
pub element_more : (front now : List Element) (string xs rest : List ℕ) (f : Found)
    (element : Element) → first_at xs ≡ Some f → f.element ≡ Some element → 1 ≤ f.length
    → rest ≡ drop f.length xs → now ≡ front ++ element ∷ []
    → then_elements front (elements xs) ≡ elements string
    → then_elements now (elements rest) ≡ elements string
element_more front now string [] rest f element h e some r k inv = absurd (cc)
element_more front now string (x ∷ xs) rest f element h e some r k inv =
    let g = λ (o : Option Found). o >>= λ (f : Found). f.element >>= λ (element : Element).
    elements_after (f.length - 1) xs >>= λ (elements : List Element). Some
    (element ∷ elements) in
    let whole : elements (x ∷ xs)
    ≡ (elements rest >>= λ (elements : List Element). Some (element ∷ elements)) =
    ap g h
    ∙ (ap (λ (o : Option Element). o >>= λ (element : Element). elements_after
    (f.length - 1) xs >>= λ (elements : List Element). Some (element ∷ elements)) e
    ∙ ap (λ (o : Option (List Element)). o >>= λ (elements : List Element). Some
    (element ∷ elements)) (elements_after_drop (f.length - 1) xs
    ∙ ap elements (drop_less f.length x xs some ∙ sym r))) in
    ap (λ (l : List Element). then_elements l (elements rest)) k
    ∙ (sym (then_twice front element (elements rest))
    ∙ (ap (then_elements front) (sym whole) ∙ inv))

-- a refused element in front
pub element_refused : (front : List Element) (string xs : List ℕ) (f : Found) → first_at xs ≡ Some f
    → f.element ≡ None → then_elements front (elements xs) ≡ elements string
    → elements string ≡ None
element_refused front string [] f h e inv = absurd (cc)
element_refused front string (x ∷ xs) f h e inv =
    let g = λ (o : Option Found). o >>= λ (f : Found). f.element >>= λ (element : Element).
    elements_after (f.length - 1) xs >>= λ (elements : List Element). Some
    (element ∷ elements) in
    sym inv ∙ ap (then_elements front) (ap g h
    ∙ ap (λ (o : Option Element). o >>= λ (element : Element). elements_after
    (f.length - 1) xs >>= λ (elements : List Element). Some (element ∷ elements)) e)

-- no element is left
pub elements_end : (front : List Element) (string xs : List ℕ) → xs ≡ []
    → then_elements front (elements xs) ≡ elements string → elements string ≡ Some front
elements_end front string xs e inv =
    sym inv ∙ (ap (λ (l : List ℕ). then_elements front (elements l)) e ∙ ap Some (append-nil front))

-- ---- the end of a string

never_none : (a b c d : Option Found) (f : Found)
    → or_else a (or_else b (or_else c (or_else d (Some f)))) ≡ None → ⊥
never_none (Some x) b c d f h = cc
never_none None (Some x) c d f h = cc
never_none None None (Some x) d f h = cc
never_none None None None (Some x) f h = cc
never_none None None None None f h = cc

-- a string that is not empty begins with some element
pub nothing_left : (xs : List ℕ) → first_at xs ≡ None → xs ≡ []
nothing_left [] h = refl
nothing_left (x ∷ xs) h =
    absurd (never_none (class_at (x ∷ xs)) (equivalence_at (x ∷ xs)) (repeat_at (x ∷ xs))
    (range_at (x ∷ xs)) _ h)

-- ---- octal digits

octal_below : (x : ℕ) → is_octal x ≡ true → x ≤ 55
octal_below x h = grind (arith, nat_tests)

second_by : (b : Bool) (x y : ℕ) (ys : List ℕ) → x ≤ 55 → is_octal y ≡ b
    → number 8 (x ∷ take 1 (take (cond b (1 + prefix_len is_octal ys) 0) (y ∷ ys))) ≤ 255
second_by false x y ys low e = omega arith
second_by true x y ys low e =
    let s : 1 + prefix_len is_octal ys ≡ suc (prefix_len is_octal ys) = omega arith in
    let below = octal_below y e in
    rw s (omega arith)

second_small : (x : ℕ) (ys : List ℕ) → x ≤ 55
    → number 8 (x ∷ take 1 (take (prefix_len is_octal ys) ys)) ≤ 255
second_small x [] low = omega arith
second_small x (y ∷ ys) low = second_by (is_octal y) x y ys low refl

first_by : (b : Bool) (x : ℕ) (xs : List ℕ) → is_octal x ≡ b
    → number 8 (take 2 (take (cond b (1 + prefix_len is_octal xs) 0) (x ∷ xs))) ≤ 255
first_by false x xs e = omega arith
first_by true x xs e =
    let s : 1 + prefix_len is_octal xs ≡ suc (prefix_len is_octal xs) = omega arith in
    rw s (second_small x xs (octal_below x e))

two_are_small : (xs : List ℕ) → number 8 (take 2 (take_while is_octal xs)) ≤ 255
two_are_small [] = omega arith
two_are_small (x ∷ xs) = first_by (is_octal x) x xs refl

chosen_by : (b : Bool) (digits : List ℕ) → nat_le (number 8 digits) 255 ≡ b
    → number 8 (take 2 digits) ≤ 255 → number 8 (cond b digits (take 2 digits)) ≤ 255
chosen_by true digits e h = le_by (number 8 digits) 255 e
chosen_by false digits e h = h

-- the octal digits of an escape mean a byte
pub octal_fits : (xs : List ℕ) → number 8 (octal_digits xs) ≤ 255
octal_fits xs =
    let digits = take_while is_octal (take 3 xs) in
    chosen_by (nat_le (number 8 digits) 255) digits refl (two_are_small (take 3 xs))

pub not_capped : (n m : ℕ) → n ≡ min m 65537 → m ≤ 255 → n ≡ m
not_capped n m e h = omega arith

-- what an octal escape is
pub escape_octal : (xs digits : List ℕ) (n : ℕ) → 1 ≤ length xs → is_octal (get_or xs 0 0) ≡ true
    → digits ≡ octal_digits xs → number 8 digits ≤ 255 → n ≡ min (number 8 digits) 65537
    → written_in n (length digits + 1) ≡ escape xs
escape_octal [] digits n some h e small k = absurd (omega arith)
escape_octal (x ∷ xs) digits n some h e small k =
    let same : n ≡ number 8 (octal_digits (x ∷ xs)) = not_capped n (number 8 digits) k small
    ∙ ap (number 8) e in
    let many : length digits + 1 ≡ length (octal_digits (x ∷ xs)) + 1 =
    ap (λ (d : List ℕ). length d + 1) e in
    ap (λ (n : ℕ). written_in n (length digits + 1)) same
    ∙ (ap (written_in (number 8 (octal_digits (x ∷ xs)))) many
    ∙ ap (λ (b : Bool). cond b (written_in (number 8 (octal_digits (x ∷ xs)))
    (length (octal_digits (x ∷ xs)) + 1)) (written_in (escaped x) 2)) (sym h))
