-- Options that were given, and numbers that are read digit by digit.
use Rattle.std.proofs.Common.{◌≡◌, ℕ, zero, suc, ◌+◌, ◌-◌, ◌*◌, ◌<◌, ◌≤◌, Bool, true, false, cond}
use Rattle.std.proofs.Common.{not, eqb, leb, List, [], ◌∷◌, length, get_or, drop, Option, Some}
use Rattle.std.proofs.Common.{None, refl, ap, ◌∙◌, sym, arith}
use Rattle.std.specs.Prelude.{◌&&◌}
use Rattle.std.specs.List.{list_all}
use Rattle.std.proofs.lemmas.Bool.{le-leb, leb-true, leb-false, lt-leb, ne_eqb, and_right}
use Rattle.std.proofs.lemmas.List.{drop_more}
use Rattle.command_words.specs.Options.{Given}
use Rattle.command_words.specs.Texts.{◌>>=◌}
use Rattle.command_words.specs.Arguments.{argument, own_argument, first_of_two}
use Rattle.command_words.specs.Numbers.{is_digit, greatest, written_behind, number}
use Rattle.command_words.specs.inner.NumberSteps.{with_digit, with_digits}

pub some_from : (l : List ℕ) → eqb (length l) 0 ≡ false → 1 ≤ length l
some_from [] h = absurd (cc)
some_from (x ∷ xs) h = omega arith

grows : (n : ℕ) (xs : List ℕ) → n ≤ written_behind n xs
grows n [] = omega arith
grows n (x ∷ xs) = let more = grows (n * 10 + (x - 48)) xs in omega (arith, more)

digits_by : (digit small : Bool) (x m : ℕ) (xs : List ℕ) → leb m greatest ≡ small
    → (m ≤ greatest
    → with_digits m xs ≡ cond (list_all is_digit xs && leb (written_behind m xs) greatest)
    (Some (written_behind m xs)) None)
    → (cond (digit && small) (Some m) None >>= λ k. with_digits k xs)
    ≡ cond ((digit && list_all is_digit xs) && leb (written_behind m xs) greatest)
    (Some (written_behind m xs)) None
digits_by false small x m xs e later = refl
digits_by true true x m xs e later = later (leb-true m greatest e)
digits_by true false x m xs e later =
    let high : greatest < m = leb-false m greatest e in
    let more = grows m xs in
    sym (ap (λ (b : Bool). cond (list_all is_digit xs && b) (Some (written_behind m xs)) None)
    (lt-leb (written_behind m xs) greatest (omega (arith, more, high)))
    ∙ ap (λ (b : Bool). cond b (Some (written_behind m xs)) None)
    (and_right (list_all is_digit xs) false refl))

digits_are : (n : ℕ) (xs : List ℕ) → n ≤ greatest
    → with_digits n xs ≡ cond (list_all is_digit xs && leb (written_behind n xs) greatest)
    (Some (written_behind n xs)) None
digits_are n [] h = ap (λ (b : Bool). cond b (Some n) None) (sym (le-leb n greatest h))
digits_are n (x ∷ xs) h =
    digits_by (is_digit x) (leb (n * 10 + (x - 48)) greatest) x (n * 10 + (x - 48)) xs refl
    (λ low. digits_are (n * 10 + (x - 48)) xs low)

not_nil : (x : ℕ) (xs : List ℕ) → eqb (length (x ∷ xs)) 0 ≡ false
not_nil x xs = ne_eqb (length (x ∷ xs)) 0 (λ h. omega arith)

pub number_is : (word : List ℕ) → 1 ≤ length word → with_digits 0 word ≡ number word
number_is [] some = absurd (omega (arith, some))
number_is (x ∷ xs) some =
    digits_are 0 (x ∷ xs) (omega arith)
    ∙ ap
    (λ (b : Bool). cond
    (not b && (list_all is_digit (x ∷ xs) && leb (written_behind 0 (x ∷ xs)) greatest))
    (Some (written_behind 0 (x ∷ xs))) None) (sym (not_nil x xs))

-- one digit more
pub digits_more : (word : List ℕ) (value i byte next : ℕ) → i < length word
    → byte ≡ get_or word i byte → with_digits 0 word ≡ with_digits value (drop i word)
    → Some next ≡ with_digit value byte → with_digits 0 word ≡ with_digits next (drop (i + 1) word)
digits_more word value i byte next low read e d =
    e ∙ (ap (with_digits value) (drop_more word i byte low)
    ∙ (ap (λ (x : ℕ). with_digits value (x ∷ drop (i + 1) word)) (sym read)
    ∙ ap (λ (o : Option ℕ). o >>= λ m. with_digits m (drop (i + 1) word)) (sym d)))

pub digits_refused : (word : List ℕ) (value i byte : ℕ) → i < length word
    → byte ≡ get_or word i byte → with_digits 0 word ≡ with_digits value (drop i word)
    → None ≡ with_digit value byte → with_digits 0 word ≡ None
digits_refused word value i byte low read e d =
    e ∙ (ap (with_digits value) (drop_more word i byte low)
    ∙ (ap (λ (x : ℕ). with_digits value (x ∷ drop (i + 1) word)) (sym read)
    ∙ ap (λ (o : Option ℕ). o >>= λ m. with_digits m (drop (i + 1) word)) (sym d)))

small_by : (b c : Bool) (m next : ℕ) → leb m greatest ≡ c → Some next ≡ cond (b && c) (Some m) None
    → next ≤ greatest
small_by true true m next e d =
    let low : m ≤ greatest = leb-true m greatest e in
    let same : next ≡ m = cc in
    omega arith
small_by true false m next e d = absurd (cc)
small_by false c m next e d = absurd (cc)

pub digit_small : (value byte next : ℕ) → Some next ≡ with_digit value byte → next ≤ greatest
digit_small value byte next d = small_by (is_digit byte) (leb (value * 10 + (byte - 48)) greatest)
    (value * 10 + (byte - 48)) next refl d

-- the argument of a later option
pub argument_up : (letter : ℕ) (given : List Given) (k : ℕ) (word : List ℕ)
    → argument letter (drop k given) ≡ Some word → argument letter given ≡ Some word
argument_up letter given zero word h = h
argument_up letter [] (suc k) word h = h
argument_up letter (g ∷ given) (suc k) word h =
    ap (λ (o : Option (List ℕ)). first_of_two o (own_argument letter g))
    (argument_up letter given k word h)

pub argument_here : (letter : ℕ) (given : List Given) (at : ℕ) (g : Given) → at < length given
    → g ≡ get_or given at g → argument letter (drop (at + 1) given) ≡ None
    → argument letter (drop at given) ≡ own_argument letter g
argument_here letter given at g low read none =
    ap (argument letter) (drop_more given at g low)
    ∙ (ap (λ (x : Given). argument letter (x ∷ drop (at + 1) given)) (sym read)
    ∙ ap (λ (o : Option (List ℕ)). first_of_two o (own_argument letter g)) none)
