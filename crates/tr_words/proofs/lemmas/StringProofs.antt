-- The laws of tr's strings and tables.
use Rattle.std.proofs.Common.{◌≡◌, ◌≢◌, ◌∙◌, ◌+◌, ◌-◌, ◌<◌, ◌≤◌, ℕ, zero, suc, List, [], ◌∷◌, ◌++◌}
use Rattle.std.proofs.Common.{Bool, true, false, cond, drop, eqb, length, length-append, min}
use Rattle.std.proofs.Common.{Option, Some, None, refl, ap, sym, arith}
use Rattle.std.specs.Prelude.{codes, nat_le, take, option_map}
use Rattle.std.specs.List.{flat_map, prefix_len, repeat}
use Rattle.std.proofs.lemmas.Grind.{flat_map-append}
use Rattle.std.proofs.lemmas.Bool.{eqb-true}
use Rattle.std.proofs.lemmas.Bool.Decides.{nat_tests}
use Rattle.command_words.specs.Texts.{◌>>=◌}
use Rattle.tr_words.specs.Classes.{begins, is_digit}
use Rattle.tr_words.specs.Expansions.{expanded, written}
use Rattle.tr_words.specs.StringLaws.{HasNone, LastPairsHold, RepeatsAreCapped, StringsAreCut}
use Rattle.tr_words.specs.Strings.{byte_at, class_at, elements, elements_after, equivalence_at}
use Rattle.tr_words.specs.Strings.{escape, first_at, found, or_else, range_at, repeat_at}
use Rattle.tr_words.specs.Strings.{repeat_count, single_at, string_max, written_in}
use Rattle.tr_words.specs.Tables.{last_for}
use Rattle.tr_words.specs.declared.element.Element.{Element}
use Rattle.tr_words.specs.declared.element.Element.TheVariants.{Equivalence, Repeat}
use Rattle.tr_words.specs.declared.element.Found.{Found}
use Rattle.tr_words.specs.declared.element.Single.{Single}

-- ---- each element is written in a byte at least

abbrev IsLong : Option Found → Type 0
IsLong None = Unit {0}
IsLong (Some f) = 1 ≤ f.length

abbrev IsWritten : Option Single → Type 0
IsWritten None = Unit {0}
IsWritten (Some s) = 1 ≤ s.length

either : (b : Bool) (o p : Option Found) → IsLong o → IsLong p → IsLong (cond b o p)
either true o p h k = h
either false o p h k = k

first_or : (o p : Option Found) → IsLong o → IsLong p → IsLong (or_else o p)
first_or None p h k = k
first_or (Some f) p h k = h

behind : (o : Option Single) (f : Single → Option Found) → IsWritten o
    → ((s : Single) → 1 ≤ s.length → IsLong (f s)) → IsLong (o >>= f)
behind None f h k = tt
behind (Some s) f h k = k s h

written_by : (b : Bool) (x y n : ℕ) → 1 ≤ (cond b (written_in x (n + 1)) (written_in y 2)).length
written_by true x y n = omega arith
written_by false x y n = omega arith

written_escape : (xs : List ℕ) → 1 ≤ (escape xs).length
written_escape [] = omega arith
written_escape (x ∷ xs) = written_by _ _ _ _

written_or : (b : Bool) (s : Single) (x : ℕ) → 1 ≤ s.length → 1 ≤ (cond b s (written_in x 1)).length
written_or true s x h = h
written_or false s x h = omega arith

written_single : (xs : List ℕ) → IsWritten (single_at xs)
written_single [] = tt
written_single (x ∷ xs) = written_or _ _ _ (written_escape xs)

class_by : (a b : Bool) (e : Option Element) (n : ℕ)
    → IsLong (cond a (cond b (Some (found e (n + 4))) None) None)
class_by true true e n = omega arith
class_by true false e n = tt
class_by false b e n = tt

long_class : (xs : List ℕ) → IsLong (class_at xs)
long_class xs = class_by _ _ _ _

found_by : (b : Bool) (e : Option Element) (n : ℕ) → 1 ≤ n → IsLong (cond b (Some (found e n)) None)
found_by true e n h = h
found_by false e n h = tt

equivalence_by : (a : Bool) (o : Option Single) (b : Single → Bool) (e : Single → Option Element)
    → IsLong (cond a (o >>= λ x. cond (b x) (Some (found (e x) (x.length + 4))) None) None)
equivalence_by false o b e = tt
equivalence_by true None b e = tt
equivalence_by true (Some s) b e = found_by (b s) (e s) (s.length + 4) (omega arith)

long_equivalence : (xs : List ℕ) → IsLong (equivalence_at xs)
long_equivalence xs =
    equivalence_by (begins (codes "[=") xs) (single_at (drop 2 xs))
    (λ x. begins (codes "=]") (drop x.length (drop 2 xs))) (λ x. Some (Equivalence x.byte))

repeat_by : (b c : Bool) (e : Option Element) (n : ℕ)
    → IsLong (cond b (cond c (Some (found e (n + 1))) None) None)
repeat_by true c e n = found_by c e (n + 1) (omega arith)
repeat_by false c e n = tt

repeat_of_by : (a : Bool) (o : Option Single) (b c : Single → Bool) (e : Single
    → Option Element) (n : Single → ℕ)
    → IsLong (cond a (o >>= λ x. cond (b x) (cond (c x) (Some (found (e x) (n x + 1))) None) None)
    None)
repeat_of_by false o b c e n = tt
repeat_of_by true None b c e n = tt
repeat_of_by true (Some s) b c e n = repeat_by (b s) (c s) (e s) (n s)

long_repeat : (xs : List ℕ) → IsLong (repeat_at xs)
long_repeat xs =
    repeat_of_by (begins (codes "[") xs) (single_at (drop 1 xs))
    (λ x. begins (codes "*") (drop x.length (drop 1 xs)))
    (λ x. begins (codes "]") (drop (digits x) (drop (x.length + 2) xs)))
    (λ x. option_map (Repeat x.byte) (repeat_count (take (digits x) (drop (x.length + 2) xs))))
    (λ x. x.length + 2 + digits x)
  where
    digits : Single → ℕ
    digits x = prefix_len is_digit (drop (x.length + 2) xs)

long_range : (xs : List ℕ) → IsLong (range_at xs)
long_range xs = behind (single_at xs) _ (written_single xs)
    (λ s h. either _ _ None (behind (single_at (drop (s.length + 1) xs)) _
    (written_single (drop (s.length + 1) xs)) (λ t k. omega arith)) tt)

long_byte : (xs : List ℕ) → IsLong (byte_at xs)
long_byte xs = behind (single_at xs) _ (written_single xs) (λ s h. h)

long_first : (xs : List ℕ) → IsLong (first_at xs)
long_first xs = first_or _ _ (long_class xs)
    (first_or _ _ (long_equivalence xs)
    (first_or _ _ (long_repeat xs) (first_or _ _ (long_range xs) (long_byte xs))))

-- ---- a string is cut behind its first element

after_drop : (passed : ℕ) (xs : List ℕ) → elements_after passed xs ≡ elements (drop passed xs)
after_drop zero xs = refl
after_drop (suc passed) [] = refl
after_drop (suc passed) (x ∷ xs) = after_drop passed xs

follows : (o : Option Found) (x : ℕ) (xs : List ℕ) → IsLong o
    → (o >>= λ f. f.element >>= λ element. elements_after (f.length - 1) xs >>= λ others. Some
    (element ∷ others))
    ≡ (o >>= λ f. f.element >>= λ element. elements (drop f.length (x ∷ xs)) >>= λ others. Some
    (element ∷ others))
follows None x xs h = refl
follows (Some f) x xs h =
    ap (λ rest. f.element >>= λ element. rest >>= λ others. Some (element ∷ others))
    (after_drop (f.length - 1) xs ∙ same f.length h)
  where
    same : (n : ℕ) → 1 ≤ n → elements (drop (n - 1) xs) ≡ elements (drop n (x ∷ xs))
    same zero k = absurd (omega arith)
    same (suc n) k = let e : suc n - 1 ≡ n = omega arith in ap (λ m. elements (drop m xs)) e

pub strings_are_cut : StringsAreCut
strings_are_cut x xs = follows (first_at (x ∷ xs)) x xs (long_first (x ∷ xs))

-- ---- long repeats

repeated : (n x : ℕ) → length (repeat n (x ∷ [])) ≡ n
repeated zero x = refl
repeated (suc n) x = ap suc (repeated n x)

refused : (b : Bool) (es : List Element) (needed : ℕ)
    → nat_le (length (flat_map (written needed) es)) string_max ≡ b → b ≡ false
    → expanded needed es ≡ None
refused b es needed is none = rw (is ∙ none) refl

-- a repeat of too many bytes
too_long : (needed x n : ℕ) (before after : List Element) → string_max < n
    → expanded needed (before ++ Repeat x n ∷ after) ≡ None
too_long needed x n before after long =
    let own : length (written needed (Repeat x n)) ≡ n = asked n (omega arith) in
    let all = ap length (flat_map-append (written needed) before (Repeat x n ∷ after))
    ∙ length-append (flat_map (written needed) before)
    (flat_map (written needed) (Repeat x n ∷ after)) in
    let behind = length-append (written needed (Repeat x n)) (flat_map (written needed) after) in
    let more : string_max < length (flat_map (written needed) (before ++ Repeat x n ∷ after)) =
    omega (arith, all, behind, own) in
    refused _ (before ++ Repeat x n ∷ after) needed refl
    (above (length (flat_map (written needed) (before ++ Repeat x n ∷ after))) more)
  where
    asked : (k : ℕ) → 1 ≤ k → length (repeat (cond (eqb k 0) needed k) (x ∷ [])) ≡ k
    asked k h =
        let some : eqb k 0 ≡ false = grind (arith, nat_tests) in
        ap (λ b. length (repeat (cond b needed k) (x ∷ []))) some ∙ repeated k x

    above : (k : ℕ) → string_max < k → nat_le k string_max ≡ false
    above k h = grind (arith, nat_tests)

capped : (b : Bool) (needed x n : ℕ) (before after : List Element) → nat_le n string_max ≡ b
    → expanded needed (before ++ Repeat x (min n (string_max + 1)) ∷ after)
    ≡ expanded needed (before ++ Repeat x n ∷ after)
capped true needed x n before after short =
    let few : n ≤ string_max = grind (arith, nat_tests) in
    let same : min n (string_max + 1) ≡ n = omega arith in
    ap (λ k. expanded needed (before ++ Repeat x k ∷ after)) same
capped false needed x n before after short =
    let many : string_max < n = grind (arith, nat_tests) in
    too_long needed x (min n (string_max + 1)) before after (omega arith)
    ∙ sym (too_long needed x n before after many)

pub repeats_are_capped : RepeatsAreCapped
repeats_are_capped needed x n before after =
    capped (nat_le n string_max) needed x n before after refl

-- ---- the last pair

differs : (b : Bool) (p x y z : ℕ) → eqb p x ≡ b → p ≢ x → cond b y z ≡ z
differs true p x y z is other = absurd (other (eqb-true p x is))
differs false p x y z is other = refl

-- the pairs after the first
others : (x : ℕ) (p : ℕ × ℕ) (pairs : List (ℕ × ℕ)) → HasNone x (p ∷ pairs) → HasNone x pairs
others x p pairs none = λ k d less. none (suc k) d (omega (arith, less))

stays : (default x : ℕ) (pairs : List (ℕ × ℕ)) → HasNone x pairs
    → last_for default x pairs ≡ default
stays default x [] none = refl
stays default x (p ∷ pairs) none =
    ap (λ d. last_for d x pairs) (differs (eqb p.0 x) p.0 x p.1 default refl
    (none 0 p (omega arith))) ∙ stays default x pairs (others x p pairs none)

last : (default x y : ℕ) (before after : List (ℕ × ℕ)) → HasNone x after
    → last_for default x (before ++ (x, y) ∷ after) ≡ y
last default x y [] after none =
    let own : eqb x x ≡ true = grind (arith, nat_tests) in
    ap (λ b. last_for (cond b y default) x after) own ∙ stays y x after none
last default x y (p ∷ before) after none = last (cond (eqb p.0 x) p.1 default) x y before after none

pub last_pairs_hold : LastPairsHold
last_pairs_hold = record { last = last; none = stays }
