-- Tables and sets that are filled byte by byte.
use Rattle.std.proofs.Common.{◌≡◌, ◌≢◌, ℕ, ◌+◌, ◌<◌, ◌≤◌, List, [], ◌∷◌, ◌++◌, Bool, true, false}
use Rattle.std.proofs.Common.{cond, eqb, get_or, set, drop, take, length, refl, ap, ◌∙◌, sym, arith}
use Rattle.std.proofs.Common.{append_assoc, drop_of_length-le}
use Rattle.std.proofs.lemmas.Bool.{eqb-true, eq-eqb}
use Rattle.std.specs.Prelude.{map, ◌||◌}
use Rattle.std.proofs.lemmas.List.{append-nil, drop_more, take_more, get_or-set_same}
use Rattle.std.proofs.lemmas.List.{get_or-set_other}
use Rattle.std.proofs.lemmas.List.Folds.{list_any-append}
use Rattle.std.proofs.lemmas.List.FromFn.{fill_by_all, get_or-map-range_with_len}
use Rattle.tr_words.specs.Classes.{all_bytes}
use Rattle.tr_words.specs.Tables.{is_among, continued, pairs_of, last_for}

last_for-push : (default x : ℕ) (pairs : List (ℕ × ℕ)) (p : ℕ × ℕ)
    → last_for default x (pairs ++ p ∷ []) ≡ cond (eqb p.0 x) p.1 (last_for default x pairs)
last_for-push default x [] p = refl
last_for-push default x (q ∷ pairs) p = last_for-push (cond (eqb q.0 x) q.1 default) x pairs p

-- the pairs of the first `at` bytes were entered, and `rest` is left of the second string
pub record HasEntered (old table bytes1 bytes2 : List ℕ) (at : ℕ) (rest : List ℕ) : Type 0 where
  pub pairs : List (ℕ × ℕ)
  pub split : pairs_of bytes1 bytes2 ≡ pairs ++ pairs_of (drop at bytes1) rest
  pub some : 1 ≤ length rest
  pub entries : (x : ℕ) → x < 256 → get_or table x 0 ≡ last_for (get_or old x 0) x pairs

pub entered_none : (old bytes1 bytes2 : List ℕ) → 1 ≤ length bytes2
    → HasEntered old old bytes1 bytes2 0 bytes2
entered_none old bytes1 bytes2 some =
    record { pairs = []; split = refl; some = some; entries = λ x h. refl }

pairs_of-first : (x : ℕ) (xs ys : List ℕ) → 1 ≤ length ys
    → pairs_of (x ∷ xs) ys ≡ (x, get_or ys 0 0) ∷ pairs_of xs
    (continued (get_or ys 0 0) (drop 1 ys))
pairs_of-first x xs [] h = absurd (omega arith)
pairs_of-first x xs (y ∷ ys) h = refl

entry_by : (b : Bool) (table : List ℕ) (byte value x old : ℕ) → eqb byte x ≡ b → byte < length table
    → get_or table x 0 ≡ old → get_or (set table byte value) x 0 ≡ cond b value old
entry_by true table byte value x old e within h =
    ap (λ (k : ℕ). get_or (set table byte value) k 0) (sym (eqb-true byte x e))
    ∙ get_or-set_same table byte value 0 within
entry_by false table byte value x old e within h =
    let apart : x ≢ byte = λ same. let t : eqb byte x ≡ true = eq-eqb byte x (sym same) in
    absurd (cc) in
    get_or-set_other table byte x value 0 apart ∙ h

pub entered_more : (old table bytes1 bytes2 : List ℕ) (at byte : ℕ) (rest rest' : List ℕ)
    → at < length bytes1 → byte ≡ get_or bytes1 at 0 → byte < length table
    → rest' ≡ continued (get_or rest 0 0) (drop 1 rest) → 1 ≤ length rest'
    → HasEntered old table bytes1 bytes2 at rest
    → HasEntered old (set table byte (get_or rest 0 0)) bytes1 bytes2 (at + 1) rest'
entered_more old table bytes1 bytes2 at byte rest rest' within is fits next some e =
    let p : ℕ × ℕ = (byte, get_or rest 0 0) in
    let first : pairs_of (drop at bytes1) rest ≡ p ∷ pairs_of (drop (at + 1) bytes1) rest' =
    ap (λ (x : List ℕ). pairs_of x rest) (drop_more bytes1 at 0 within)
    ∙ (pairs_of-first (get_or bytes1 at 0) (drop (at + 1) bytes1) rest e.some
    ∙ (ap (λ (k : ℕ). (k, get_or rest 0 0) ∷ pairs_of (drop (at + 1) bytes1)
    (continued (get_or rest 0 0) (drop 1 rest))) (sym is)
    ∙ ap (λ (x : List ℕ). p ∷ pairs_of (drop (at + 1) bytes1) x) (sym next))) in
    record {
      pairs = e.pairs ++ p ∷ [];
      split = e.split ∙ (ap (λ (x : List (ℕ × ℕ)). e.pairs ++ x) first
          ∙ sym (append_assoc e.pairs (p ∷ []) (pairs_of (drop (at + 1) bytes1) rest')));
      some = some;
      entries = λ x h.
          entry_by (eqb byte x) table byte (get_or rest 0 0) x
          (last_for (get_or old x 0) x e.pairs) refl fits (e.entries x h)
          ∙ sym (last_for-push (get_or old x 0) x e.pairs p);
    }

pairs_of_none : (ys : List ℕ) → pairs_of [] ys ≡ []
pairs_of_none ys = refl

pub entered_all : (old table bytes1 bytes2 : List ℕ) (at : ℕ) (rest : List ℕ) → length bytes1 ≤ at
    → HasEntered old table bytes1 bytes2 at rest → (x : ℕ) → x < 256
    → get_or table x 0 ≡ last_for (get_or old x 0) x (pairs_of bytes1 bytes2)
entered_all old table bytes1 bytes2 at rest end e x h =
    let none : drop at bytes1 ≡ [] = drop_of_length-le bytes1 end in
    e.entries x h
    ∙ ap (last_for (get_or old x 0) x) (sym (append-nil e.pairs)
    ∙ (ap (λ (b : List ℕ). e.pairs ++ pairs_of b rest) (sym none) ∙ sym e.split))

-- a string that means nothing is paired with nothing
pub nothing_entered : (x default : ℕ) (bytes1 bytes2 : List ℕ) → bytes2 ≡ []
    → default ≡ last_for default x (pairs_of bytes1 bytes2)
nothing_entered x default [] bytes2 e = refl
nothing_entered x default (y ∷ ys) bytes2 e =
    ap (λ (b : List ℕ). last_for default x (pairs_of (y ∷ ys) b)) (sym e)

same_by : (b : Bool) (table : List ℕ) (byte x : ℕ) → eqb byte x ≡ b → byte < length table
    → ((y : ℕ) → y < byte → get_or table y 0 ≡ y) → x < byte + 1
    → get_or (set table byte byte) x 0 ≡ x
same_by true table byte x e within h low =
    let same : byte ≡ x = eqb-true byte x e in
    ap (λ (k : ℕ). get_or (set table byte byte) k 0) (sym same)
    ∙ (get_or-set_same table byte byte 0 within ∙ same)
same_by false table byte x e within h low =
    let apart : x ≢ byte = λ same. let t : eqb byte x ≡ true = eq-eqb byte x (sym same) in
    absurd (cc) in
    get_or-set_other table byte x byte 0 apart ∙ h x (omega arith)

-- one entry more of the table that leaves each byte as it is
pub same_more : (table : List ℕ) (byte : ℕ) → byte < length table
    → ((x : ℕ) → x < byte → get_or table x 0 ≡ x) → (x : ℕ) → x < byte + 1
    → get_or (set table byte byte) x 0 ≡ x
same_more table byte within h x low = same_by (eqb byte x) table byte x refl within h low

-- a list that is empty
pub none_left : (xs : List ℕ) (b : Bool) → b ≡ eqb (length xs) 0 → b ≡ true → xs ≡ []
none_left [] b e h = refl
none_left (x ∷ xs) b e h =
    let n : length (x ∷ xs) ≡ 0 = eqb-true (length (x ∷ xs)) 0 (sym e ∙ h) in
    absurd (omega arith)

-- a list by its entries
pub entries_are : {X : Type 0} (f : ℕ → X) (xs : List X) (d : X) → length xs ≡ 256
    → ((x : ℕ) → x < 256 → get_or xs x d ≡ f x) → xs ≡ map f all_bytes
unfolding all_bytes
entries_are f xs d long h = fill_by_all f xs 256 d long h

pub entry_is : {X : Type 0} (f : ℕ → X) (x : ℕ) (d : X) → x < 256
    → get_or (map f all_bytes) x d ≡ f x
unfolding all_bytes
entry_is f x d h = get_or-map-range_with_len f 0 256 x x d h (omega arith)

-- ---- sets

or_true : (b : Bool) → true ≡ (b || (true || false))
or_true true = refl
or_true false = refl

or_false : (b : Bool) → b ≡ (b || (false || false))
or_false true = refl
or_false false = refl

among_more : (x : ℕ) (bytes : List ℕ) (at : ℕ) → at < length bytes
    → is_among x (take (at + 1) bytes)
    ≡ (is_among x (take at bytes) || (eqb (get_or bytes at 0) x || false))
among_more x bytes at h = ap (is_among x) (take_more bytes at 0 h)
    ∙ list_any-append (λ y. eqb y x) (take at bytes) (get_or bytes at 0 ∷ [])

marked_by : (b : Bool) (set' : List Bool) (byte x : ℕ) (before : Bool) → eqb byte x ≡ b
    → byte < length set' → get_or set' x false ≡ before
    → get_or (set set' byte true) x false ≡ (before || (b || false))
marked_by true set' byte x before e within h =
    ap (λ (k : ℕ). get_or (set set' byte true) k false) (sym (eqb-true byte x e))
    ∙ (get_or-set_same set' byte true false within ∙ or_true before)
marked_by false set' byte x before e within h =
    let apart : x ≢ byte = λ same. let t : eqb byte x ≡ true = eq-eqb byte x (sym same) in
    absurd (cc) in
    get_or-set_other set' byte x true false apart ∙ (h ∙ or_false before)

-- one byte more of a set
pub marked_more : (set' : List Bool) (bytes : List ℕ) (at byte : ℕ) → at < length bytes
    → byte ≡ get_or bytes at 0 → byte < length set'
    → ((x : ℕ) → x < 256 → get_or set' x false ≡ is_among x (take at bytes)) → (x : ℕ) → x < 256
    → get_or (set set' byte true) x false ≡ is_among x (take (at + 1) bytes)
marked_more set' bytes at byte within is fits h x low =
    marked_by (eqb byte x) set' byte x (is_among x (take at bytes)) refl fits (h x low)
    ∙ (ap (λ (y : ℕ). is_among x (take at bytes) || (eqb y x || false)) is
    ∙ sym (among_more x bytes at within))
