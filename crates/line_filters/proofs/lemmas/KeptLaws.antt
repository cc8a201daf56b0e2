-- Bytes that are kept.
use Rattle.std.proofs.Common.{◌≡◌, ℕ, suc, ◌+◌, ◌-◌, ◌*◌, ◌<◌, ◌≤◌, ◌^◌, Bool, true, false, cond}
use Rattle.std.proofs.Common.{not, eqb, List, [], ◌∷◌, ◌++◌, length, get_or, take, drop, refl, ap}
use Rattle.std.proofs.Common.{◌∙◌, sym, subst, arith, append_assoc, length-append}
use Rattle.std.specs.List.{All, concat, count_by, sum_by, onto_first}
use Rattle.std.proofs.lemmas.List.{append-nil, take_all, take_more}
use Rattle.std.proofs.lemmas.List.Elements.{All-head, All-tail, All-push, All-cons, All-nil}
use Rattle.std.proofs.lemmas.List.Sums.{count_by-le-length, sum_by-append, sum_by-cons, sum_by_push}
use Rattle.machine.specs.Lines.{lines, newline}
use Rattle.line_filters.specs.declared.held.Held.{Held}
use Rattle.commands.specs.declared.tail_words.Counted.{Counted}
use Rattle.commands.specs.declared.tail_words.Counted.TheVariants.{Lines, Bytes}
use Rattle.line_filters.specs.KeptParts.{amount_of, ends_open, held_bytes, AreCounted, later_bytes}
use Rattle.line_filters.specs.KeptParts.{kept_bytes}
use Rattle.line_filters.specs.Skips.{members_in, last_of}
use Rattle.line_filters.proofs.lemmas.TailLaws.{drop_past}

pub held-push : (hs : List Held) (h : Held)
    → held_bytes (hs ++ h ∷ []) ≡ held_bytes hs ++ h.bytes.items
held-push [] h = append-nil h.bytes.items
held-push (g ∷ hs) h = ap (λ (x : List ℕ). g.bytes.items ++ x) (held-push hs h)
    ∙ sym (append_assoc g.bytes.items (held_bytes hs) h.bytes.items)

ends-append : (xs ys : List ℕ) → 1 ≤ length ys → ends_open (xs ++ ys) ≡ ends_open ys
ends-append [] ys h = refl
ends-append (x ∷ []) [] h = absurd (omega (arith, h))
ends-append (x ∷ []) (y ∷ ys) h = refl
ends-append (x ∷ w ∷ ws) ys h = ends-append (w ∷ ws) ys h

-- whether the last line is incomplete, by the last byte
pub ends_by_last : (xs : List ℕ) → 1 ≤ length xs
    → not (eqb (get_or xs (length xs - 1) 0) newline) ≡ ends_open xs
ends_by_last xs some =
    let last = length xs - 1 in
    let n : last + 1 ≡ length xs = omega arith in
    let split : xs ≡ take last xs ++ get_or xs last 0 ∷ [] =
    sym (take_all (length xs) xs (omega arith))
    ∙ (ap (λ (k : ℕ). take k xs) (sym n) ∙ take_more xs last 0 (omega arith)) in
    sym (ap ends_open split ∙ ends-append (take last xs) (get_or xs last 0 ∷ []) (omega arith))

amount-append : (counted : Counted) (xs ys : List ℕ)
    → amount_of counted (xs ++ ys) ≡ amount_of counted xs + amount_of counted ys
amount-append Lines xs ys = sum_by-append (λ y. cond (eqb y newline) 1 0) xs ys
amount-append Bytes xs ys = length-append xs ys

amount_nil : (counted : Counted) → amount_of counted [] ≡ 0
amount_nil Lines = refl
amount_nil Bytes = refl

-- the amounts together
pub amount_held : (counted : Counted) (hs : List Held)
    → All (λ (h : Held). h.amount ≡ amount_of counted h.bytes.items) hs
    → sum_by (λ (h : Held). h.amount) hs ≡ amount_of counted (held_bytes hs)
amount_held counted [] each = sym (amount_nil counted)
amount_held counted (h ∷ hs) each =
    let here : h.amount ≡ amount_of counted h.bytes.items =
    All-head (λ (h : Held). h.amount ≡ amount_of counted h.bytes.items) h hs each in
    let later = amount_held counted hs
    (All-tail (λ (h : Held). h.amount ≡ amount_of counted h.bytes.items) h hs each) in
    let cons = sum_by-cons (λ (h : Held). h.amount) h hs in
    let both = amount-append counted h.bytes.items (held_bytes hs) in
    omega (arith, here, later, cons, both)

-- nothing is held
pub counted_none : (counted : Counted) (h : Held) → h.bytes.items ≡ [] → h.amount ≡ 0
    → AreCounted counted (h ∷ []) 0 false
counted_none counted h none zero =
    let one : h.amount ≡ amount_of counted h.bytes.items = zero
    ∙ (sym (amount_nil counted) ∙ ap (amount_of counted) (sym none)) in
    record {
      each = All-push (λ (h : Held). h.amount ≡ amount_of counted h.bytes.items) [] h
          (All-nil (λ (h : Held). h.amount ≡ amount_of counted h.bytes.items)) one;
      total = omega (arith, zero, sum_by_push (λ (h : Held). h.amount) [] h);
      ending = sym (ap ends_open (held-push [] h ∙ none));
    }

-- bytes more
pub counted_more : (counted : Counted) (hs hs' : List Held) (amount total : ℕ)
    (incomplete incomplete' : Bool) (h : Held) → AreCounted counted hs amount incomplete
    → h.amount ≡ amount_of counted h.bytes.items → total ≡ amount + h.amount
    → 1 ≤ length h.bytes.items → incomplete' ≡ ends_open h.bytes.items → hs' ≡ hs ++ h ∷ []
    → AreCounted counted hs' total incomplete'
counted_more counted hs hs' amount total incomplete incomplete' h a own sum some ending e =
    subst (λ (x : List Held). AreCounted counted x total incomplete') (sym e)
    (record {
      each = All-push (λ (h : Held). h.amount ≡ amount_of counted h.bytes.items) hs h a.each own;
      total = omega (arith, sum, a.total, sum_by_push (λ (h : Held). h.amount) hs h);
      ending = ending ∙ (sym (ends-append (held_bytes hs) h.bytes.items some)
          ∙ ap ends_open (sym (held-push hs h)));
    })

-- the last ones are longer
pub kept_longer : (hs : List Held) (h h' : Held) (more : List ℕ)
    → h'.bytes.items ≡ h.bytes.items ++ more
    → held_bytes (hs ++ h' ∷ []) ≡ held_bytes (hs ++ h ∷ []) ++ more
kept_longer hs h h' more e =
    held-push hs h'
    ∙ (ap (λ (x : List ℕ). held_bytes hs ++ x) e
    ∙ (sym (append_assoc (held_bytes hs) h.bytes.items more)
    ∙ ap (λ (x : List ℕ). x ++ more) (sym (held-push hs h))))

-- other memory for the same bytes
pub kept_same : (hs : List Held) (h h' : Held) → h'.bytes.items ≡ h.bytes.items
    → held_bytes (hs ++ h' ∷ []) ≡ held_bytes (hs ++ h ∷ [])
kept_same hs h h' e = held-push hs h'
    ∙ (ap (λ (x : List ℕ). held_bytes hs ++ x) e ∙ sym (held-push hs h))

all_but_last : (counted : Counted) (hs : List Held) (h : Held)
    → All (λ (h : Held). h.amount ≡ amount_of counted h.bytes.items) (hs ++ h ∷ [])
    → All (λ (h : Held). h.amount ≡ amount_of counted h.bytes.items) hs
all_but_last counted [] h each = All-nil (λ (h : Held). h.amount ≡ amount_of counted h.bytes.items)
all_but_last counted (g ∷ hs) h each =
    All-cons (λ (h : Held). h.amount ≡ amount_of counted h.bytes.items) g hs
    (All-head (λ (h : Held). h.amount ≡ amount_of counted h.bytes.items) g (hs ++ h ∷ []) each)
    (all_but_last counted hs h
    (All-tail (λ (h : Held). h.amount ≡ amount_of counted h.bytes.items) g (hs ++ h ∷ []) each))

-- that of the last ones
pub last_counted : (counted : Counted) (hs : List Held) (h : Held)
    → All (λ (h : Held). h.amount ≡ amount_of counted h.bytes.items) (hs ++ h ∷ [])
    → h.amount ≡ amount_of counted h.bytes.items
last_counted counted [] h each =
    All-head (λ (h : Held). h.amount ≡ amount_of counted h.bytes.items) h [] each
last_counted counted (g ∷ hs) h each = last_counted counted hs h
    (All-tail (λ (h : Held). h.amount ≡ amount_of counted h.bytes.items) g (hs ++ h ∷ []) each)

pub counted_same : (counted : Counted) (hs : List Held) (h h' : Held) (amount : ℕ)
    (incomplete : Bool) → AreCounted counted (hs ++ h ∷ []) amount incomplete
    → h'.bytes.items ≡ h.bytes.items → h'.amount ≡ h.amount
    → AreCounted counted (hs ++ h' ∷ []) amount incomplete
counted_same counted hs h h' amount incomplete a e same =
    record {
      each = All-push (λ (h : Held). h.amount ≡ amount_of counted h.bytes.items) hs h'
          (all_but_last counted hs h a.each) (same
          ∙ (last_counted counted hs h a.each ∙ ap (amount_of counted) (sym e)));
      total = omega (
        arith,
        a.total,
        same,
        sum_by_push (λ (h : Held). h.amount) hs h,
        sum_by_push (λ (h : Held). h.amount) hs h',
      );
      ending = a.ending ∙ ap ends_open (sym (kept_same hs h h' e));
    }

pub counted_longer : (counted : Counted) (hs : List Held) (h h' : Held) (more : List ℕ)
    (amount total part : ℕ) (incomplete incomplete' : Bool)
    → AreCounted counted (hs ++ h ∷ []) amount incomplete → h'.bytes.items ≡ h.bytes.items ++ more
    → h'.amount ≡ h.amount + part → part ≡ amount_of counted more → total ≡ amount + part
    → 1 ≤ length more → incomplete' ≡ ends_open more
    → AreCounted counted (hs ++ h' ∷ []) total incomplete'
counted_longer counted hs h h' more amount total part incomplete incomplete' a e more_amount own sum
    some ending =
    let last = last_counted counted hs h a.each in
    let both = amount-append counted h.bytes.items more in
    let here : h'.amount ≡ amount_of counted h'.bytes.items =
    omega (arith, more_amount, last, own, both) ∙ ap (amount_of counted) (sym e) in
    record {
      each = All-push (λ (h : Held). h.amount ≡ amount_of counted h.bytes.items) hs h'
          (all_but_last counted hs h a.each) here;
      total = omega (
        arith,
        sum,
        a.total,
        more_amount,
        sum_by_push (λ (h : Held). h.amount) hs h,
        sum_by_push (λ (h : Held). h.amount) hs h',
      );
      ending = ending ∙ (sym (ends-append (held_bytes (hs ++ h ∷ [])) more some)
          ∙ ap ends_open (sym (kept_longer hs h h' more e)));
    }

-- Fewer than 2^63 are held in one place, since so long is no vector.
most_amount : (counted : Counted) (x : List ℕ) → amount_of counted x ≤ length x
most_amount Lines x = count_by-le-length (λ y. eqb y newline) x
most_amount Bytes x = omega arith

few_held : (counted : Counted) (h : Held) → h.amount ≡ amount_of counted h.bytes.items
    → h.amount < 2 ^ 63
few_held counted h own =
    let most = most_amount counted h.bytes.items in
    omega (arith, own, most, h.bytes.ok, h.bytes.small)

pub few_bytes : (counted : Counted) (amount : ℕ) (bytes : List ℕ) → amount ≡ amount_of counted bytes
    → amount ≤ length bytes
few_bytes counted amount bytes own =
    let most = most_amount counted bytes in
    omega (arith, own, most)

few_together : (counted : Counted) (hs : List Held)
    → All (λ (h : Held). h.amount ≡ amount_of counted h.bytes.items) hs
    → sum_by (λ (h : Held). h.amount) hs ≤ 2 ^ 63 * length hs
few_together counted [] each = omega arith
few_together counted (h ∷ hs) each =
    let here =
    few_held counted h
    (All-head (λ (h : Held). h.amount ≡ amount_of counted h.bytes.items) h hs each) in
    let later = few_together counted hs
    (All-tail (λ (h : Held). h.amount ≡ amount_of counted h.bytes.items) h hs each) in
    let cons = sum_by-cons (λ (h : Held). h.amount) h hs in
    omega (arith, here, later, cons)

-- and so the amounts together are few too
pub few_kept : (counted : Counted) (hs : List Held) (h : Held) (amount : ℕ) (incomplete : Bool)
    → AreCounted counted (hs ++ h ∷ []) amount incomplete → length hs < 2 ^ 63 → amount ≤ 2 ^ 126
few_kept counted hs h amount incomplete a long =
    let all = few_together counted (hs ++ h ∷ []) a.each in
    let n = length-append hs (h ∷ []) in
    omega (arith, a.total, all, n, long)

some_amount : (counted : Counted) (x : List ℕ) → 0 < amount_of counted x → 1 ≤ length x
some_amount counted [] h =
    let e : amount_of counted [] ≡ 0 = amount_nil counted in
    absurd (omega (arith, h, e))
some_amount counted (y ∷ ys) h = omega arith

-- the first ones are not needed
pub counted_less : (counted : Counted) (h : Held) (hs : List Held) (amount rest n : ℕ)
    (incomplete : Bool) → AreCounted counted (h ∷ hs) amount incomplete → rest ≡ amount - h.amount
    → n < rest → AreCounted counted hs rest incomplete
counted_less counted h hs amount rest n incomplete a less more =
    let later = All-tail (λ (h : Held). h.amount ≡ amount_of counted h.bytes.items) h hs a.each in
    let cons = sum_by-cons (λ (h : Held). h.amount) h hs in
    let held = amount_held counted hs later in
    record {
      each = later;
      total = omega (arith, a.total, cons, less);
      ending = a.ending ∙ ends-append h.bytes.items (held_bytes hs)
          (some_amount counted (held_bytes hs) (omega (arith, a.total, cons, held, less, more)));
    }

-- as many are in what follows the first ones as the amounts say
pub few_later : (counted : Counted) (h : Held) (hs : List Held) (amount n : ℕ) (incomplete : Bool)
    → AreCounted counted (h ∷ hs) amount incomplete → amount - h.amount ≤ n
    → amount_of counted (held_bytes hs) ≤ n
few_later counted h hs amount n incomplete a few =
    let later = All-tail (λ (h : Held). h.amount ≡ amount_of counted h.bytes.items) h hs a.each in
    let cons = sum_by-cons (λ (h : Held). h.amount) h hs in
    let held = amount_held counted hs later in
    omega (arith, a.total, cons, held, few)

-- nothing comes after the only ones
pub few_only : (counted : Counted) (hs : List Held) (h : Held) (n : ℕ) → length hs ≡ 0
    → amount_of counted (later_bytes hs h) ≤ n
few_only counted [] h n e = let none = amount_nil counted in omega (arith, none)
few_only counted (g ∷ hs) h n e = absurd (omega (arith, e))

-- the same if nothing is kept
pub few_none : (counted : Counted) (hs : List Held) (h : Held) (n : ℕ) → kept_bytes hs h ≡ []
    → amount_of counted (later_bytes hs h) ≤ n
few_none counted [] h n e = few_only counted [] h n refl
few_none counted (g ∷ hs) h n e =
    let rest = held_bytes (hs ++ h ∷ []) in
    let most = most_amount counted rest in
    let both = length-append g.bytes.items rest in
    let long = ap length e in
    omega (arith, most, both, long)

-- other memory for the last ones, after the first
pub later_same : (hs : List Held) (h h' : Held) → h'.bytes.items ≡ h.bytes.items
    → later_bytes hs h' ≡ later_bytes hs h
later_same [] h h' e = refl
later_same (g ∷ hs) h h' e = kept_same hs h h' e

longer_onto : (x : ℕ) (ls : List (List ℕ)) → length ls ≤ length (onto_first x ls)
longer_onto x [] = omega arith
longer_onto x (l ∷ ls) = omega arith

more_lines_by : (b : Bool) (x : ℕ) (w : List ℕ)
    → length (lines w) ≤ length (cond b ((x ∷ []) ∷ lines w) (onto_first x (lines w)))
more_lines_by true x w = omega arith
more_lines_by false x w = longer_onto x (lines w)

more_lines : (p w : List ℕ) → length (lines w) ≤ length (lines (p ++ w))
more_lines [] w = omega arith
more_lines (x ∷ p) w =
    let one : length (lines (p ++ w)) ≤ length (lines (x ∷ (p ++ w))) =
    more_lines_by (eqb x newline) x (p ++ w) in
    let rest = more_lines p w in
    omega (arith, one, rest)

last_cons : (n : ℕ) (l : List ℕ) (ls : List (List ℕ)) → n ≤ length ls
    → drop (length (l ∷ ls) - n) (l ∷ ls) ≡ drop (length ls - n) ls
last_cons n l ls h =
    let e : length (l ∷ ls) - n ≡ suc (length ls - n) = omega arith in
    ap (λ (k : ℕ). drop k (l ∷ ls)) e

last_onto : (n x : ℕ) (ls : List (List ℕ)) → n < length ls
    → drop (length (onto_first x ls) - n) (onto_first x ls) ≡ drop (length ls - n) ls
last_onto n x [] h = absurd (omega (arith, h))
last_onto n x (l ∷ ls) h = last_cons n (x ∷ l) ls (omega (arith, h))
    ∙ sym (last_cons n l ls (omega (arith, h)))

last_by : (b : Bool) (n x : ℕ) (w : List ℕ) → n < length (lines w)
    → let ls = cond b ((x ∷ []) ∷ lines w) (onto_first x (lines w)) in
    drop (length ls - n) ls ≡ drop (length (lines w) - n) (lines w)
last_by true n x w h = last_cons n (x ∷ []) (lines w) (omega arith)
last_by false n x w h = last_onto n x (lines w) h

last_lines : (n : ℕ) (p w : List ℕ) → n < length (lines w)
    → drop (length (lines (p ++ w)) - n) (lines (p ++ w)) ≡ drop (length (lines w) - n) (lines w)
last_lines n [] w h = refl
last_lines n (x ∷ p) w h =
    let more = more_lines p w in
    last_by (eqb x newline) n x (p ++ w) (omega (arith, more, h)) ∙ last_lines n p w h

-- there are as many lines as newlines, and one more if the last one is incomplete
count-cons : (x : ℕ) (xs : List ℕ) → count_by (λ y. eqb y newline) (x ∷ xs)
    ≡ cond (eqb x newline) 1 0 + count_by (λ y. eqb y newline) xs
count-cons x xs = sum_by-cons (λ y. cond (eqb y newline) 1 0) x xs

onto_some : (x : ℕ) (ls : List (List ℕ)) → 1 ≤ length ls → length (onto_first x ls) ≡ length ls
onto_some x [] h = absurd (omega (arith, h))
onto_some x (l ∷ ls) h = refl

some_onto : (x : ℕ) (ls : List (List ℕ)) → 1 ≤ length (onto_first x ls)
some_onto x [] = omega arith
some_onto x (l ∷ ls) = omega arith

pub some_lines_by : (b : Bool) (x : ℕ) (w : List ℕ)
    → 1 ≤ length (cond b ((x ∷ []) ∷ lines w) (onto_first x (lines w)))
some_lines_by true x w = omega arith
some_lines_by false x w = some_onto x (lines w)

lines_one_by : (b : Bool) (x : ℕ) → eqb x newline ≡ b
    → length (cond b ((x ∷ []) ∷ []) (onto_first x [])) ≡ cond b 1 0 + cond (not b) 1 0
lines_one_by true x e = refl
lines_one_by false x e = refl

lines_more_by : (b : Bool) (x : ℕ) (w : List ℕ) (n : ℕ) → 1 ≤ length (lines w)
    → length (lines w) ≡ n → length (cond b ((x ∷ []) ∷ lines w) (onto_first x (lines w)))
    ≡ cond b 1 0 + n
lines_more_by true x w n some e = omega (arith, e)
lines_more_by false x w n some e = let same = onto_some x (lines w) some in omega (arith, same, e)

pub length-lines : (xs : List ℕ) → length (lines xs)
    ≡ count_by (λ y. eqb y newline) xs + cond (ends_open xs) 1 0
length-lines [] = refl
length-lines (x ∷ []) =
    let one = lines_one_by (eqb x newline) x refl in
    let count = count-cons x [] in
    omega (arith, one, count)
length-lines (x ∷ y ∷ ys) =
    let later = length-lines (y ∷ ys) in
    let count = count-cons x (y ∷ ys) in
    let some : 1 ≤ length (lines (y ∷ ys)) = some_lines_by (eqb y newline) y ys in
    let all = lines_more_by (eqb x newline) x (y ∷ ys) (length (lines (y ∷ ys))) some refl in
    omega (arith, all, later, count)

-- as many members as the amount says
pub members_lines : (hs : List Held) (amount : ℕ) (incomplete : Bool)
    → AreCounted Lines hs amount incomplete
    → amount + (cond {A = ℕ} incomplete 1 0) ≡ members_in Lines (held_bytes hs)
members_lines hs amount incomplete a =
    let e = amount_held Lines hs a.each in
    let l = length-lines (held_bytes hs) in
    let o : cond {A = ℕ} incomplete 1 0 ≡ cond (ends_open (held_bytes hs)) 1 0 =
    ap (λ (b : Bool). cond b 1 0) a.ending in
    omega (arith, e, l, o, a.total)

pub members_bytes : (hs : List Held) (amount : ℕ) (incomplete : Bool)
    → AreCounted Bytes hs amount incomplete → amount ≡ members_in Bytes (held_bytes hs)
members_bytes hs amount incomplete a = a.total ∙ amount_held Bytes hs a.each

-- the last members are in what follows the first ones
last_past : (counted : Counted) (n : ℕ) (p r zs : List ℕ) → n < amount_of counted r
    → last_of counted n (r ++ zs) ≡ last_of counted n ((p ++ r) ++ zs)
last_past Lines n p r zs h =
    let l = length-lines (r ++ zs) in
    let both = amount-append Lines r zs in
    ap concat (sym (last_lines n p (r ++ zs) (omega (arith, l, both, h))))
    ∙ ap (λ (x : List ℕ). concat (drop (length (lines x) - n) (lines x)))
    (sym (append_assoc p r zs))
last_past Bytes n p r zs h =
    let long = length-append p (r ++ zs) in
    let both = length-append r zs in
    let e : length p + (length (r ++ zs) - n) ≡ length (p ++ (r ++ zs)) - n =
    omega (arith, long, both, h) in
    sym (drop_past (length (r ++ zs) - n) p (r ++ zs))
    ∙ (ap (λ (k : ℕ). drop k (p ++ (r ++ zs))) e
    ∙ ap (λ (x : List ℕ). drop (length x - n) x) (sym (append_assoc p r zs)))

pub last_less : (counted : Counted) (h : Held) (hs : List Held) (amount n : ℕ) (incomplete : Bool)
    → AreCounted counted (h ∷ hs) amount incomplete → n < amount - h.amount → (zs : List ℕ)
    → last_of counted n (held_bytes hs ++ zs) ≡ last_of counted n (held_bytes (h ∷ hs) ++ zs)
last_less counted h hs amount n incomplete a more zs =
    let later = All-tail (λ (h : Held). h.amount ≡ amount_of counted h.bytes.items) h hs a.each in
    let cons = sum_by-cons (λ (h : Held). h.amount) h hs in
    let rest = amount_held counted hs later in
    last_past counted n h.bytes.items (held_bytes hs) zs (omega (arith, a.total, cons, rest, more))

-- the same by what is counted
pub members_as_bytes : (counted : Counted) (hs : List Held) (amount : ℕ) (incomplete : Bool)
    → counted ≡ Bytes → AreCounted counted hs amount incomplete
    → amount ≡ members_in counted (held_bytes hs)
members_as_bytes Bytes hs amount incomplete e a = members_bytes hs amount incomplete a
members_as_bytes Lines hs amount incomplete e a = absurd (cc)

pub members_as_lines : (counted : Counted) (hs : List Held) (amount all : ℕ) (incomplete : Bool)
    → counted ≡ Lines → all ≡ amount + (cond {A = ℕ} incomplete 1 0)
    → AreCounted counted hs amount incomplete → all ≡ members_in counted (held_bytes hs)
members_as_lines Lines hs amount all incomplete e o a = o ∙ members_lines hs amount incomplete a
members_as_lines Bytes hs amount all incomplete e o a = absurd (cc)

-- the first ones, and those after them
pub front_is : (hs hs' : List Held) (h : Held) → 0 < length hs → h ≡ get_or hs 0 h → hs' ≡ drop 1 hs
    → hs ≡ h ∷ hs'
front_is [] hs' h some first rest = absurd (omega (arith, some))
front_is (g ∷ hs) hs' h some first rest = cc
