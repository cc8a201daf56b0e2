-- Places of a byte, counted.
use Rattle.std.proofs.Common.{◌≡◌, ◌≢◌, ℕ, zero, suc, ◌+◌, ◌-◌, ◌<◌, ◌≤◌, true, false, eqb, cond}
use Rattle.std.proofs.Common.{List, length, get_or, take, drop, Option, Some, None, ap, ◌∙◌, sym}
use Rattle.std.proofs.Common.{subst, arith, ⊎_elim}
use Rattle.std.specs.Int.{bit_at}
use Rattle.std.specs.Prelude.{MatchOption}
use Rattle.std.specs.List.{count_by}
use Rattle.std.proofs.lemmas.Bool.{cases_lt}
use Rattle.std.proofs.lemmas.List.{take_all, length-take, take-append-drop}
use Rattle.std.proofs.lemmas.List.Sums.{count_by_more_yes, count_by_more_no, sum_by-append}
use Rattle.std.proofs.lemmas.Nat.Bits.{bit_at-zero}
use Rattle.std.proofs.Math.Seq.{take-add}
use Rattle.lanes.specs.inner.Masks.{IsWithoutLowest}
use Rattle.lanes.specs.inner.Walks.{AreMarks, HasPassed, IsNth, Shows, places_in}
use Rattle.lanes.proofs.lemmas.MarkLaws.{split_here}
use Rattle.lanes.proofs.lemmas.WalkLaws.{IsPlaced, all_clear, are_last, none_shown, shows_next}
use Rattle.lanes.proofs.lemmas.WalkLaws.{shows_past}

-- one byte more that is another
still_one : (bytes : List ℕ) (byte k : ℕ) → (k < length bytes → eqb (get_or bytes k 0) byte ≡ false)
    → places_in bytes byte (k + 1) ≡ places_in bytes byte k
still_one bytes byte k none =
    ⊎_elim (λ low. count_by_more_no (λ x. eqb x byte) bytes k 0 low (none low)) (λ over.
    ap (count_by (λ x. eqb x byte)) (take_all (k + 1) bytes (omega (arith, over))
    ∙ sym (take_all k bytes over)))
    (cases_lt k (length bytes))

still_by : (bytes : List ℕ) (byte a n : ℕ)
    → ((k : ℕ) → a ≤ k → k < a + n → k < length bytes → eqb (get_or bytes k 0) byte ≡ false)
    → places_in bytes byte (a + n) ≡ places_in bytes byte a
still_by bytes byte a zero none = let e : a + 0 ≡ a = omega arith in ap (places_in bytes byte) e
still_by bytes byte a (suc n) none =
    let e : a + suc n ≡ a + n + 1 = omega arith in
    ap (places_in bytes byte) e
    ∙ (still_one bytes byte (a + n) (λ low. none (a + n) (omega arith) (omega arith) low)
    ∙ still_by bytes byte a n (λ k after before within. none k after
    (omega (arith, before)) within))

-- no place between two
pub still : (bytes : List ℕ) (byte a b : ℕ) → a ≤ b
    → ((k : ℕ) → a ≤ k → k < b → k < length bytes → eqb (get_or bytes k 0) byte ≡ false)
    → places_in bytes byte b ≡ places_in bytes byte a
still bytes byte a b order none =
    let e : a + (b - a) ≡ b = omega arith in
    ap (places_in bytes byte) (sym e)
    ∙ still_by bytes byte a (b - a)
    (λ k after before within. none k after (omega (arith, before, e)) within)

-- no place comes before the lowest bit
none_until : (bytes : List ℕ) (byte from base left r : ℕ) → Shows bytes byte from base left
    → ((k : ℕ) → k < r → bit_at left k ≡ 0) → r < 64 → (k : ℕ) → from ≤ k → k < base + r
    → k < length bytes → eqb (get_or bytes k 0) byte ≡ false
none_until bytes byte from base left r s clear small k after before within =
    ⊎_elim (λ low. s.passed k after low within) (λ high.
    let n : base + (k - base) ≡ k = omega (arith, high) in
    ap (λ (x : ℕ). eqb (get_or bytes x 0) byte) (sym n)
    ∙ s.each (k - base) (omega (arith, before, small, high)) (omega (arith, after, n))
    (omega (arith, within, n)) (clear (k - base) (omega (arith, before, high))))
    (cases_lt k base)

pub passed_none : (bytes : List ℕ) (byte from base left : ℕ) → Shows bytes byte from base left
    → HasPassed bytes byte from 0 base left
passed_none bytes byte from base left s =
    record {
      to = from;
      order = omega arith;
      shows = s;
      counted = λ _. omega arith;
      most =
          omega arith;
    }

-- the next 64 places
pub passed_next : (bytes : List ℕ) (byte from count base left left' : ℕ)
    → HasPassed bytes byte from count base left → left ≡ 0 → base + 64 < length bytes
    → AreMarks bytes byte (base + 64) left' → HasPassed bytes byte from count (base + 64) left'
passed_next bytes byte from count base left left' h none more marks =
    record {
      to = h.to;
      order = h.order;
      shows = shows_next bytes byte h.to base left left' h.shows
          (all_clear left base (length bytes) none) more marks;
      counted = h.counted;
      most = h.most;
    }

-- a place more, before the end
past_place : (bytes : List ℕ) (byte from count base left left' : ℕ)
    → HasPassed bytes byte from count base left → (w : IsWithoutLowest left left')
    → base + w.lowest < length bytes → HasPassed bytes byte from (count + 1) base left'
past_place bytes byte from count base left left' h w within =
    let r = w.lowest in
    let place = base + r in
    let e : place - base ≡ r = omega arith in
    let small : r < 64 = w.bound in
    let here = h.shows.only r small within w.set in
    let none = none_until bytes byte h.to base left r h.shows w.below small in
    let before : places_in bytes byte place ≡ places_in bytes byte h.to =
    still bytes byte h.to place here.0 none in
    let one : places_in bytes byte (place + 1) ≡ places_in bytes byte place + 1 =
    count_by_more_yes (λ x. eqb x byte) bytes place 0 within here.1 in
    let old : places_in bytes byte from + count ≡ places_in bytes byte h.to =
    h.counted (omega (arith, here.0, within)) in
    record {
      to = place + 1;
      order = omega (arith, here.0, h.order);
      shows = shows_past bytes byte h.to base left left' place h.shows (omega arith)
          (omega (arith, small)) within (ap (bit_at left) e
          ∙ w.set) (λ k low. w.below k (omega (arith, low)))
          (λ k low apart. w.kept k low (λ same. apart (same ∙ sym e))) (ap (bit_at left') e
          ∙ w.gone);
      counted = λ _. omega (arith, before, one, old);
      most = omega (arith, before, one, old);
    }

-- a bit that is set for a place after the end
past_end : (bytes : List ℕ) (byte from count base left left' : ℕ)
    → HasPassed bytes byte from count base left → (w : IsWithoutLowest left left')
    → length bytes ≤ base + w.lowest → HasPassed bytes byte from (count + 1) base left'
past_end bytes byte from count base left left' h w over =
    let r = w.lowest in
    let small : r < 64 = w.bound in
    let low : h.to ≤ base + 64 = h.shows.low in
    let same : places_in bytes byte (base + 64) ≡ places_in bytes byte h.to =
    still bytes byte h.to (base + 64) low
    (λ k after before within. none_until bytes byte h.to base left r h.shows w.below small k
    after (omega (arith, within, over)) within) in
    let most = h.most in
    record {
      to = base + 64;
      order = omega (arith, low, h.order);
      shows = record {
        low = omega arith;
        passed = λ k a b c. absurd (omega (arith, a, b));
        each = λ k few a c e. absurd (omega (arith, a, few));
        only = λ k few c e.
            let under : k < r = omega (arith, c, over) in
            absurd (omega (
              arith,
              e,
              w.kept k few (λ eq. absurd (omega (arith, eq, under))),
              w.below k under,
            ));
      };
      counted = λ within. absurd (omega (arith, within, over, small));
      most = omega (arith, same, most);
    }

pub passed_more : (bytes : List ℕ) (byte from count base left left' : ℕ)
    → HasPassed bytes byte from count base left → IsWithoutLowest left left'
    → HasPassed bytes byte from (count + 1) base left'
passed_more bytes byte from count base left left' h w =
    ⊎_elim (λ within. past_place bytes byte from count base left left' h w within)
    (λ over. past_end bytes byte from count base left left' h w over)
    (cases_lt (base + w.lowest) (length bytes))

-- what comes after a place, counted
count_after : (bytes : List ℕ) (byte from k : ℕ) → from ≤ k
    → places_in bytes byte k ≡ places_in bytes byte from + count_by (λ x. eqb x byte)
    (take (k - from) (drop from bytes))
count_after bytes byte from k order =
    let e : from + (k - from) ≡ k = omega arith in
    ap (λ (j : ℕ). count_by (λ x. eqb x byte) (take j bytes)) (sym e)
    ∙ (ap (count_by (λ x. eqb x byte)) (take-add from (k - from) bytes)
    ∙ sum_by-append (λ x. cond (eqb x byte) 1 0) (take from bytes)
    (take (k - from) (drop from bytes)))

count_rest : (bytes : List ℕ) (byte from : ℕ)
    → places_in bytes byte (length bytes) ≡ places_in bytes byte from + count_by (λ x. eqb x byte)
    (drop from bytes)
count_rest bytes byte from =
    ap (count_by (λ x. eqb x byte)) (take_all (length bytes) bytes (omega arith)
    ∙ sym (take-append-drop from bytes))
    ∙ sum_by-append (λ x. cond (eqb x byte) 1 0) (take from bytes) (drop from bytes)

-- fewer places are still to come
pub nth_none : (bytes : List ℕ) (byte from count base left : ℕ)
    → HasPassed bytes byte from count base left
    → ((k : ℕ) → base + k < length bytes → bit_at left k ≡ 0) → length bytes ≤ base + 64
    → count_by (λ x. eqb x byte) (drop from bytes) ≤ count
nth_none bytes byte from count base left h clear last =
    let all : places_in bytes byte (length bytes) ≤ places_in bytes byte h.to =
    ⊎_elim
    (λ over. omega (
      arith,
      ap (count_by (λ x. eqb x byte))
          (take_all (length bytes) bytes (omega arith)
          ∙ sym (take_all h.to bytes (omega (arith, over)))),
    )) (λ order.
    omega (
      arith,
      still bytes byte h.to (length bytes) order
          (λ k after before within. none_shown bytes byte h.to base left h.shows clear k after
          (omega (arith, within, last)) within),
    ))
    (cases_lt (length bytes) h.to) in
    omega (arith, all, h.most, count_rest bytes byte from)

-- the place is found
pub nth_some : (bytes : List ℕ) (byte from count base left place : ℕ)
    → (h : HasPassed bytes byte from count base left) → base ≤ place → place < base + 64
    → place < length bytes → bit_at left (place - base) ≡ 1
    → ((k : ℕ) → base + k < place → bit_at left k ≡ 0)
    → IsNth (record { bytes = bytes; byte = byte; from = from }) (count + 1) place
nth_some bytes byte from count base left place h low high within set clear =
    let n : base + (place - base) ≡ place = omega (arith, low) in
    let small : place - base < 64 = omega (arith, low, high) in
    let shown = h.shows.only (place - base) small (omega (arith, within, n)) set in
    let order : from ≤ place = omega (arith, h.order, shown.0, n) in
    let is : eqb (get_or bytes place 0) byte ≡ true =
    ap (λ (x : ℕ). eqb (get_or bytes x 0) byte) (sym n) ∙ shown.1 in
    let before : places_in bytes byte place ≡ places_in bytes byte h.to =
    still bytes byte h.to place (omega (arith, shown.0, n))
    (λ k after under inside. none_until bytes byte h.to base left (place - base) h.shows
    (λ j less. clear j (omega (arith, less, n))) small k after
    (omega (arith, under, n)) inside) in
    let old : places_in bytes byte from + count ≡ places_in bytes byte h.to =
    h.counted (omega (arith, shown.0, n, within)) in
    record {
      after = order;
      within = within;
      counted = omega (arith, before, old, count_after bytes byte from place order);
      here = split_here bytes byte from place order within is;
    }

-- what place_in says of the place that nth_marks shows
pub nth_place : (place : Option ℕ) (ahead : List ℕ) (len byte from n count base left : ℕ)
    → len ≤ length ahead → HasPassed (take len ahead) byte from n base left → n < count
    → (left ≢ 0 → n + 1 ≡ count) → (left ≡ 0 → len ≤ base + 64) → IsPlaced place len base left
    → MatchOption place (count_by (λ x. eqb x byte) (drop from (take len ahead)) < count)
    (IsNth (record { bytes = take len ahead; byte = byte; from = from }) count)
nth_place None ahead len byte from n count base left within h few all ended e =
    let long : length (take len ahead) ≡ len = omega (arith, length-take len ahead, within) in
    omega (
      arith,
      few,
      nth_none (take len ahead) byte from n base left h
          (λ k low. e.0 k (omega (arith, low, long)))
          (omega (arith, long, are_last len base left ended e.1)),
    )
nth_place (Some p) ahead len byte from n count base left within h few all ended e =
    let long : length (take len ahead) ≡ len = omega (arith, length-take len ahead, within) in
    let some : left ≢ 0 =
    λ none. absurd (omega (
      arith,
      e.3,
      ap (λ (x : ℕ). bit_at x (p - base)) none,
      bit_at-zero (p - base),
    )) in
    subst (λ (j : ℕ). IsNth (record { bytes = take len ahead; byte = byte; from = from }) j p)
    (all some)
    (nth_some (take len ahead) byte from n base left p h e.0 e.1 (omega (arith, long, e.2)) e.3 e.4)
