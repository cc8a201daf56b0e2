-- What a walk's bits show.
use Rattle.std.proofs.Common.{◌≡◌, ◌≢◌, ℕ, ◌+◌, ◌-◌, ◌<◌, ◌≤◌, Bool, false, cond, eqb, List, length}
use Rattle.std.proofs.Common.{get_or, take, drop, Option, Some, None, ap, ◌∙◌, sym, arith, ⊎_elim}
use Rattle.std.specs.Prelude.{MatchOption}
use Rattle.std.specs.Int.{bit_at}
use Rattle.std.specs.List.{All}
use Rattle.std.proofs.lemmas.Bool.{cases_lt}
use Rattle.std.proofs.lemmas.Nat.Bits.{bit_at-zero}
use Rattle.std.proofs.lemmas.List.{length-take, length-drop, get_or-take, get_or-drop}
use Rattle.std.proofs.lemmas.List.Elements.{All-get_or, All-from_get_or}
use Rattle.machine.specs.inner.Places.{FirstFrom}
use Rattle.lanes.specs.inner.Walks.{AreMarks, Course, IsOneOfSeveral, Shows}
use Rattle.lanes.proofs.lemmas.MarkLaws.{set_is, unset_is, first_at, first_is, none_at}

-- marks of bytes are marks of the first of them
pub marks_of_front : (ahead : List ℕ) (len byte base left : ℕ) → len ≤ length ahead
    → AreMarks ahead byte base left → AreMarks (take len ahead) byte base left
marks_of_front ahead len byte base left within marks = λ k small h.
    let low : base + k < len = omega (arith, h, length-take len ahead) in
    marks k small (omega arith) ∙ ap (λ (x : ℕ). cond (eqb x byte) 1 0)
    (sym (get_or-take len ahead (base + k) 0 low))

-- a walk that begins
pub shows_new : (bytes : List ℕ) (byte left : ℕ) → AreMarks bytes byte 0 left
    → Shows bytes byte 0 0 left
shows_new bytes byte left marks =
    record {
      low = omega arith;
      passed = λ k low high within. absurd (omega (arith, high));
      each = λ k small low within clear. unset_is (eqb (get_or bytes (0 + k) 0) byte)
          (bit_at left k) (marks k small within) clear;
      only = λ k small within set. (
        omega arith,
        set_is (eqb (get_or bytes (0 + k) 0) byte) (bit_at left k)
            (marks k small within) set,
      );
    }

-- no bit is set: no place from `from` on is one of the byte's, up to the end of the 64
pub none_shown : (bytes : List ℕ) (byte from base left : ℕ) → Shows bytes byte from base left
    → ((k : ℕ) → base + k < length bytes → bit_at left k ≡ 0) → (k : ℕ) → from ≤ k → k < base + 64
    → k < length bytes → eqb (get_or bytes k 0) byte ≡ false
none_shown bytes byte from base left s clear k low high within =
    ⊎_elim (λ before. s.passed k low before within) (λ after.
    let n : base + (k - base) ≡ k = omega arith in
    ap (λ (x : ℕ). eqb (get_or bytes x 0) byte) (sym n)
    ∙ s.each (k - base) (omega arith) (omega arith) (omega arith)
    (clear (k - base) (omega arith)))
    (cases_lt k base)

-- the next 64 places
pub shows_next : (bytes : List ℕ) (byte from base left left' : ℕ) → Shows bytes byte from base left
    → ((k : ℕ) → base + k < length bytes → bit_at left k ≡ 0) → base + 64 < length bytes
    → AreMarks bytes byte (base + 64) left' → Shows bytes byte from (base + 64) left'
shows_next bytes byte from base left left' s clear more marks =
    let low : from ≤ base + 64 = s.low in
    record {
      low = omega arith;
      passed = λ k a b within. none_shown bytes byte from base left s clear k a b within;
      each = λ k small a within c. unset_is (eqb (get_or bytes (base + 64 + k) 0) byte)
          (bit_at left' k) (marks k small within) c;
      only = λ k small within c. (
        omega arith,
        set_is (eqb (get_or bytes (base + 64 + k) 0) byte)
            (bit_at left' k) (marks k small within) c,
      );
    }

-- the lowest bit shows the first place
pub shown_first : (bytes : List ℕ) (byte from base left place : ℕ) → Shows bytes byte from base left
    → base ≤ place → place < base + 64 → place < length bytes → bit_at left (place - base) ≡ 1
    → ((k : ℕ) → base + k < place → bit_at left k ≡ 0) → FirstFrom bytes byte from place
shown_first bytes byte from base left place s low high within set clear =
    let n : base + (place - base) ≡ place = omega arith in
    let here = s.only (place - base) (omega arith) (omega arith) set in
    first_at bytes byte from place (omega (arith, here.0)) within
    (ap (λ (x : ℕ). eqb (get_or bytes x 0) byte) (sym n) ∙ here.1)
    (λ j a b. ⊎_elim (λ before. s.passed j a before (omega arith)) (λ after.
    let m : base + (j - base) ≡ j = omega arith in
    ap (λ (x : ℕ). eqb (get_or bytes x 0) byte) (sym m)
    ∙ s.each (j - base) (omega arith) (omega arith) (omega arith)
    (clear (j - base) (omega arith)))
    (cases_lt j base))

-- no bit shows a place, and no 64 more places follow
pub shown_none : (bytes : List ℕ) (byte from base left : ℕ) → Shows bytes byte from base left
    → ((k : ℕ) → base + k < length bytes → bit_at left k ≡ 0) → length bytes ≤ base + 64
    → All (λ x. eqb x byte ≡ false) (drop from bytes)
shown_none bytes byte from base left s clear last =
    none_at bytes byte from (λ j low within. none_shown bytes byte from base left s clear j low
    (omega arith) within)

-- no bit up to the lowest one is left
bit_gone : (r k left left' base place : ℕ) → base + r ≡ place
    → ((k : ℕ) → base + k < place → bit_at left k ≡ 0)
    → ((k : ℕ) → k < 64 → k ≢ r → bit_at left' k ≡ bit_at left k) → bit_at left' r ≡ 0 → k < 64
    → k ≤ r → bit_at left' k ≡ 0
bit_gone r k left left' base place n clear kept gone small below =
    ⊎_elim (λ less. kept k small (λ same. absurd (omega (arith, same, less)))
    ∙ clear k (omega arith)) (λ more.
    let same : k ≡ r = omega arith in
    ap (λ (x : ℕ). bit_at left' x) same ∙ gone)
    (cases_lt k r)

-- past the place of the lowest bit
pub shows_past : (bytes : List ℕ) (byte from base left left' place : ℕ)
    → Shows bytes byte from base left → base ≤ place → place < base + 64 → place < length bytes
    → bit_at left (place - base) ≡ 1 → ((k : ℕ) → base + k < place → bit_at left k ≡ 0)
    → ((k : ℕ) → k < 64 → k ≢ place - base → bit_at left' k ≡ bit_at left k)
    → bit_at left' (place - base) ≡ 0 → Shows bytes byte (place + 1) base left'
shows_past bytes byte from base left left' place s low high within set clear kept gone =
    let here = s.only (place - base) (omega arith) (omega arith) set in
    let r = place - base in
    record {
      low = omega arith;
      passed = λ k a b c. absurd (omega (arith, a, b));
      each = λ k small a c e. s.each k small (omega (arith, here.0)) c
          (sym (kept k small (λ same. absurd (omega (arith, same, a)))) ∙ e);
      only = λ k small c e. ⊎_elim
          (λ above. (
            omega (arith, above),
            (s.only k small c (sym (kept k small (λ same. absurd (omega (arith, same, above))))
                ∙ e)).1,
          ))
          (λ below. absurd (omega (
            arith,
            e,
            bit_gone r k left left' base place
                (omega arith) clear kept gone small below,
          ))) (cases_lt r k);
    }

-- nothing is left of the 64 places
pub all_clear : (left base len : ℕ) → left ≡ 0 → (k : ℕ) → base + k < len → bit_at left k ≡ 0
all_clear left base len none k h = ap (λ (x : ℕ). bit_at x k) none ∙ bit_at-zero k

-- what place_in says of a place, if it gives one
abbrev pub IsPlaced : Option ℕ → ℕ → ℕ → ℕ → Type 0
IsPlaced place len base left =
    MatchOption place (((k : ℕ) → base + k < len → bit_at left k ≡ 0)
    × (left ≢ 0 → len ≤ base + 64))
    (λ p. (base ≤ p) × (p < base + 64) × (p < len) × (bit_at left (p - base) ≡ 1)
    × ((k : ℕ) → base + k < p → bit_at left k ≡ 0))

-- the last 64 places
pub are_last : (len base left : ℕ) → (left ≡ 0 → len ≤ base + 64) → (left ≢ 0 → len ≤ base + 64)
    → len ≤ base + 64
are_last len base left none some = ⊎_elim (λ more. some (λ e. absurd (omega (arith, e, more))))
    (λ less. none (omega (arith, less))) (cases_lt 0 left)

-- the next place that a walk shows
pub next_place : (place : Option ℕ) (ahead : List ℕ) (len byte from base left : ℕ)
    → len ≤ length ahead → Shows (take len ahead) byte from base left → (left ≡ 0 → len ≤ base + 64)
    → IsPlaced place len base left
    → MatchOption place (All (λ x. eqb x byte ≡ false) (drop from (take len ahead)))
    (FirstFrom (take len ahead) byte from)
next_place None ahead len byte from base left within s ended h =
    let long : length (take len ahead) ≡ len = omega (arith, length-take len ahead, within) in
    shown_none (take len ahead) byte from base left s (λ k low. h.0 k (omega (arith, low, long)))
    (omega (arith, long, are_last len base left ended h.1))
next_place (Some p) ahead len byte from base left within s ended h =
    let long : length (take len ahead) ≡ len = omega (arith, length-take len ahead, within) in
    shown_first (take len ahead) byte from base left p s h.0 h.1 (omega (arith, long, h.2)) h.3 h.4

-- marks of bytes are marks of a part of them
pub marks_of_part : (bytes : List ℕ) (byte base left left' start end : ℕ)
    → AreMarks bytes byte base left → base ≤ start → start < base + 64 → start ≤ end
    → end ≤ length bytes → (base ≢ start → end < base + 64)
    → ((k : ℕ) → bit_at left' k ≡ bit_at left (start - base + k))
    → AreMarks (take (end - start) (drop start bytes)) byte 0 left'
marks_of_part bytes byte base left left' start end marks low near order within ended shifted =
    λ k small h.
    let long : length (take (end - start) (drop start bytes)) ≡ end - start =
    omega (
      arith,
      order,
      within,
      length-take (end - start) (drop start bytes),
      length-drop start bytes,
    ) in
    let inside : k < end - start = omega (arith, h, long) in
    let n : base + (start - base + k) ≡ start + k = omega arith in
    let close : start - base + k < 64 =
    ⊎_elim (λ less. omega (
      arith,
      less,
      inside,
      order,
      ended (λ same. absurd (omega (arith, same, less))),
    )) (λ more. omega (arith, more, small))
    (cases_lt base start) in
    let zero_more : 0 + k ≡ k = omega arith in
    let item : get_or (take (end - start) (drop start bytes)) (0 + k) 0
    ≡ get_or bytes (base + (start - base + k)) 0 =
    ap (λ (j : ℕ). get_or (take (end - start) (drop start bytes)) j 0) zero_more
    ∙ (get_or-take (end - start) (drop start bytes) k 0 inside
    ∙ (get_or-drop start bytes k 0 ∙ ap (λ (j : ℕ). get_or bytes j 0) (sym n))) in
    shifted k ∙ (marks (start - base + k) close (omega (arith, inside, n, order, within))
    ∙ ap (λ (x : ℕ). cond {A = ℕ} (eqb x byte) 1 0) (sym item))

-- no place from `from` on is one of the byte's, if no mark is left and none is after the 64 places
none_later : (bytes : List ℕ) (byte from base : ℕ) → Shows bytes byte from base 0
    → ((k : ℕ) → base + 64 ≤ k → k < length bytes → eqb (get_or bytes k 0) byte ≡ false) → (k : ℕ)
    → from ≤ k → k < length bytes → eqb (get_or bytes k 0) byte ≡ false
none_later bytes byte from base s none k low within =
    ⊎_elim (λ before. none_shown bytes byte from base 0 s
    (λ j _. bit_at-zero j) k low before within) (λ after. none k after within)
    (cases_lt k (base + 64))

-- the last 64 places, if the byte is at none after these
pub shows_last : (bytes : List ℕ) (byte from base last : ℕ) → Shows bytes byte from base 0
    → base ≤ last → length bytes ≡ last + 64
    → All (λ x. eqb x byte ≡ false) (drop (base + 64) bytes) → Shows bytes byte from last 0
shows_last bytes byte from base last s later long none =
    let away : (k : ℕ) → base + 64 ≤ k → k < length bytes → eqb (get_or bytes k 0) byte ≡ false =
    λ k after within.
    let n : base + 64 + (k - (base + 64)) ≡ k = omega arith in
    ap (λ (j : ℕ). eqb (get_or bytes j 0) byte) (sym n)
    ∙ (ap (λ (x : ℕ). eqb x byte) (sym (get_or-drop (base + 64) bytes (k - (base + 64)) 0))
    ∙ All-get_or (λ x. eqb x byte ≡ false) (drop (base + 64) bytes) (k - (base + 64)) 0
    (omega (arith, length-drop (base + 64) bytes)) none) in
    record {
      low = omega (arith, s.low);
      passed = λ k a b within. none_later bytes byte from base s away k a within;
      each = λ k small a within c. none_later bytes byte from base s away (last + k) a within;
      only = λ k small within c. absurd (omega (arith, c, bit_at-zero k));
    }

-- the 64 places from the next one on, however far it is
pub shows_far : (bytes : List ℕ) (byte from base place left : ℕ) → Shows bytes byte from base 0
    → FirstFrom bytes byte (base + 64) place → AreMarks bytes byte place left
    → Shows bytes byte from place left
shows_far bytes byte from base place left s f marks =
    let away : (k : ℕ) → base + 64 ≤ k → k < place → eqb (get_or bytes k 0) byte ≡ false =
    λ k after before.
    let n : base + 64 + (k - (base + 64)) ≡ k = omega arith in
    let small : k - (base + 64) < place - (base + 64) = omega arith in
    ap (λ (j : ℕ). eqb (get_or bytes j 0) byte) (sym n)
    ∙ (ap (λ (x : ℕ). eqb x byte)
    (sym (get_or-take (place - (base + 64)) (drop (base + 64) bytes) (k - (base + 64)) 0 small
    ∙ get_or-drop (base + 64) bytes (k - (base + 64)) 0))
    ∙ All-get_or (λ x. eqb x byte ≡ false) (take (place - (base + 64)) (drop (base + 64) bytes))
    (k - (base + 64)) 0
    (omega (
      arith,
      small,
      f.within,
      length-take (place - (base + 64)) (drop (base + 64) bytes),
      length-drop (base + 64) bytes,
    )) f.none_before) in
    record {
      low = omega (arith, s.low, f.after);
      passed = λ k a b within. ⊎_elim
          (λ before. none_shown bytes byte from base 0 s (λ j _. bit_at-zero j) k a before within)
          (λ after. away k after b) (cases_lt k (base + 64));
      each = λ k small a within c. unset_is (eqb (get_or bytes (place + k) 0) byte) (bit_at left k)
          (marks k small within) c;
      only = λ k small within c. (
        omega (arith, s.low, f.after),
        set_is (eqb (get_or bytes (place + k) 0) byte) (bit_at left k) (marks k small within) c,
      );
    }

-- the first place of the byte is marked
pub marked_first : (bytes : List ℕ) (byte at place left : ℕ) → FirstFrom bytes byte at place
    → AreMarks bytes byte place left → left ≢ 0
marked_first bytes byte at place left f marks none =
    let n : place + 0 ≡ place = omega arith in
    let set : bit_at left 0 ≡ 1 = marks 0 (omega arith) (omega (arith, f.within))
    ∙ ap (λ (b : Bool). cond {A = ℕ} b 1 0) (ap (λ (j : ℕ). eqb (get_or bytes j 0) byte) n
    ∙ first_is bytes byte at place f) in
    absurd (omega (arith, set, ap (λ (x : ℕ). bit_at x 0) none, bit_at-zero 0))

-- after the last of the places that are marked
pub shows_after : (bytes : List ℕ) (byte from base left place : ℕ) → Shows bytes byte from base left
    → base ≤ place → place < base + 64 → ((k : ℕ) → place < base + k → bit_at left k ≡ 0)
    → from ≤ place → Shows bytes byte (place + 1) base 0
shows_after bytes byte from base left place s low high above after =
    record {
      low = omega arith;
      passed = λ k a b c. absurd (omega (arith, a, b, low));
      each = λ k small a within c. s.each k small (omega (arith, a, after)) within
          (above k (omega (arith, a)));
      only = λ k small within c. absurd (omega (arith, c, bit_at-zero k));
    }

-- what is known of a place that is marked
pub one_marked : (w : Course) (base left place : ℕ) → Shows w.bytes w.byte w.from base left
    → base ≤ place → place < base + 64 → place < length w.bytes → place < w.from + 64
    → bit_at left (place - base) ≡ 1 → IsOneOfSeveral w place
one_marked w base left place s low high within near set =
    let n : base + (place - base) ≡ place = omega arith in
    let here = s.only (place - base) (omega arith) (omega (arith, within, n)) set in
    record {
      after = omega (arith, here.0, n);
      near = near;
      within = within;
      here = ap (λ (x : ℕ). eqb (get_or w.bytes x 0) w.byte) (sym n) ∙ here.1;
    }

-- no mark is set for a place before the end
pub none_marked : (bytes : List ℕ) (byte left : ℕ) → AreMarks bytes byte 0 left → length bytes ≤ 64
    → ((k : ℕ) → k < length bytes → bit_at left k ≡ 0) → All (λ x. eqb x byte ≡ false) bytes
none_marked bytes byte left marks short clear =
    All-from_get_or (λ x. eqb x byte ≡ false) bytes 0 (λ k h.
    let n : 0 + k ≡ k = omega arith in
    ap (λ (j : ℕ). eqb (get_or bytes j 0) byte) (sym n)
    ∙ unset_is (eqb (get_or bytes (0 + k) 0) byte) (bit_at left k)
    (marks k (omega (arith, h, short)) (omega (arith, h))) (clear k h))
