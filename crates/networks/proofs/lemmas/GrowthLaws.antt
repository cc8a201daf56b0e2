-- Events never grow fewer, and a step that moved something made one.
use Rattle.std.proofs.Common.{◌≡◌, ℕ, zero, suc, ◌+◌, ◌<◌, ◌≤◌, List, ◌++◌, Bool, true, false}
use Rattle.std.proofs.Common.{length, refl, ap, subst, arith, ◌⊎◌, ⊎_elim, length-append}
use Rattle.std.specs.Prelude.{if◌then◌else◌}
use Rattle.std.proofs.lemmas.Bool.{cases_eq, false≢true}
use mathlib.Core.List.{IsPrefix}
use Rattle.bounded_pipe.specs.Ends.{Writing, Reading, WritesOn, ReadsOn}
use Rattle.bounded_pipe.specs.Pipes.{items_put, items_taken, events_of_writing, events_of_reading}
use Rattle.network_laws.specs.State.{State, events_below}

prefix_length : {A : Type 0} (xs ys : List A) → IsPrefix xs ys → length xs ≤ length ys
prefix_length xs ys h =
    let e : length (xs ++ h.0) ≡ length ys = ap (λ (l : List _). length l) h.1 in
    let f : length (xs ++ h.0) ≡ length xs + length h.0 = length-append xs h.0 in
    omega arith

pub mark_on : (a b : Bool) → (a ≡ true → b ≡ true) → (if a then 1 else 0) ≤ (if b then 1 else 0)
mark_on true true h = omega arith
mark_on true false h = absurd (false≢true (h refl))
mark_on false true h = omega arith
mark_on false false h = omega arith

pub writing_on : (a b : Writing) → WritesOn a b → events_of_writing a ≤ events_of_writing b
writing_on a b on =
    let l : length (items_put a) ≤ length (items_put b) = prefix_length a.put b.put on.put in
    let m : (if a.noted then 1 else 0) ≤ (if b.noted then 1 else 0) =
    mark_on a.noted b.noted on.noted in
    omega arith

pub reading_on : (a b : Reading) → ReadsOn a b → events_of_reading a ≤ events_of_reading b
reading_on a b on =
    let l : length (items_taken a) ≤ length (items_taken b) =
    prefix_length a.taken b.taken on.taken in
    let m : (if a.hung_up then 1 else 0) ≤ (if b.hung_up then 1 else 0) =
    mark_on a.hung_up b.hung_up on.hung_up in
    omega arith

pub events_on : (n : ℕ) (a b : State) → ((p : ℕ) → WritesOn (a.writing p) (b.writing p))
    → ((p : ℕ) → ReadsOn (a.reading p) (b.reading p)) → events_below n a ≤ events_below n b
events_on zero a b w r = omega arith
events_on (suc n) a b w r =
    let e : events_below n a ≤ events_below n b = events_on n a b w r in
    let x : events_of_writing (a.writing n) ≤ events_of_writing (b.writing n) =
    writing_on (a.writing n) (b.writing n) (w n) in
    let y : events_of_reading (a.reading n) ≤ events_of_reading (b.reading n) =
    reading_on (a.reading n) (b.reading n) (r n) in
    omega arith

-- if the ends of one pipe made an event, there are more
pub events_grew : (n : ℕ) (a b : State) → ((p : ℕ) → WritesOn (a.writing p) (b.writing p))
    → ((p : ℕ) → ReadsOn (a.reading p) (b.reading p)) → (q : ℕ) → q < n
    → (events_of_writing (a.writing q) < events_of_writing (b.writing q))
    ⊎ (events_of_reading (a.reading q) < events_of_reading (b.reading q))
    → events_below n a < events_below n b
events_grew zero a b w r q lt h = absurd (omega (arith, lt))
events_grew (suc n) a b w r q lt h =
    let x : events_of_writing (a.writing n) ≤ events_of_writing (b.writing n) =
    writing_on (a.writing n) (b.writing n) (w n) in
    let y : events_of_reading (a.reading n) ≤ events_of_reading (b.reading n) =
    reading_on (a.reading n) (b.reading n) (r n) in
    ⊎_elim
    (λ e.
    let here : (events_of_writing (a.writing n) < events_of_writing (b.writing n))
    ⊎ (events_of_reading (a.reading n) < events_of_reading (b.reading n)) =
    subst (λ (i : ℕ). (events_of_writing (a.writing i) < events_of_writing (b.writing i))
    ⊎ (events_of_reading (a.reading i) < events_of_reading (b.reading i))) e h in
    let below : events_below n a ≤ events_below n b = events_on n a b w r in
    ⊎_elim (λ m. omega (arith, m, below, x, y)) (λ m. omega (arith, m, below, x, y)) here)
    (λ ne.
    let below : events_below n a < events_below n b =
    events_grew n a b w r q (omega (arith, lt, ne)) h in
    omega (arith, below, x, y))
    (cases_eq q n)
