-- What was made of what was taken stays right with every piece that is fed and every input that is
-- closed.
use Rattle.std.proofs.Common.{◌≡◌, ℕ, ◌≤◌, ◌^◌, List, [], ◌++◌, Bool, true, false, cond, ap, ◌∙◌}
use Rattle.std.proofs.Common.{sym, subst, refl, eqb, append_assoc, arith}
use Rattle.std.specs.Prelude.{◌||◌}
use Rattle.std.proofs.lemmas.Bool.{eqb-true}
use Rattle.std.proofs.lemmas.List.{append-nil}
use Rattle.machine.specs.Law.{Shown, before, IsEmptyOn, IsLawful, with_closed, Feeds, Closes}
use Rattle.machine.specs.Law.{IsTooLarge}
use Rattle.machine.specs.declared.protocol.Want.TheVariants.{Finished}
use Rattle.machine.specs.Makes.{after, with_taken, Makes}
use Rattle.machine.specs.Pieces.{Queued}
use Rattle.machine.specs.Whole.{StreamAnswer}

pub fun_ext : {A B : Type 0} {f g : A → B} → ((x : A) → f x ≡ g x) → f ≡ g
fun_ext h = λ i x. h x i

-- a piece that was taken, or that is still to come before the rest
taken_before_by : (b : Bool) (t piece y : List ℕ)
    → cond b (t ++ piece) t ++ y ≡ t ++ cond b (piece ++ y) y
taken_before_by true t piece y = append_assoc t piece y
taken_before_by false t piece y = refl

pub taken_before : (i : ℕ) (piece : List ℕ) (taken ys : ℕ → List ℕ)
    → after (with_taken i piece taken) ys ≡ after taken (before i piece ys)
taken_before i piece taken ys = fun_ext (λ j. taken_before_by (eqb j i) (taken j) piece (ys j))

-- if i is not closed, a piece on it leaves the closed inputs empty
empty_by : (b : Bool) (i j : ℕ) (piece y : List ℕ) (closed : ℕ → Bool) → eqb j i ≡ b
    → closed i ≡ false → closed j ≡ true → y ≡ [] → cond b (piece ++ y) y ≡ []
empty_by true i j piece y closed e live h k =
    let s : closed j ≡ false = ap closed (eqb-true j i e) ∙ live in
    cc
empty_by false i j piece y closed e live h k = k

pub empty_before : (i : ℕ) (piece : List ℕ) (closed : ℕ → Bool) (ys : ℕ → List ℕ) → closed i ≡ false
    → IsEmptyOn closed ys → IsEmptyOn closed (before i piece ys)
empty_before i piece closed ys live h j k =
    empty_by (eqb j i) i j piece (ys j) closed refl live k (h j k)

or_true : (a b : Bool) → b ≡ true → (a || b) ≡ true
or_true true b h = refl
or_true false b h = h

empty_closed : (i : ℕ) (closed : ℕ → Bool) (ys : ℕ → List ℕ) → IsEmptyOn (with_closed i closed) ys
    → IsEmptyOn closed ys
empty_closed i closed ys h j k = h j (or_true (eqb j i) (closed j) k)

-- after a piece of input i
pub makes_fed : (answer : StreamAnswer) (old new : Shown) (ended : ℕ → Bool) (taken : ℕ
    → List ℕ) (made : List ℕ) (out out' : Queued) (i : ℕ) (piece : List ℕ) → old.closed i ≡ false
    → (g : Feeds i piece old new out out') → Makes answer old ended taken made
    → Makes answer new ended (with_taken i piece taken) (made ++ g.made)
makes_fed answer old new ended taken made out out' i piece live g m =
    record {
      splits = λ ys h.
          ap (λ (x : ℕ → List ℕ). (answer x).out) (taken_before i piece taken ys)
          ∙ (m.splits (before i piece ys)
          (empty_before i piece old.closed ys live (λ j k. h j (g.closed j ∙ k)))
          ∙ (ap (λ (x : List ℕ). made ++ x) (g.splits ys (λ j k. h j (g.closed j ∙ k)))
          ∙ sym (append_assoc made g.made (new.rest ys))));
      counts = λ ys h.
          let e : IsEmptyOn old.closed ys = λ j k. h j (g.closed j ∙ k) in
          let now : new.most ys ≤ old.most (before i piece ys) = g.counts ys e in
          let whole : old.most (before i piece ys) ≤ (answer
          (after taken (before i piece ys))).count =
          m.counts (before i piece ys) (empty_before i piece old.closed ys live e) in
          subst (λ (x : ℕ → List ℕ). new.most ys ≤ (answer x).count)
          (sym (taken_before i piece taken ys)) (omega arith);
      closed = λ j. g.closed j ∙ m.closed j;
    }

-- after the end of input i
pub makes_closed : (answer : StreamAnswer) (old new : Shown) (ended : ℕ → Bool) (taken : ℕ
    → List ℕ) (made : List ℕ) (out out' : Queued) (i : ℕ) → (g : Closes i old new out out')
    → Makes answer old ended taken made
    → Makes answer new (with_closed i ended) taken (made ++ g.made)
makes_closed answer old new ended taken made out out' i g m =
    record {
      splits = λ ys h.
          let e : IsEmptyOn (with_closed i old.closed) ys = λ j k. h j (g.closed j ∙ k) in
          m.splits ys (empty_closed i old.closed ys e)
          ∙ (ap (λ (x : List ℕ). made ++ x) (g.splits ys e)
          ∙ sym (append_assoc made g.made (new.rest ys)));
      counts = λ ys h.
          let e : IsEmptyOn (with_closed i old.closed) ys = λ j k. h j (g.closed j ∙ k) in
          let now : new.most ys ≤ old.most ys = g.counts ys e in
          let whole : old.most ys ≤ (answer (after taken ys)).count =
          m.counts ys (empty_closed i old.closed ys e) in
          omega arith;
      closed = λ j. g.closed j ∙ ap (λ (b : Bool). eqb j i || b) (m.closed j);
    }

-- a count that is too large for the machine is too large in the answer, whatever is still to come
pub too_large_fed : (answer : StreamAnswer) (old : Shown) (ended : ℕ → Bool) (taken : ℕ
    → List ℕ) (made : List ℕ) (i : ℕ) (piece : List ℕ) → old.closed i ≡ false
    → IsTooLarge old old.closed (before i piece) → Makes answer old ended taken made
    → (ys : ℕ → List ℕ) → IsEmptyOn old.closed ys
    → 2 ^ 63 ≤ (answer (after (with_taken i piece taken) ys)).count
too_large_fed answer old ended taken made i piece live large m ys h =
    let most : 2 ^ 63 ≤ old.most (before i piece ys) = large ys h in
    let whole : old.most (before i piece ys) ≤ (answer (after taken (before i piece ys))).count =
    m.counts (before i piece ys) (empty_before i piece old.closed ys live h) in
    subst (λ (x : ℕ → List ℕ). 2 ^ 63 ≤ (answer x).count) (sym (taken_before i piece taken ys))
    (omega arith)

pub too_large_closed : (answer : StreamAnswer) (old : Shown) (ended : ℕ → Bool) (taken : ℕ
    → List ℕ) (made : List ℕ) (i : ℕ) → IsTooLarge old (with_closed i old.closed) (λ ys. ys)
    → Makes answer old ended taken made → (ys : ℕ → List ℕ)
    → IsEmptyOn (with_closed i old.closed) ys → 2 ^ 63 ≤ (answer (after taken ys)).count
too_large_closed answer old ended taken made i large m ys h =
    let most : 2 ^ 63 ≤ old.most ys = large ys h in
    let whole : old.most ys ≤ (answer (after taken ys)).count =
    m.counts ys (empty_closed i old.closed ys h) in
    omega arith

-- a machine that has finished has made its answer
pub makes_finished : (answer : StreamAnswer) (m : Shown) (ended : ℕ → Bool) (taken : ℕ
    → List ℕ) (made : List ℕ) → IsLawful m → m.wanted ≡ Finished → Makes answer m ended taken made
    → (ys : ℕ → List ℕ) → IsEmptyOn m.closed ys → (answer (after taken ys)).out ≡ made
makes_finished answer m ended taken made lawful finished makes ys h =
    makes.splits ys h ∙ (ap (λ (x : List ℕ). made ++ x) (lawful.finished finished ys h)
    ∙ append-nil made)
