-- A machine of one input obeys the law if what it would still put out does.
use Rattle.std.proofs.Common.{◌≡◌, ℕ, ◌≤◌, List, [], ◌++◌, Bool, true, false, refl, ap, ◌∙◌, sym}
use Rattle.std.proofs.Common.{subst}
use Rattle.std.specs.Prelude.{◌==◌, ◌&&◌, ◌||◌, if◌then◌else◌}
use Rattle.machine.specs.Law.{Feeds, Closes, before}
use Rattle.machine.specs.OneInput.{one_input, wants_first}
use Rattle.machine.specs.Pieces.{Queued, contents}
use Rattle.machine.specs.declared.protocol.Want.TheVariants.{Take, Finished}

-- it was fed a piece, and put out `made`
pub one_input_feeds : (closed : Bool) (rest rest' : List ℕ → List ℕ) (most most' : List ℕ
    → ℕ) (i : ℕ) (piece made : List ℕ) (out out' : Queued)
    → (if closed then Finished else Take 0) ≡ Take i → contents out' ≡ contents out ++ made
    → ((ys : List ℕ) → rest (piece ++ ys) ≡ made ++ rest' ys)
    → ((ys : List ℕ) → most' ys ≤ most (piece ++ ys))
    → Feeds i piece (one_input closed rest most) (one_input closed rest' most') out out'
one_input_feeds closed rest rest' most most' i piece made out out' wants added splits counts =
    let first : i ≡ 0 = (wants_first closed i wants).1 in
    record {
      made = made;
      added = added;
      closed = λ j. refl;
      splits = λ ys h. ap (λ (k : ℕ). rest (before k piece ys 0)) first ∙ splits (ys 0);
      counts = λ ys h. subst (λ (k : ℕ). most' (ys 0) ≤ most (before k piece ys 0)) (sym first)
          (counts (ys 0));
    }

shut_by : (b : Bool) → (b && true) ≡ (b || (b && false))
shut_by true = refl
shut_by false = refl

-- its input was closed, and it put out `made`
pub one_input_closes : (closed : Bool) (rest rest' : List ℕ → List ℕ) (most most' : List ℕ
    → ℕ) (i : ℕ) (made : List ℕ) (out out' : Queued)
    → (if closed then Finished else Take 0) ≡ Take i → contents out' ≡ contents out ++ made
    → rest [] ≡ made ++ rest' [] → most' [] ≤ most []
    → Closes i (one_input closed rest most) (one_input true rest' most') out out'
one_input_closes closed rest rest' most most' i made out out' wants added splits counts =
    let first = wants_first closed i wants in
    record {
      made = made;
      added = added;
      closed = λ j.
          shut_by (j == 0)
          ∙ (ap (λ (b : Bool). (j == 0) || ((j == 0) && b)) (sym (first.0))
          ∙ ap (λ (k : ℕ). (j == k) || ((j == 0) && closed)) (sym (first.1)));
      splits = λ ys h.
          let none : ys 0 ≡ [] = h 0 (ap (λ (k : ℕ). (0 == k) || ((0 == 0) && closed)) (first.1)) in
          ap rest none ∙ (splits ∙ ap (λ (y : List ℕ). made ++ rest' y) (sym none));
      counts = λ ys h.
          let none : ys 0 ≡ [] = h 0 (ap (λ (k : ℕ). (0 == k) || ((0 == 0) && closed)) (first.1)) in
          subst (λ (y : List ℕ). most' y ≤ most y) (sym none) counts;
    }
