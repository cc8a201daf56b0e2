-- A machine that wants its inputs in order obeys the law if what it would still put out does.
use Rattle.std.proofs.Common.{◌≡◌, ℕ, ◌+◌, ◌-◌, ◌<◌, ◌≤◌, List, [], ◌∷◌, ◌++◌, length, drop, get_or}
use Rattle.std.proofs.Common.{Option, Some, None, refl, ap, ◌∙◌, sym, arith, ltb, length-drop}
use Rattle.std.specs.Prelude.{◌||◌, ◌==◌, nat_lt, slice_get}
use Rattle.std.proofs.lemmas.List.{drop_more, get_or_read}
use Rattle.std.proofs.lemmas.Option.{get_or_from_slice_get}
use Rattle.std.proofs.lemmas.Bool.{ltb-true, lt-ltb}
use Rattle.std.proofs.lemmas.Bool.Decides.{nat_tests}
use Rattle.machine.specs.Law.{Feeds, Closes, IsEmptyOn, before, with_closed}
use Rattle.machine.specs.Pieces.{Queued, contents}
use Rattle.machine.specs.Whole.{inputs_from}
use Rattle.machine.specs.declared.protocol.Presence.{Presence}
use Rattle.machine.specs.declared.protocol.Presence.TheVariants.{Present, Missing}
use Rattle.machine.specs.declared.protocol.Want.TheVariants.{Take}
use Rattle.machine.proofs.Inputs.{before_at, inputs_from-before}
use Rattle.machine.specs.InOrder.{in_order, in_order_wants, wanted_of}

-- if an input is wanted: which one it is, that the machine has it, and what is still to come from
-- it on
pub record AtInput (inputs : List Presence) (at i : ℕ) : Type 0 where
  pub same : i ≡ at
  pub within : at < length inputs
  pub split : drop at inputs ≡ get_or inputs at Present ∷ drop (at + 1) inputs

pub at_input : (inputs : List Presence) (at i : ℕ) → wanted_of inputs at ≡ Take i
    → AtInput inputs at i
at_input inputs at i wants =
    let w = in_order_wants (ltb at (length inputs)) at i wants in
    let within : at < length inputs = ltb-true at (length inputs) (w.1) in
    record { same = w.0; within = within; split = drop_more inputs at Present within }

-- what indexing reads of the input that is wanted
pub wanted_is : (inputs : List Presence) (at i : ℕ) (v w : Presence) → wanted_of inputs at ≡ Take i
    → v ≡ get_or inputs at v → v ≡ w → get_or inputs at Present ≡ w
wanted_is inputs at i v w wants read e =
    sym (get_or_read inputs at v (at_input inputs at i wants).within read Present) ∙ e

-- what the code finds of the input that is wanted
pub here_is : (inputs : List Presence) (at : ℕ) (v w : Presence) → slice_get inputs at ≡ Some v
    → v ≡ w → get_or inputs at Present ≡ w
here_is inputs at v w found e = get_or_from_slice_get inputs at v Present found ∙ e

-- the inputs from one on
abbrev pub left : List Presence → ℕ → (ℕ → List ℕ) → List (Option (List ℕ))
left inputs at ys = inputs_from at (drop at inputs) ys

-- what comes from the input that is wanted, and from those after it
abbrev pub input_of : Presence → List ℕ → Option (List ℕ)
input_of Present xs = Some xs
input_of Missing xs = None

left_first_by : (x : Presence) (xs : List Presence) (at : ℕ) (ys : ℕ → List ℕ)
    → inputs_from at (x ∷ xs) ys ≡ input_of x (ys at) ∷ inputs_from (at + 1) xs ys
left_first_by Present xs at ys = refl
left_first_by Missing xs at ys = refl

left_first : (inputs : List Presence) (at i : ℕ) (x : Presence) (ys : ℕ → List ℕ)
    → AtInput inputs at i → get_or inputs at Present ≡ x
    → left inputs at ys ≡ input_of x (ys at) ∷ left inputs (at + 1) ys
left_first inputs at i x ys a e =
    ap (λ (ps : List Presence). inputs_from at ps ys) (a.split
    ∙ ap (λ (p : Presence). p ∷ drop (at + 1) inputs) e)
    ∙ left_first_by x (drop (at + 1) inputs) at ys

left_fed_at : (inputs : List Presence) (at i : ℕ) (x : Presence) (piece : List ℕ) (ys : ℕ → List ℕ)
    → AtInput inputs at i → get_or inputs at Present ≡ x
    → left inputs at (before i piece ys) ≡ input_of x (piece ++ ys at) ∷ left inputs (at + 1) ys
left_fed_at inputs at i x piece ys a e =
    ap (λ (k : ℕ). left inputs at (before k piece ys)) a.same
    ∙ (left_first inputs at i x (before at piece ys) a e
    ∙ (ap (λ (z : List ℕ). input_of x z ∷ left inputs (at + 1) (before at piece ys))
    (before_at at piece ys)
    ∙ ap (λ (zs : List (Option (List ℕ))). input_of x (piece ++ ys at) ∷ zs)
    (inputs_from-before (drop (at + 1) inputs) (at + 1) at piece ys (omega arith))))

-- what is left if a piece comes first on the input that is wanted
pub left_fed : (inputs : List Presence) (at i : ℕ) (x : Presence) (piece : List ℕ) (ys : ℕ → List ℕ)
    → wanted_of inputs at ≡ Take i → get_or inputs at Present ≡ x
    → left inputs at (before i piece ys) ≡ input_of x (piece ++ ys at) ∷ left inputs (at + 1) ys
left_fed inputs at i x piece ys wants here =
    left_fed_at inputs at i x piece ys (at_input inputs at i wants) here

-- a piece of an input, of which `made` was put out
pub in_order_feeds : (inputs : List Presence) (at i : ℕ) (x : Presence) (piece made : List ℕ)
    (out out' : Queued) (rest rest' : List (Option (List ℕ))
    → List ℕ) (most most' : List (Option (List ℕ)) → ℕ) → wanted_of inputs at ≡ Take i
    → get_or inputs at Present ≡ x → contents out' ≡ contents out ++ made
    → ((y : List ℕ) (ins : List (Option (List ℕ)))
    → rest (input_of x (piece ++ y) ∷ ins) ≡ made ++ rest' (input_of x y ∷ ins))
    → ((y : List ℕ) (ins : List (Option (List ℕ)))
    → most' (input_of x y ∷ ins) ≤ most (input_of x (piece ++ y) ∷ ins))
    → Feeds i piece (in_order inputs at (λ ys. rest (left inputs at ys))
    (λ ys. most (left inputs at ys)))
    (in_order inputs at (λ ys. rest' (left inputs at ys)) (λ ys. most' (left inputs at ys))) out
    out'
in_order_feeds inputs at i x piece made out out' rest rest' most most' wants here added goes
    counts =
    let a = at_input inputs at i wants in
    record {
      made = made;
      added = added;
      closed = λ j. refl;
      splits = λ ys h.
          ap rest (left_fed_at inputs at i x piece ys a here)
          ∙ (goes (ys at) (left inputs (at + 1) ys)
          ∙ ap (λ (zs : List (Option (List ℕ))). made ++ rest' zs)
          (sym (left_first inputs at i x ys a here)));
      counts = λ ys h.
          let old = ap most (left_fed_at inputs at i x piece ys a here) in
          let new = ap most' (left_first inputs at i x ys a here) in
          let le = counts (ys at) (left inputs (at + 1) ys) in
          omega arith;
    }

closed_more : (j at : ℕ) → nat_lt j (at + 1) ≡ ((j == at) || nat_lt j at)
closed_more j at = grind (arith, nat_tests)

-- the inputs that are closed once the one that is wanted is
shut_at : (inputs : List Presence) (at i : ℕ) → AtInput inputs at i → (j : ℕ)
    → nat_lt j (at + 1) ≡ with_closed i (λ k. nat_lt k at) j
shut_at inputs at i a j = closed_more j at ∙ ap (λ (k : ℕ). (j == k) || nat_lt j at) (sym a.same)

-- what is left once the input that is wanted has ended
pub left_ended : (inputs : List Presence) (at i : ℕ) (x : Presence) (ys : ℕ → List ℕ)
    → wanted_of inputs at ≡ Take i → get_or inputs at Present ≡ x
    → IsEmptyOn (with_closed i (λ k. nat_lt k at)) ys
    → left inputs at ys ≡ input_of x [] ∷ left inputs (at + 1) ys
left_ended inputs at i x ys wants here h =
    let a = at_input inputs at i wants in
    let none : ys at ≡ [] = h at (sym (shut_at inputs at i a at)
    ∙ lt-ltb at (at + 1) (omega arith)) in
    left_first inputs at i x ys a here
    ∙ ap (λ (z : List ℕ). input_of x z ∷ left inputs (at + 1) ys) none

pub inputs_long : (i : ℕ) (ps : List Presence) (ys : ℕ → List ℕ)
    → length (inputs_from i ps ys) ≡ length ps
inputs_long i [] ys = refl
inputs_long i (Present ∷ ps) ys = let e = inputs_long (i + 1) ps ys in omega arith
inputs_long i (Missing ∷ ps) ys = let e = inputs_long (i + 1) ps ys in omega arith

last_by : (at long rest : ℕ) → at < long → rest ≡ long - (at + 1) → (at + 1 == long) ≡ (rest == 0)
last_by at long rest h e = grind (arith, nat_tests)

-- the end of an input, at which `made` was put out; it is the last input if none is left
pub in_order_closes : (inputs : List Presence) (at i : ℕ) (x : Presence) (made : List ℕ)
    (out out' : Queued) (rest rest' : List (Option (List ℕ))
    → List ℕ) (most most' : List (Option (List ℕ)) → ℕ) → wanted_of inputs at ≡ Take i
    → get_or inputs at Present ≡ x → contents out' ≡ contents out ++ made
    → ((ins : List (Option (List ℕ))) → (at + 1 == length inputs) ≡ (length ins == 0)
    → rest (input_of x [] ∷ ins) ≡ made ++ rest' ins)
    → ((ins : List (Option (List ℕ))) → (at + 1 == length inputs) ≡ (length ins == 0)
    → most' ins ≤ most (input_of x [] ∷ ins))
    → Closes i (in_order inputs at (λ ys. rest (left inputs at ys))
    (λ ys. most (left inputs at ys)))
    (in_order inputs (at + 1) (λ ys. rest' (left inputs (at + 1) ys))
    (λ ys. most' (left inputs (at + 1) ys))) out out'
in_order_closes inputs at i x made out out' rest rest' most most' wants here added goes counts =
    let a = at_input inputs at i wants in
    let last : (ys : ℕ → List ℕ) → (at + 1 == length inputs)
    ≡ (length (left inputs (at + 1) ys) == 0) =
    λ ys. last_by at (length inputs) (length (left inputs (at + 1) ys)) a.within
    (inputs_long (at + 1) (drop (at + 1) inputs) ys ∙ length-drop (at + 1) inputs) in
    record {
      made = made;
      added = added;
      closed = shut_at inputs at i a;
      splits = λ ys h. ap rest (left_ended inputs at i x ys wants here h)
          ∙ goes (left inputs (at + 1) ys) (last ys);
      counts = λ ys h.
          let old = ap most (left_ended inputs at i x ys wants here h) in
          let le = counts (left inputs (at + 1) ys) (last ys) in
          omega arith;
    }
