-- What the machine of head shows: it wants its inputs in order, each until its first lines are out.
-- With several inputs it wants one piece, or the end, of each, even if it writes no line of it:
-- then comes its header.
use Rattle.std.specs.Prelude.{◌≡◌, ℕ, ◌<◌, ◌≤◌, List, [], ◌∷◌, Bool, false, length, drop, nat_lt}
use Rattle.std.specs.Prelude.{slice_index_or, refl}
use Rattle.std.specs.List.{zip}
use Rattle.std.proofs.Common.{ap, ◌∙◌, arith, drop_of_length-le}
use Rattle.std.proofs.lemmas.Bool.{ltb-true, ltb-false}
use Rattle.std.proofs.lemmas.List.{get_or_past}
use Rattle.machine.specs.InOrder.{wanted_of, in_order_wants, in_order_finished}
use Rattle.machine.specs.Law.{Shown, IsLawful}
use Rattle.machine.specs.Whole.{inputs_from}
use Rattle.machine.specs.declared.protocol.Presence.{Presence}
use Rattle.line_filters.specs.declared.head.Head.{Head}
use Rattle.line_filters.specs.declared.progress.Progress.{Progress}
use Rattle.line_filters.specs.HeadLines.{Named, still_written}

-- the inputs from number i on
abbrev pub named_from : ℕ → List (List ℕ) → List Presence → (ℕ → List ℕ) → Named
named_from i names inputs ys = zip (drop i names) (inputs_from i (drop i inputs) ys)

-- what a machine shows after it has left this many inputs, and these were closed
abbrev pub heading : Progress → List (List ℕ) → List Presence → List Bool → Shown
heading p names inputs closed =
    record {
      inputs = length inputs;
      wanted = wanted_of inputs (length closed);
      closed = λ j. slice_index_or closed j false;
      rest = λ ys. still_written p (named_from (length closed) names inputs ys);
      most = λ ys. 0;
    }

abbrev pub head_shows : Head → Shown
head_shows m = heading m.progress m.names.items m.inputs.items m.closed.items

still_of_none : (p : Progress) (names : List (List ℕ)) → still_written p (zip names []) ≡ []
still_of_none p [] = refl
still_of_none p (name ∷ names) = refl

-- it obeys the law
pub heading_lawful : (p : Progress) (names : List (List ℕ)) (inputs : List Presence)
    (closed : List Bool) → IsLawful (heading p names inputs closed)
heading_lawful p names inputs closed =
    record {
      wants = λ i h.
          let w = in_order_wants (nat_lt (length closed) (length inputs)) (length closed) i h in
          let within : length closed
          < length inputs = ltb-true (length closed) (length inputs) (w.1) in
          let same : i ≡ length closed = w.0 in
          (omega arith, get_or_past closed i false (omega arith));
      finished = λ h ys e.
          let over : length inputs
          ≤ length closed = ltb-false (length closed) (length inputs)
          (in_order_finished (nat_lt (length closed) (length inputs)) (length closed) h) in
          ap (λ (ps : List Presence). still_written p
          (zip (drop (length closed) names) (inputs_from (length closed) ps ys)))
          (drop_of_length-le inputs over)
          ∙ still_of_none p (drop (length closed) names);
    }

pub head_lawful : (m : Head) → IsLawful (head_shows m)
head_lawful m = heading_lawful m.progress m.names.items m.inputs.items m.closed.items
