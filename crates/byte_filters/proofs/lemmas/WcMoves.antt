-- The machine of wc goes on as the law says.
use Rattle.std.proofs.Common.{◌≡◌, ℕ, ◌+◌, ◌^◌, ◌≤◌, List, [], ◌∷◌, ◌++◌, Bool, true, false, length}
use Rattle.std.proofs.Common.{get_or, inl, inr, Option, Some, refl, ap, ◌∙◌, sym, subst, arith}
use Rattle.std.specs.Prelude.{◌==◌, ◌↔◌, IsTrue, nat_lt, slice_get}
use Rattle.std.specs.List.{flat_map}
use Rattle.std.proofs.lemmas.List.{append-nil}
use Rattle.std.proofs.lemmas.Bool.{eq-eqb}
use Rattle.std.proofs.lemmas.Bool.Decides.{eqb_tells, nat_tests}
use Rattle.std.proofs.lemmas.Grind.{flat_map-append}
use Rattle.machine.specs.Law.{IsNew, Feeds, Closes, IsEmptyOn, before, with_closed}
use Rattle.machine.specs.Pieces.{Queued, contents}
use Rattle.machine.specs.Whole.{inputs_of}
use Rattle.machine.specs.declared.protocol.Presence.{Presence}
use Rattle.machine.specs.declared.protocol.Presence.TheVariants.{Present, Missing}
use Rattle.machine.specs.declared.protocol.Want.TheVariants.{Take}
use Rattle.commands.specs.declared.wc_counts.Counts.{Counts}
use Rattle.commands.specs.declared.wc_words.WcSpec.{WcSpec}
use Rattle.byte_filters.specs.declared.wc.Wc.{Wc}
use Rattle.commands.specs.Wc.{Tally, counted_after, greatest, has_total, nothing, tallies, wc_whole}
use Rattle.commands.specs.Wc.{written_line}
use Rattle.machine.specs.InOrder.{Position, wanted_of}
use Rattle.byte_filters.specs.WcSteps.{Agree, IsTooMany, added, closing, ends_in_word, is_present}
use Rattle.byte_filters.specs.WcSteps.{plus, sums_after}
use Rattle.byte_filters.specs.WcShows.{tallies_after, wc_shows, wc_tallies}
use Rattle.machine.proofs.InOrderLaws.{in_order_feeds, in_order_closes, input_of, inputs_long, left}
use Rattle.machine.proofs.InOrderLaws.{left_ended, left_fed, here_is}
use Rattle.byte_filters.proofs.lemmas.WcLaws.{HasCounted, all_numbers, tallies_new, tallies_fed}
use Rattle.byte_filters.proofs.lemmas.WcLaws.{fed_too_many, tallies_closed, tallies_skipped}
use Rattle.byte_filters.proofs.lemmas.WcLaws.{closed_too_many, greatest-back}

not_below_zero : (j : ℕ) → nat_lt j 0 ≡ false
not_below_zero j = grind (arith, nat_tests)

-- a machine with these parts is new
pub wc_new : (m : Wc) (spec : WcSpec) (presence : List Presence) → m.spec ≡ spec
    → m.inputs ≡ record { presence = presence; at = 0 } → m.counts ≡ nothing → m.in_word ≡ false
    → m.sums ≡ nothing → 1 ≤ length presence → IsNew (wc_shows m) (wc_whole spec) presence
wc_new m spec presence same first counts word sums some =
    let e = ap (λ (t : Position). t.presence) first in
    let at = ap (λ (t : Position). t.at) first in
    let begun : (ys : ℕ → List ℕ) → wc_tallies m ys ≡ tallies spec (inputs_of presence ys) =
    λ ys. rw (same, e, at, counts, word, sums)
    (tallies_new spec (inputs_of presence ys) (let k = inputs_long 0 presence ys in
    omega arith)) in
    record {
      inputs = ap length e;
      unclosed = λ j. ap (λ (k : ℕ). nat_lt j k) at ∙ not_below_zero j;
      rest = λ ys. ap (flat_map written_line) (begun ys);
      most = λ ys. let k = ap (λ (ts : List Tally). greatest (all_numbers ts)) (begun ys) in
          omega arith;
    }

-- the lines that a machine would write of its first input and those after it, as bytes, and the
-- greatest number in them
abbrev lines_of : Wc → List (Option (List ℕ)) → List Tally
lines_of m ins = tallies_after m.spec m.inputs.at m.sums m.counts m.in_word ins

abbrev text_of : Wc → List (Option (List ℕ)) → List ℕ
text_of m ins = flat_map written_line (lines_of m ins)

abbrev greatest_of : Wc → List (Option (List ℕ)) → ℕ
greatest_of m ins = greatest (all_numbers (lines_of m ins))

abbrev first_input : Wc → Presence
first_input m = get_or m.inputs.presence m.inputs.at Present

-- a piece of an input that is present
wc_fed : (m : Wc) (i : ℕ) (piece : List ℕ) (out : Queued) (r : Counts) (after : Bool)
    → wanted_of m.inputs.presence m.inputs.at ≡ Take i → first_input m ≡ Present
    → HasCounted m.spec m.in_word after r piece
    → Feeds i piece (wc_shows m)
    (wc_shows (record m { counts = added m.spec m.counts r; in_word = after })) out out
wc_fed m i piece out r after wants here h =
    let m' : Wc = record m { counts = added m.spec m.counts r; in_word = after } in
    let same : (y : List ℕ) (ins : List (Option (List ℕ)))
    → lines_of m (Some (piece ++ y) ∷ ins) ≡ lines_of m' (Some y ∷ ins) =
    λ y ins. tallies_fed m.spec m.inputs.at m.sums m.counts r m.in_word after piece y ins h in
    in_order_feeds m.inputs.presence m.inputs.at i Present piece [] out out (text_of m) (text_of m')
    (greatest_of m) (greatest_of m') wants here (sym (append-nil (contents out)))
    (λ y ins. ap (flat_map written_line) (same y ins))
    (λ y ins. let k = ap (λ (ts : List Tally). greatest (all_numbers ts)) (same y ins) in
    omega arith)

pub wc_fed_as : (m : Wc) (i : ℕ) (piece : List ℕ) (out : Queued) (r counts : Counts) (after : Bool)
    → counts ≡ added m.spec m.counts r → wanted_of m.inputs.presence m.inputs.at ≡ Take i
    → first_input m ≡ Present → HasCounted m.spec m.in_word after r piece
    → Feeds i piece (wc_shows m) (wc_shows (record m { counts = counts; in_word = after })) out out
wc_fed_as m i piece out r counts after e wants here h =
    subst (λ (c : Counts). Feeds i piece (wc_shows m)
    (wc_shows (record m { counts = c; in_word = after })) out out) (sym e)
    (wc_fed m i piece out r after wants here h)

-- a piece of one that is missing
pub wc_skipped : (m : Wc) (i : ℕ) (piece : List ℕ) (out : Queued)
    → wanted_of m.inputs.presence m.inputs.at ≡ Take i → first_input m ≡ Missing
    → Feeds i piece (wc_shows m) (wc_shows m) out out
wc_skipped m i piece out wants gone =
    in_order_feeds m.inputs.presence m.inputs.at i Missing piece [] out out (text_of m) (text_of m)
    (greatest_of m) (greatest_of m) wants gone (sym (append-nil (contents out))) (λ y ins. refl)
    (λ y ins. omega arith)

-- a piece that makes a count too large
pub wc_fed_too_many : (m : Wc) (i : ℕ) (piece : List ℕ) (r : Counts) (after : Bool)
    → wanted_of m.inputs.presence m.inputs.at ≡ Take i → first_input m ≡ Present
    → HasCounted m.spec m.in_word after r piece → IsTooMany m.spec (plus m.counts r)
    → (ys : ℕ → List ℕ) → 2 ^ 63 ≤ greatest (all_numbers (wc_tallies m (before i piece ys)))
wc_fed_too_many m i piece r after wants here h many ys =
    let e =
    ap (greatest_of m) (left_fed m.inputs.presence m.inputs.at i Present piece ys wants here) in
    let k = fed_too_many m.spec m.inputs.at m.sums m.counts r m.in_word after piece (ys m.inputs.at)
    (left m.inputs.presence (m.inputs.at + 1) ys) h many in
    omega arith

-- ---- the end of an input

-- the machine once an input is over
abbrev pub ended : Wc → Counts → Wc
ended m s = record m {
  sums = s;
  counts = nothing;
  in_word = false;
  inputs =
      record m.inputs { at = m.inputs.at + 1 };
}

closed_by : (x : Presence) (m : Wc) (last : Bool) (ins : List (Option (List ℕ)))
    → last ≡ (length ins == 0) → lines_of m (input_of x [] ∷ ins)
    ≡ closing m.spec m.inputs.at (is_present x) last m.counts
    (sums_after m.spec (is_present x) m.sums m.counts) ++ lines_of
    (ended m (sums_after m.spec (is_present x) m.sums m.counts)) ins
closed_by Present m last ins h =
    tallies_closed m.spec m.inputs.at m.sums m.counts m.in_word last ins h
closed_by Missing m last ins h =
    tallies_skipped m.spec m.inputs.at m.sums m.counts m.in_word last ins h

-- the end of the input that is wanted
wc_closed : (m : Wc) (i : ℕ) (here last : Bool) (s : Counts) (text : List ℕ) (out out' : Queued)
    → wanted_of m.inputs.presence m.inputs.at ≡ Take i → here ≡ is_present (first_input m)
    → last ≡ (m.inputs.at + 1 == length m.inputs.presence)
    → s ≡ sums_after m.spec here m.sums m.counts
    → text ≡ flat_map written_line (closing m.spec m.inputs.at here last m.counts s)
    → contents out' ≡ contents out ++ text → Closes i (wc_shows m) (wc_shows (ended m s)) out out'
wc_closed m i here last s text out out' wants h l e t added =
    let lines = closing m.spec m.inputs.at here last m.counts s in
    let m' : Wc = ended m s in
    let whole : (ins : List (Option (List ℕ)))
    → (m.inputs.at + 1 == length m.inputs.presence) ≡ (length ins == 0)
    → lines_of m (input_of (first_input m) [] ∷ ins) ≡ lines ++ lines_of m' ins =
    λ ins g. closed_by (first_input m) m last ins (l ∙ g) ∙ rw (e, h) refl in
    in_order_closes m.inputs.presence m.inputs.at i (first_input m) text out out' (text_of m)
    (text_of m') (greatest_of m) (greatest_of m') wants refl added
    (λ ins g.
    ap (flat_map written_line) (whole ins g)
    ∙ (flat_map-append written_line lines (lines_of m' ins)
    ∙ ap (λ (x : List ℕ). x ++ flat_map written_line (lines_of m' ins)) (sym t)))
    (λ ins g.
    let k = ap (λ (ts : List Tally). greatest (all_numbers ts)) (whole ins g) in
    let f = ap greatest (flat_map-append (λ (t : Tally). t.1) lines (lines_of m' ins)) in
    let b = greatest-back (all_numbers lines) (all_numbers (lines_of m' ins)) in
    omega arith)

pub wc_closed_as : (m : Wc) (i : ℕ) (here last : Bool) (s fresh : Counts) (text : List ℕ)
    (out out' : Queued) → fresh ≡ nothing → wanted_of m.inputs.presence m.inputs.at ≡ Take i
    → here ≡ is_present (first_input m) → last ≡ (m.inputs.at + 1 == length m.inputs.presence)
    → s ≡ sums_after m.spec here m.sums m.counts
    → text ≡ flat_map written_line (closing m.spec m.inputs.at here last m.counts s)
    → contents out' ≡ contents out ++ text
    → Closes i (wc_shows m)
    (wc_shows (record m {
      sums = s;
      counts = fresh;
      in_word = false;
      inputs =
          record m.inputs { at = m.inputs.at + 1 };
    })) out out'
wc_closed_as m i here last s fresh text out out' e wants h l f t added =
    subst (λ (c : Counts). Closes i (wc_shows m)
    (wc_shows (record m {
      sums = s;
      counts = c;
      in_word = false;
      inputs =
          record m.inputs { at = m.inputs.at + 1 };
    })) out out') (sym e)
    (wc_closed m i here last s text out out' wants h l f t added)

-- an input whose numbers make a sum too large
pub wc_closed_too_many : (m : Wc) (i : ℕ) → wanted_of m.inputs.presence m.inputs.at ≡ Take i
    → first_input m ≡ Present → has_total m.spec ≡ true → IsTooMany m.spec (plus m.sums m.counts)
    → (ys : ℕ → List ℕ) → IsEmptyOn (with_closed i (λ k. nat_lt k m.inputs.at)) ys
    → 2 ^ 63 ≤ greatest (all_numbers (wc_tallies m ys))
wc_closed_too_many m i wants here total many ys none =
    let e =
    ap (greatest_of m)
    (left_ended m.inputs.presence m.inputs.at i Present ys wants here none) in
    let k = closed_too_many m.spec m.inputs.at m.sums m.counts m.in_word
    (left m.inputs.presence (m.inputs.at + 1) ys) total many in
    omega arith

-- ---- what the code reads

present_is : (x : Presence) → is_present x ≡ true → x ≡ Present
present_is Present h = refl
present_is Missing h = absurd (cc)

missing_is : (x : Presence) → is_present x ≡ false → x ≡ Missing
missing_is Present h = absurd (cc)
missing_is Missing h = refl

-- what the code finds of the input that is wanted
pub input_is : (m : Wc) (v : Presence) → slice_get m.inputs.presence m.inputs.at ≡ Some v
    → v ≡ first_input m
input_is m v found = sym (here_is m.inputs.presence m.inputs.at v v found refl)

pub is_here : (m : Wc) (v : Presence) → slice_get m.inputs.presence m.inputs.at ≡ Some v
    → is_present v ≡ true → first_input m ≡ Present
is_here m v found h = here_is m.inputs.presence m.inputs.at v Present found (present_is v h)

pub is_gone : (m : Wc) (v : Presence) → slice_get m.inputs.presence m.inputs.at ≡ Some v
    → is_present v ≡ false → first_input m ≡ Missing
is_gone m v found h = here_is m.inputs.presence m.inputs.at v Missing found (missing_is v h)

-- whether it is the last one
pub last_is : (last : Bool) (a b : ℕ) → IsTrue last ↔ (a ≡ b) → last ≡ (a == b)
last_is true a b h = sym (eq-eqb a b (h.0 refl))
last_is false a b h = elim (eqb_tells a b) [
  | inl same ↦ h.1 (same.1) ∙ sym (same.0)
  | inr other ↦
      sym (other.0)
]

-- what was counted of the bytes of a piece
pub has_counted : (spec : WcSpec) (before after : Bool) (r : Counts) (bytes piece : List ℕ)
    → bytes ≡ piece → Agree spec r (counted_after nothing before bytes)
    → (spec.words ≡ true → after ≡ ends_in_word before bytes) → HasCounted spec before after r piece
has_counted spec before after r bytes piece e agree last =
    record {
      agree = subst (λ (x : List ℕ). Agree spec r (counted_after nothing before x)) e agree;
      last = λ h. last h ∙ ap (ends_in_word before) e;
    }
