-- What the machine of wc shows: it wants its inputs in order, and has counted a part of the one
-- that it wants.
use Rattle.std.specs.Prelude.{ℕ, ◌+◌, List, [], ◌∷◌, Bool, Option, Some, None, drop, slice_get}
use Rattle.std.specs.List.{flat_map}
use Rattle.std.proofs.Common.{ap, drop_of_length-le}
use Rattle.machine.specs.Law.{Shown, IsLawful}
use Rattle.machine.specs.Whole.{inputs_from}
use Rattle.machine.specs.declared.protocol.Presence.{Presence}
use Rattle.commands.specs.declared.wc_counts.Counts.{Counts}
use Rattle.commands.specs.declared.wc_words.WcSpec.{WcSpec}
use Rattle.byte_filters.specs.declared.wc.Wc.{Wc}
use Rattle.commands.specs.Wc.{Tally, counted_after, counts_of, greatest, numbers, total_of}
use Rattle.commands.specs.Wc.{written_line}
use Rattle.machine.specs.InOrder.{in_order, in_order_lawful}
use Rattle.byte_filters.specs.WcSteps.{with_sums}

-- the lines of the inputs from number i on, and of all, if these are the sums of those before
abbrev pub tallies_from : WcSpec → ℕ → Counts → List (Option (List ℕ)) → List Tally
tallies_from spec i sums [] = total_of spec sums
tallies_from spec i sums (None ∷ ins) = tallies_from spec (i + 1) sums ins
tallies_from spec i sums (Some xs ∷ ins) = (slice_get spec.operands i, numbers spec (counts_of xs))
    ∷ tallies_from spec (i + 1) (with_sums spec sums (counts_of xs)) ins

-- the same, if this was counted of input i before; none if no input is left
abbrev pub tallies_after : WcSpec → ℕ → Counts → Counts → Bool → List (Option (List ℕ)) → List Tally
tallies_after spec i sums counts before [] = []
tallies_after spec i sums counts before (None ∷ ins) = tallies_from spec (i + 1) sums ins
tallies_after spec i sums counts before (Some xs ∷ ins) =
    (slice_get spec.operands i, numbers spec (counted_after counts before xs))
    ∷ tallies_from spec (i + 1) (with_sums spec sums (counted_after counts before xs)) ins

-- the lines that it would still write
abbrev pub wc_tallies : Wc → (ℕ → List ℕ) → List Tally
wc_tallies m ys =
    tallies_after m.spec m.inputs.at m.sums m.counts m.in_word
    (inputs_from m.inputs.at (drop m.inputs.at m.inputs.presence) ys)

-- what the machine shows
abbrev pub wc_shows : Wc → Shown
wc_shows m =
    in_order m.inputs.presence m.inputs.at (λ ys. flat_map written_line (wc_tallies m ys))
    (λ ys. greatest (flat_map (λ (t : Tally). t.1) (wc_tallies m ys)))

-- it obeys the law
pub wc_lawful : (m : Wc) → IsLawful (wc_shows m)
wc_lawful m =
    in_order_lawful m.inputs.presence m.inputs.at (λ ys. flat_map written_line (wc_tallies m ys))
    (λ ys. greatest (flat_map (λ (t : Tally). t.1) (wc_tallies m ys))) (λ over ys.
    ap (λ (ps : List Presence). flat_map written_line
    (tallies_after m.spec m.inputs.at m.sums m.counts m.in_word
    (inputs_from m.inputs.at ps ys))) (drop_of_length-le m.inputs.presence over))
