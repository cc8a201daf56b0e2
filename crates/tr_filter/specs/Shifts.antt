-- How the machine of tr makes what it makes. Of public contracts only what the machine shows cites
-- it.
use Rattle.std.specs.Prelude.{ℕ, ◌+◌, ◌%◌, Bool, List, Option, Some, None, map, slice_index}
use Rattle.std.specs.Prelude.{if◌then◌else◌}
use Rattle.tr_filter.specs.declared.shift.Shift.{Shift}
use Rattle.tr_filter.specs.declared.change.Change.{Change}
use Rattle.tr_filter.specs.declared.change.Change.TheVariants.{Leaves, Shifts, Moved, Ranged, Maps}
use Rattle.tr_filter.specs.declared.change.Change.TheVariants.{Deletes, Translates}
use Rattle.tr_filter.specs.declared.squeezing.Squeezing.{Squeezing}
use Rattle.tr_filter.specs.declared.tr.Way.{Way}
use Rattle.tr_words.specs.Classes.{all_bytes}
use Rattle.command_words.specs.Bytes.{is_from}
use Rattle.tr_filter.specs.Moves.{moves_table}
use Rattle.tr_filter.specs.Ranges.{ranges_table}
use Rattle.tr_words.specs.Tr.{squeezed, translated}

-- what a byte becomes, if those from one to another move by a distance, and 0 follows 255
abbrev pub shifted : Shift → ℕ → ℕ
shifted s x = if is_from s.low s.high x then (x + s.by) % 256 else x

-- for each byte what it becomes
abbrev pub shift_table : Shift → List ℕ
shift_table s = map (shifted s) all_bytes

-- what is left of these bytes after deletion and translation
abbrev pub changed : Change → List ℕ → List ℕ
changed (Leaves plain) xs = map (λ x. slice_index plain.table x) xs
changed (Shifts s) xs = map (λ x. slice_index (shift_table s) x) xs
changed (Moved ms) xs = map (λ x. slice_index (moves_table ms) x) xs
changed (Ranged rs) xs = map (λ x. slice_index (ranges_table rs) x) xs
changed (Maps table) xs = map (λ x. slice_index table x) xs
changed (Deletes d) xs = translated d.spec xs
changed (Translates spec) xs = translated spec xs

-- the bytes whose runs are squeezed
abbrev pub squeezed_set : Option Squeezing → Option (List Bool)
squeezed_set None = None
squeezed_set (Some s) = Some s.set

-- what is made of these bytes, if `last` comes before them
abbrev pub made_by : Way → Option ℕ → List ℕ → List ℕ
made_by way last xs = squeezed (squeezed_set way.squeezing) last (changed way.change xs)
