-- When head wants an input: while its header or a line of it is still to come.
use Rattle.std.specs.Prelude.{◌≡◌, ℕ, Bool, true, ◌||◌, nat_lt, if◌then◌else◌}
use Rattle.machine.specs.declared.protocol.Want.TheVariants.{Take}
use Rattle.line_filters.specs.declared.head.Head.{Head}
use Rattle.line_filters.specs.declared.progress.Progress.{Progress}
use Rattle.line_filters.specs.HeadShows.{head_shows}

-- Whether the header or a line of the wanted input is still to come. Before the input has begun,
-- its header is to come if inputs have headers, and its lines are to come if some are written of
-- each input. After that its lines are to come if some are left.
abbrev pub is_to_come : Progress → Bool
is_to_come p = if p.begun then nat_lt 0 p.left else (p.titled || nat_lt 0 p.count)

-- a head wants an input only while the header or a line of that input is still to come
abbrev pub HeadsWantWhatIsToCome : Type 0
HeadsWantWhatIsToCome = (m : Head) (i : ℕ) → (head_shows m).wanted ≡ Take i
    → is_to_come m.progress ≡ true
