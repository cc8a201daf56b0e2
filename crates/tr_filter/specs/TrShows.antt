-- What the machine of tr shows.
use Rattle.std.specs.Prelude.{◌≡◌, ℕ, List, [], Bool, true, false, Option, if◌then◌else◌, refl}
use Rattle.machine.specs.Law.{Shown, IsLawful}
use Rattle.machine.specs.OneInput.{one_input, one_input_lawful}
use Rattle.tr_filter.specs.declared.tr.Tr.{Tr}
use Rattle.tr_filter.specs.declared.tr.Way.{Way}
use Rattle.tr_filter.specs.declared.change.Change.{Change}
use Rattle.tr_filter.specs.declared.change.Change.TheVariants.{Leaves, Shifts, Moved, Ranged, Maps}
use Rattle.tr_filter.specs.declared.change.Change.TheVariants.{Deletes, Translates}
use Rattle.tr_filter.specs.Shifts.{changed, made_by, squeezed_set}
use Rattle.tr_words.specs.Tr.{squeezed}

-- what it would still put out of this; of a missing input nothing
abbrev pub tr_rest : Tr → List ℕ → List ℕ
tr_rest m xs = if m.input.present then made_by m.spec m.last xs else []

-- what the machine shows
abbrev pub tr_shows : Tr → Shown
tr_shows m = one_input m.input.closed (tr_rest m) (λ xs. 0)

nothing_left : (set : Option (List Bool)) (last : Option ℕ) (c : Change)
    → squeezed set last (changed c []) ≡ []
nothing_left set last (Leaves plain) = refl
nothing_left set last (Shifts s) = refl
nothing_left set last (Moved ms) = refl
nothing_left set last (Ranged rs) = refl
nothing_left set last (Maps table) = refl
nothing_left set last (Deletes d) = refl
nothing_left set last (Translates spec) = refl

nothing_by : (b : Bool) (way : Way) (last : Option ℕ) → (if b then made_by way last [] else []) ≡ []
nothing_by true way last = nothing_left (squeezed_set way.squeezing) last way.change
nothing_by false way last = refl

-- it obeys the law
pub tr_lawful : (m : Tr) → IsLawful (tr_shows m)
tr_lawful m =
    one_input_lawful m.input.closed (tr_rest m) (λ xs. 0)
    (λ shut. nothing_by m.input.present m.spec m.last)
