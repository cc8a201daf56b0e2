-- What the machine of uniq shows.
use Rattle.std.specs.Prelude.{◌≡◌, ℕ, List, [], ◌++◌, Bool, true, not, ◌&&◌, if◌then◌else◌}
use Rattle.std.proofs.Common.{ap}
use Rattle.std.proofs.lemmas.Bool.{and_right, not_from_true}
use Rattle.machine.specs.Law.{Shown, IsLawful}
use Rattle.machine.specs.OneInput.{one_input, one_input_lawful}
use Rattle.pair_filters.specs.declared.runs.Rules.{Rules}
use Rattle.pair_filters.specs.declared.uniq.Uniq.{Uniq}
use Rattle.pair_filters.specs.UniqSteps.{contents_behind, greatest_by, lines_begun, text_by}

-- What is still written if these lines came of the run that is not over, and `partial` is the
-- beginning of a line: nothing of a missing input, or once the input has ended.
abbrev pub uniq_still : Bool → Bool → Rules → List (List ℕ) → List ℕ → List ℕ → List ℕ
uniq_still present closed rules begun partial x = if present && not closed
    then text_by rules (begun ++ contents_behind partial x) else []

-- the greatest number in it
abbrev pub uniq_most : Bool → Bool → Rules → List (List ℕ) → List ℕ → List ℕ → ℕ
uniq_most present closed rules begun partial x = if present && not closed
    then greatest_by rules (begun ++ contents_behind partial x) else 0

abbrev pub uniq_shows : Uniq → Shown
uniq_shows m =
    one_input m.input.closed
    (uniq_still m.input.present m.input.closed m.begun.rules (lines_begun m.begun)
    m.partial.items)
    (uniq_most m.input.present m.input.closed m.begun.rules (lines_begun m.begun)
    m.partial.items)

none_by : (present closed : Bool) (rules : Rules) (begun : List (List ℕ)) (partial : List ℕ)
    → closed ≡ true → uniq_still present closed rules begun partial [] ≡ []
none_by present closed rules begun partial h =
    ap (λ (b : Bool). if b then text_by rules (begun ++ contents_behind partial [])
    else []) (and_right present (not closed) (not_from_true closed h))

-- it obeys the law
pub uniq_lawful : (m : Uniq) → IsLawful (uniq_shows m)
uniq_lawful m =
    one_input_lawful m.input.closed
    (uniq_still m.input.present m.input.closed m.begun.rules (lines_begun m.begun)
    m.partial.items)
    (uniq_most m.input.present m.input.closed m.begun.rules (lines_begun m.begun)
    m.partial.items)
    (none_by m.input.present m.input.closed m.begun.rules (lines_begun m.begun) m.partial.items)
