-- What the machine of tail shows.
use Rattle.std.specs.Prelude.{◌≡◌, ℕ, List, [], ◌++◌, Bool, true, not, ◌&&◌, if◌then◌else◌}
use Rattle.std.proofs.Common.{ap}
use Rattle.std.proofs.lemmas.Bool.{and_right, not_from_true}
use Rattle.machine.specs.Law.{Shown, IsLawful}
use Rattle.machine.specs.OneInput.{one_input, one_input_lawful}
use Rattle.commands.specs.declared.tail_words.Counted.{Counted}
use Rattle.commands.specs.declared.tail_words.Origin.{Origin}
use Rattle.commands.specs.declared.tail_words.Origin.TheVariants.{Beginning, End}
use Rattle.line_filters.specs.declared.tail.Tail.{Tail}
use Rattle.line_filters.specs.KeptParts.{kept_bytes}
use Rattle.line_filters.specs.Skips.{skipped, last_of}

-- What is still written if these bytes are kept: what follows the members that are still skipped,
-- or this many last ones.
abbrev pub still_of : Counted → Origin → ℕ → List ℕ → List ℕ → List ℕ
still_of counted Beginning left kept x = skipped counted left x
still_of counted End left kept x = last_of counted left (kept ++ x)

-- nothing is written of a missing input, or once the input has ended
abbrev pub tail_still : Bool → Bool → Counted → Origin → ℕ → List ℕ → List ℕ → List ℕ
tail_still present closed counted origin left kept x = if present && not closed
    then still_of counted origin left kept x else []

abbrev pub tail_shows : Tail → Shown
tail_shows m =
    one_input m.input.closed
    (tail_still m.input.present m.input.closed m.kept.counted m.origin m.left
    (kept_bytes m.kept.full.items m.kept.last)) (λ x. 0)

none_by : (present closed : Bool) (counted : Counted) (origin : Origin) (left : ℕ) (kept : List ℕ)
    → closed ≡ true → tail_still present closed counted origin left kept [] ≡ []
none_by present closed counted origin left kept h =
    ap (λ (b : Bool). if b then still_of counted origin left kept []
    else []) (and_right present (not closed) (not_from_true closed h))

-- it obeys the law
pub tail_lawful : (m : Tail) → IsLawful (tail_shows m)
tail_lawful m =
    one_input_lawful m.input.closed
    (tail_still m.input.present m.input.closed m.kept.counted m.origin m.left
    (kept_bytes m.kept.full.items m.kept.last)) (λ x. 0)
    (none_by m.input.present m.input.closed m.kept.counted m.origin m.left
    (kept_bytes m.kept.full.items m.kept.last))
