-- Which inputs of a plan lost a front, by the notes of their files.
--
-- tail of the last lines or bytes needs only the end of its input that has them (POSIX.1-2017 XCU
-- tail, OPTIONS -n and -c).
use Rattle.std.specs.Prelude.{◌≡◌, ℕ, ◌⊎◌, List, Option, Some}
use Rattle.std.specs.List.{slice_get}
use Rattle.collector.specs.Files.{FilesShown}
use Rattle.collector.specs.declared.needed.LeftOut.{LeftOut}
use Rattle.collector.specs.declared.needed.LeftOut.TheVariants.{Nothing, Once, Often}
use Rattle.planner.specs.Planned.{Planned}
use Rattle.planner.specs.declared.plan.InOpening.{InOpening}
use Rattle.openings.specs.Answers.{answer_at}
use Rattle.openings.specs.Needs.{IsNeededOnly}

-- This was left out of the input at this place: nothing; or a front, once, and every reader of the
-- input needs only the end that was asked for.
abbrev pub IsFrontAt : Planned → ℕ → LeftOut → Type 0
IsFrontAt plan place Nothing = Unit {0}
IsFrontAt plan place (Once needed) = (o : InOpening) × (slice_get plan.inputs place ≡ Some o)
    × ((k : ℕ) × (o.node ≡ Some k) × IsNeededOnly plan k needed)
IsFrontAt plan place Often = ⊥

-- Nothing was left out of any file but of the inputs that were opened, with these numbers by place,
-- and of these no front that a reader needs.
abbrev pub LeavesFronts : Planned → List (Option ℕ) → FilesShown → FilesShown → Type 0
LeavesFronts plan answers old new =
    (file : ℕ) → (new.left_out file ≡ old.left_out file)
    ⊎ ((place : ℕ) × (answer_at answers place ≡ Some file) × IsFrontAt plan place (new.left_out file))
