-- What the process did, by the result of a request, and its exit status.
use Rattle.std.proofs.Common.{◌≡◌, ℕ, ◌≤◌, ◌&&◌, Bool, true, false, Result, Ok, Err, arith, refl}
use Rattle.std.proofs.Common.{inl, inr, sym, subst, if◌then◌else◌, Option, List}
use Rattle.std.specs.Prelude.{IfOk, IfErr, IfSome, OnErr, nat_lt}
use Rattle.collector.specs.Files.{FilesShown}
use Rattle.command_line.specs.declared.request.Request.{Request}
use Rattle.planner.specs.Planned.{Planned}
use Rattle.program.specs.Runs.{DoesWith, IsUndone}
use Rattle.program.specs.ScriptReads.{WritesNothing}
use Rattle.program.specs.Statuses.{status_of}
use Rattle.program.specs.declared.ending.Ending.{Ending}
use Rattle.program.specs.declared.ending.Ending.TheVariants as ending
use Rattle.program.specs.declared.ran.Ran.{Ran}
use Rattle.program.specs.declared.ran.Refused.{Refused}
use Rattle.plrun.specs.Looks.{FindsFiles, Look, check_of, found_status}
use Rattle.plrun.specs.Process.{EndsProcess, IsExitStatus, IsLost, ended_status, ends_quietly}
use Rattle.plrun.specs.Process.{is_quiet, names_report, told_status}
use Rattle.plrun.specs.declared.looks.AskedCheck.{AskedCheck}
use Rattle.plrun.specs.declared.looks.Found.{Found}
use Rattle.plrun.specs.declared.looks.Found.TheVariants.{All, NotAll, NoMemory}

status_within : (ended : Ending) → status_of ended ≤ 4
status_within (ending.Done true) = omega (arith)
status_within (ending.Done false) = omega (arith)
status_within (ending.Stalled waits circle) = omega (arith)
status_within (ending.Faulted why) = omega (arith)

told_is : (b : Bool) (ended : Ending) → IsExitStatus (if b then 141 else status_of ended)
told_is true ended = inr refl
told_is false ended = inl (status_within ended)

reported_is : (b : Bool) (told : ℕ) → IsExitStatus told → IsExitStatus (if b then 4 else told)
reported_is true told is = inl (omega (arith))
reported_is false told is = is

found_is : (found : Found) (status : ℕ) → IsExitStatus status
    → IsExitStatus (found_status found status)
found_is All status is = is
found_is NotAll status is = inl (omega (arith))
found_is NoMemory status is = inl (omega (arith))

ended_is : (quiet gone lost : Bool) (ended : Ending)
    → IsExitStatus (ended_status quiet gone lost ended)
ended_is quiet gone lost ended =
    reported_is (lost && nat_lt (told_status quiet gone ended) 2) (told_status quiet gone ended)
    (told_is (ends_quietly quiet gone ended) ended)

-- The status is that after an ending, with the statistics lost or not, and after what was found by
-- looks. Whether a file is named for the statistics, and whether its last write failed, is known.
abbrev IsAfter : (quiet gone named failed : Bool) → Option AskedCheck → Option Planned
    → (before after : Option (List Look)) → ℕ → Ending → Type 0
IsAfter quiet gone named failed check plan before after status ended =
    (lost : Bool) × (found : Found) × IsLost named failed lost
    × FindsFiles check plan (ended_status quiet gone lost ended) before after found
    × (status ≡ found_status found (ended_status quiet gone lost ended))

module _
    (quiet gone named failed : Bool) (check : Option AskedCheck) (before after : Option (List Look))
    (status : ℕ) where
  -- the exit status of a result
  pub exit_status : (came_to : Result Ran Refused)
      → IfOk came_to
      (λ ran. IsAfter quiet gone named failed check ran.read.plan before after status ran.ending)
      → OnErr came_to (status ≡ 2) → IsExitStatus status
  exit_status (Ok ran) (lost, found, is_lost, finds, is) two =
      subst IsExitStatus (sym is)
      (found_is found (ended_status quiet gone lost ran.ending)
      (ended_is quiet gone lost ran.ending))
  exit_status (Err refused) is two = inl (omega (arith, two))

  module _ (contents_known : Bool) (request : Request) (old mid new : FilesShown) (same : new ≡ mid)
      (known : Option Bool) (told : IfSome known (λ is. gone ≡ is))
      (is_quiet_ : quiet ≡ is_quiet request) (is_check_ : check ≡ check_of request)
      (is_named : named ≡ names_report request) where
    -- what was done, and its status
    pub ends_process : (came_to : Result Ran Refused)
        → IfOk came_to
        (λ ran. IsAfter quiet gone named failed check ran.read.plan before after status ran.ending)
        → OnErr came_to (status ≡ 2)
        → OnErr came_to (after ≡ before)
        → IfOk came_to (λ ran. DoesWith contents_known request ran.read.plan old mid ran.ending)
        → IfErr came_to (λ refused. IsUndone contents_known request old mid refused.why)
        → OnErr came_to (WritesNothing old mid)
        → EndsProcess contents_known request old new known failed before after status
    ends_process (Ok ran) (lost, found, is_lost, finds, is) two unlooked done undone kept =
        subst (λ (n : FilesShown). EndsProcess contents_known request old n known failed before after
        status) (sym same)
        (inr (
          ran.ending,
          ran.read.plan,
          gone,
          lost,
          found,
          done,
          told,
          subst (λ (b : Bool). IsLost b failed lost) is_named is_lost,
          subst (λ (b : Bool). FindsFiles (check_of request) ran.read.plan
              (ended_status b gone lost ran.ending) before after found
              × (status ≡ found_status found (ended_status b gone lost ran.ending))) is_quiet_ (
                subst (λ (c : Option AskedCheck). FindsFiles c ran.read.plan
                    (ended_status quiet gone lost ran.ending) before after found) is_check_ finds,
                is,
              ),
        ))
    ends_process (Err refused) is two unlooked done undone kept =
        subst (λ (n : FilesShown). EndsProcess contents_known request old n known failed before after
        status) (sym same)
        (inl (two, kept, (refused.why, undone), unlooked))
