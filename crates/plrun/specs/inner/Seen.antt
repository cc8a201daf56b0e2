-- The looks of `--check` as the code keeps them.
use Rattle.std.specs.Prelude.{◌≡◌, List, ◌++◌, map, Option, Bool, false}
use Rattle.std.specs.List.{list_all}
use Rattle.command_line.specs.Words.{bytes_of_text}
use Rattle.plrun.specs.Looks.{AddsLooks, Look, RunFile, look_at}
use Rattle.plrun.specs.Looks as is
use Rattle.plrun.specs.declared.looks.KeptLook.{KeptLook}
use Rattle.plrun.specs.declared.looks.LookedAt.{LookedAt}
use Rattle.plrun.specs.declared.looks.LookedAt.TheVariants.{Input, Output, Report}
use Rattle.run_types.specs.declared.names.OutName.TheVariants as out_names

-- the file that is looked at
abbrev pub file_of : LookedAt → RunFile
file_of (Input opening) = is.Input opening.now.name
file_of (Output opening placing) = is.Output opening.now.name placing
file_of (Report name placing) =
    is.Output (out_names.File (bytes_of_text name.now) false) placing

-- the look at it
abbrev pub look_of : KeptLook → Look
look_of kept = look_at (file_of kept.file) kept.opens

-- the looks that are kept
abbrev pub looks_of : List KeptLook → List Look
looks_of kept = map look_of kept

-- each file can be opened
abbrev pub all_kept_open : List KeptLook → Bool
all_kept_open kept = list_all (λ (k : KeptLook). k.opens) kept

-- the files that they are at
abbrev pub files_in : List KeptLook → List RunFile
files_in kept = map (λ (l : Look). l.file) (looks_of kept)

-- These files were looked at, one after another, and each look is kept after those before it.
pub record GoesThrough (more : List RunFile) (old new : List KeptLook)
    (before after : Option (List Look)) : Type 0 where
  pub files : files_in new ≡ files_in old ++ more
  pub kept : (start : Option (List Look)) → AddsLooks start (looks_of old) before
      → AddsLooks start (looks_of new) after
